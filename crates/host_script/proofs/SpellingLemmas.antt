-- Texts are read as they are spelled.
use Rattle.std.proofs.Common.{◌≡◌, ◌==◌, ◌&&◌, ◌↔◌, ℕ, zero, suc, ◌+◌, ◌-◌, ◌*◌, ◌<◌, ◌≤◌, Bool, true, false, List, [], ◌∷◌, ◌++◌, length, Option, Some, None, if◌then◌else◌, refl, sym, ap, subst, ◌∙◌, arith}
use Rattle.std.specs.Prelude.{nat_le, IsUtf8, chars}
use Rattle.std.specs.Str.{is_utf8}
use Rattle.std.specs.Char.Escape.{encode_utf16}
use Rattle.std.proofs.lemmas.Bool.{eqb-true, leb-true, and_parts}
use Rattle.std.proofs.lemmas.Str.{IsUtf8-from_is_utf8, is_utf8-from_IsUtf8}
use Rattle.host_script.specs.Spelling.{Spells, closes, plain, quote, backslash, line_feed, unit, IsText}
use Rattle.host_script.specs.Text.{hex_digit, unit_with, end_place, units_from, is_closed, text_of}
use Rattle.host_script.specs.declared.text.TextPlace.{TextPlace}
use Rattle.host_script.specs.declared.text.TextPlace.TheVariants.{Opening, Open, Escape, Digit, Closed, Bad}

some_is : {a b : ℕ} → Some a ≡ Some b → a ≡ b
some_is e = cc

none_some : {d : ℕ} → None ≡ Some d → ⊥
none_some e = cc

some_units : {a b : List ℕ} → Some a ≡ Some b → a ≡ b
some_units e = cc

none_units : {us : List ℕ} → None ≡ Some us → ⊥
none_units e = cc

bad_closed : Bad ≡ Closed → ⊥
bad_closed e = cc

open_closed : Open ≡ Closed → ⊥
open_closed e = cc

opening_closed : Opening ≡ Closed → ⊥
opening_closed e = cc

escape_closed : Escape ≡ Closed → ⊥
escape_closed e = cc

digit_closed : {more value : ℕ} → Digit more value ≡ Closed → ⊥
digit_closed e = cc

small : (t u v : Bool) (c : ℕ) → (nat_le 48 c && nat_le c 57) ≡ t → (nat_le 65 c && nat_le c 70) ≡ u →
    (nat_le 97 c && nat_le c 102) ≡ v → (d : ℕ) → hex_digit c ≡ Some d → d < 16
small true u v c e f g d is =
    let range = and_parts (nat_le 48 c) (nat_le c 57) e in let high = leb-true c 57 range.1 in
    let value : Some (c - 48) ≡ Some d = rw e at is in let same = some_is value in omega arith
small false true v c e f g d is =
    let range = and_parts (nat_le 65 c) (nat_le c 70) f in let high = leb-true c 70 range.1 in
    let value : Some (c - 65 + 10) ≡ Some d = rw (e, f) at is in let same = some_is value in omega arith
small false false true c e f g d is =
    let range = and_parts (nat_le 97 c) (nat_le c 102) g in let high = leb-true c 102 range.1 in
    let value : Some (c - 97 + 10) ≡ Some d = rw (e, f, g) at is in let same = some_is value in omega arith
small false false false c e f g d is = let none : None ≡ Some d = rw (e, f, g) at is in absurd (none_some none)

pub digit_small : (c d : ℕ) → hex_digit c ≡ Some d → d < 16
digit_small c d is = small _ _ _ c refl refl refl d is

four : (w x y z : ℕ) → w < 16 → x < 16 → y < 16 →
    unit_with (unit_with (unit_with (unit_with 0 w) x) y) z ≡ ((w * 16 + x) * 16 + y) * 16 + z
four w x y z lw lx ly = omega arith

-- what is spelled is read
pub spelled_read : (cs us : List ℕ) → Spells cs us → (end_place Open cs ≡ Closed) × (units_from Open cs ≡ us)
spelled_read _ _ closes = (refl, refl)
spelled_read _ _ (plain c cs us e f s) =
    let rest = spelled_read cs us s in
    (rw (e, f) rest.0, rw (e, f) (ap (λ v. encode_utf16 c ++ v) rest.1))
spelled_read _ _ (quote cs us s) = let rest = spelled_read cs us s in (rest.0, ap (λ v. 34 ∷ v) rest.1)
spelled_read _ _ (backslash cs us s) = let rest = spelled_read cs us s in (rest.0, ap (λ v. 92 ∷ v) rest.1)
spelled_read _ _ (line_feed cs us s) = let rest = spelled_read cs us s in (rest.0, ap (λ v. 10 ∷ v) rest.1)
spelled_read _ _ (unit a b c d w x y z cs us ea eb ec ed s) =
    let rest = spelled_read cs us s in
    let value = four w x y z (digit_small a w ea) (digit_small b x eb) (digit_small c y ec) in
    (rw (ea, eb, ec, ed) rest.0, rw (ea, eb, ec, ed) (λ i. value i ∷ rest.1 i))

bad_stays : (cs : List ℕ) → end_place Bad cs ≡ Bad
bad_stays [] = refl
bad_stays (c ∷ cs) = bad_stays cs

never_bad : (cs : List ℕ) → end_place Bad cs ≡ Closed → ⊥
never_bad cs e = bad_closed (sym (bad_stays cs) ∙ e)

after_closing : (cs : List ℕ) → end_place Closed cs ≡ Closed → cs ≡ []
after_closing [] e = refl
after_closing (c ∷ cs) e = absurd (never_bad cs e)

-- a digit that is due stands there
record Next (more value : ℕ) (cs : List ℕ) : Type 0 where
  digit : ℕ
  hex : ℕ
  rest : List ℕ
  is : cs ≡ digit ∷ rest
  has : hex_digit digit ≡ Some hex
  ends : end_place (if more == 0 then Open else Digit (more - 1) (unit_with value hex)) rest ≡ Closed

next_of : (more value c : ℕ) (cs : List ℕ) (o : Option ℕ) → hex_digit c ≡ o →
    end_place (Digit more value) (c ∷ cs) ≡ Closed → Next more value (c ∷ cs)
next_of more value c cs None is e = absurd (never_bad cs (rw is at e))
next_of more value c cs (Some d) is e =
    record { digit = c; hex = d; rest = cs; is = refl; has = is; ends = rw is at e }

next : (more value : ℕ) (cs : List ℕ) → end_place (Digit more value) cs ≡ Closed → Next more value cs
next more value [] e = absurd (digit_closed e)
next more value (c ∷ cs) e = next_of more value c cs (hex_digit c) refl e

abbrev Reads : List ℕ → Type 0
Reads cs = end_place Open cs ≡ Closed → Spells cs (units_from Open cs)

digits_read : (cs : List ℕ) → ((xs : List ℕ) → length xs ≤ length cs → Reads xs) →
    end_place (Digit 3 0) cs ≡ Closed → Spells (92 ∷ 117 ∷ cs) (units_from (Digit 3 0) cs)
digits_read cs ih e =
    let a = next 3 0 cs e in
    let b = next 2 (unit_with 0 a.hex) a.rest a.ends in
    let c = next 1 (unit_with (unit_with 0 a.hex) b.hex) b.rest b.ends in
    let d = next 0 (unit_with (unit_with (unit_with 0 a.hex) b.hex) c.hex) c.rest c.ends in
    let whole : cs ≡ a.digit ∷ b.digit ∷ c.digit ∷ d.digit ∷ d.rest =
    a.is ∙ ap (λ xs. a.digit ∷ xs) (b.is ∙ ap (λ xs. b.digit ∷ xs) (c.is ∙ ap (λ xs. c.digit ∷ xs) d.is)) in
    let long = ap length whole in
    let more = ih d.rest (omega arith) d.ends in
    let value = four a.hex b.hex c.hex d.hex (digit_small a.digit a.hex a.has) (digit_small b.digit b.hex b.has)
    (digit_small c.digit c.hex c.has) in
    let ea = a.has in let eb = b.has in let ec = c.has in let ed = d.has in
    let units : units_from (Digit 3 0) (a.digit ∷ b.digit ∷ c.digit ∷ d.digit ∷ d.rest)
    ≡ (((a.hex * 16 + b.hex) * 16 + c.hex) * 16 + d.hex) ∷ units_from Open d.rest =
    rw (ea, eb, ec, ed) (ap (λ v. v ∷ units_from Open d.rest) value) in
    let P : List ℕ → Type 0 = λ xs. Spells (92 ∷ 117 ∷ xs) (units_from (Digit 3 0) xs) in
    let Q : List ℕ → Type 0 = λ us. Spells (92 ∷ 117 ∷ a.digit ∷ b.digit ∷ c.digit ∷ d.digit ∷ d.rest) us in
    subst P (sym whole) (subst Q (sym units) (unit a.digit b.digit c.digit d.digit a.hex b.hex c.hex d.hex d.rest
    (units_from Open d.rest) ea eb ec ed more))

module _ (cs : List ℕ) (ih : (xs : List ℕ) → length xs ≤ length cs → Reads xs) where
  escape_at : (c : ℕ) (t u v s : Bool) → (c == 34) ≡ t → (c == 92) ≡ u → (c == 110) ≡ v → (c == 117) ≡ s →
      end_place Escape (c ∷ cs) ≡ Closed → Spells (92 ∷ c ∷ cs) (units_from Escape (c ∷ cs))
  escape_at c true u v s e f g h ends =
      let P : ℕ → Type 0 = λ n. Spells (92 ∷ n ∷ cs) (units_from Escape (n ∷ cs)) in
      subst P (sym (eqb-true c 34 e)) (quote cs _ (ih cs (omega arith) (rw e at ends)))
  escape_at c false true v s e f g h ends =
      let P : ℕ → Type 0 = λ n. Spells (92 ∷ n ∷ cs) (units_from Escape (n ∷ cs)) in
      subst P (sym (eqb-true c 92 f)) (backslash cs _ (ih cs (omega arith) (rw (e, f) at ends)))
  escape_at c false false true s e f g h ends =
      let P : ℕ → Type 0 = λ n. Spells (92 ∷ n ∷ cs) (units_from Escape (n ∷ cs)) in
      subst P (sym (eqb-true c 110 g)) (line_feed cs _ (ih cs (omega arith) (rw (e, f, g) at ends)))
  escape_at c false false false true e f g h ends =
      let P : ℕ → Type 0 = λ n. Spells (92 ∷ n ∷ cs) (units_from Escape (n ∷ cs)) in
      subst P (sym (eqb-true c 117 h)) (digits_read cs ih (rw (e, f, g, h) at ends))
  escape_at c false false false false e f g h ends = absurd (never_bad cs (rw (e, f, g, h) at ends))

escape_read : (cs : List ℕ) → ((xs : List ℕ) → length xs ≤ length cs → Reads xs) →
    end_place Escape cs ≡ Closed → Spells (92 ∷ cs) (units_from Escape cs)
escape_read [] ih ends = absurd (escape_closed ends)
escape_read (c ∷ cs) ih ends =
    escape_at cs (λ xs le. ih xs (omega arith)) c _ _ _ _ refl refl refl refl ends

open_at : (c : ℕ) (cs : List ℕ) → ((xs : List ℕ) → length xs ≤ length cs → Reads xs) → (t u : Bool) →
    (c == 34) ≡ t → (c == 92) ≡ u → Reads (c ∷ cs)
open_at c cs ih true u e f ends =
    let none = after_closing cs (rw e at ends) in
    let P : List ℕ → Type 0 = λ xs. Spells xs (units_from Open xs) in
    subst P (sym (λ i. eqb-true c 34 e i ∷ none i)) closes
open_at c cs ih false true e f ends =
    let P : ℕ → Type 0 = λ n. Spells (n ∷ cs) (units_from Open (n ∷ cs)) in
    subst P (sym (eqb-true c 92 f)) (escape_read cs ih (rw (e, f) at ends))
open_at c cs ih false false e f ends =
    let rest = ih cs (omega arith) (rw (e, f) at ends) in
    let P : List ℕ → Type 0 = λ us. Spells (c ∷ cs) us in
    let units : encode_utf16 c ++ units_from Open cs ≡ units_from Open (c ∷ cs) = sym (rw (e, f) refl) in
    subst P units (plain c cs (units_from Open cs) e f rest)

read_below : (n : ℕ) (cs : List ℕ) → length cs ≤ n → Reads cs
read_below n [] le ends = absurd (open_closed ends)
read_below zero (c ∷ cs) le ends = absurd (omega arith)
read_below (suc n) (c ∷ cs) le ends =
    open_at c cs (λ xs less. read_below n xs (omega arith)) _ _ refl refl ends

closed_is : (place : TextPlace) → is_closed place ≡ true → place ≡ Closed
closed_is Closed e = refl
closed_is Opening e = cc
closed_is Open e = cc
closed_is Escape e = cc
closed_is (Digit more value) e = cc
closed_is Bad e = cc

-- a text that is read is spelled
in_text : (word cs units : List ℕ) → chars word ≡ cs → IsUtf8 word → end_place Opening cs ≡ Closed →
    units ≡ units_from Opening cs → IsText word units
in_text word [] units are utf8 ends is = absurd (opening_closed ends)
in_text word (c ∷ cs) units are utf8 ends is = first (c == 34) refl
  where
    first : (t : Bool) → (c == 34) ≡ t → IsText word units
    first true e =
        let said : units ≡ units_from Open cs = is ∙ rw e refl in
        let P : List ℕ → Type 0 = λ us. Spells cs us in
        record {
          utf8 = utf8;
          rest = cs;
          opens = are ∙ ap (λ n. n ∷ cs) (eqb-true c 34 e);
          spells = subst P (sym said) (read_below (length cs) cs (omega arith) (rw e at ends));
        }
    first false e = absurd (never_bad cs (rw e at ends))

module _ (word units : List ℕ) where
  is_read : (t u : Bool) → is_utf8 word ≡ t → is_closed (end_place Opening (chars word)) ≡ u →
      text_of word ≡ Some units → IsText word units
  is_read true true e f is =
      let said : Some (units_from Opening (chars word)) ≡ Some units = rw (e, f) at is in
      in_text word (chars word) units refl (IsUtf8-from_is_utf8 word e) (closed_is _ f) (sym (some_units said))
  is_read true false e f is = let none : None ≡ Some units = rw (e, f) at is in absurd (none_units none)
  is_read false u e f is = let none : None ≡ Some units = rw e at is in absurd (none_units none)

  is_spelled : IsText word units → text_of word ≡ Some units
  is_spelled text =
      let utf8 = is_utf8-from_IsUtf8 word text.utf8 in
      let opens = text.opens in
      let read = spelled_read text.rest units text.spells in
      let ends = read.0 in let said = read.1 in
      rw (utf8, opens, ends, said) refl

  pub text_spelled : (text_of word ≡ Some units) ↔ IsText word units
  text_spelled = (is_read _ _ refl refl, is_spelled)
