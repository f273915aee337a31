-- Lemmas on quoted texts.
use Rattle.std.proofs.Common.{◌≡◌, ℕ, ◌+◌, ◌-◌, ◌/◌, ◌%◌, ◌<◌, ◌≤◌, ◌⊎◌, inl, inr, Bool, true, false, List, [], ◌∷◌, ◌++◌, length, drop, refl, sym, ◌∙◌, ap, append_assoc, append-nil, take, Option, encode_utf8, arith, lt-ltb, le-ltb, ltb-false}
use Rattle.std.specs.Prelude.{if◌then◌else◌, nat_lt}
use Rattle.std.specs.Char.{IsScalar}
use Rattle.std.specs.Char.Escape.{encode_utf16}
use Rattle.std.specs.Char.Utf16.{surrogate_pair_char, is_high_surrogate}
use Rattle.std.proofs.Math.Utf8.{scalar_cases}
use Rattle.std.proofs.lemmas.Bool.{cond_both, lt-leb, le-leb}
use Rattle.host_report.specs.declared.line.Line.{Line}
use Rattle.host_report.specs.Line.{Puts}
use Rattle.host_report.specs.Quote.{is_pair, unit_text, units_text, first_text, first_length, IsApart}
use Rattle.host_report.proofs.LineLemmas.{rest_from, puts_as, puts_then}

-- one choice in two texts
split_if : (b : Bool) (one two rest_one rest_two : List ℕ) (n m : ℕ) (units : List ℕ) →
    rest_one ≡ units_text (drop n units) → rest_two ≡ units_text (drop m units) →
    (if b then one ++ rest_one else two ++ rest_two) ≡ (if b then one else two) ++ units_text (drop (if b then n else m) units)
split_if true one two rest_one rest_two n m units p q = ap (λ t. one ++ t) p
split_if false one two rest_one rest_two n m units p q = ap (λ t. two ++ t) q

-- the text of the first character, and of those after it
pub units_first : (units : List ℕ) →
    units_text units ≡ first_text units ++ units_text (drop (first_length units) units)
units_first [] = refl
units_first (unit ∷ []) = sym (append-nil (first_text (unit ∷ [])))
units_first (unit ∷ next ∷ units) =
    split_if (is_pair unit next) (encode_utf8 (surrogate_pair_char unit next)) (unit_text unit) (units_text units) (units_text (next ∷ units)) 2 1 (unit ∷ next ∷ units) refl refl

next_rest : (rest : List ℕ) (n : ℕ) → n ≡ first_length rest →
    drop (first_length rest) rest ≡ take (length rest - n) (drop n rest)
next_rest rest n e = ap (λ k. drop k rest) (sym e) ∙ sym (rest_from rest n)

-- the next character was put
pub puts_first : {S : Type 0} {written : S → Option (List ℕ)} {faults : S → ℕ} {old mid new : Line} {from via to : S} {n : ℕ} (units rest : List ℕ) →
    (done : List ℕ) × (units_text units ≡ done ++ units_text rest) × Puts written faults old from mid via done →
    Puts written faults mid via new to (first_text rest) → n ≡ first_length rest →
    (done : List ℕ) × (units_text units ≡ done ++ units_text (take (length rest - n) (drop n rest))) × Puts written faults old from new to done
puts_first {n = n} units rest (done, whole, p) q e = (
  done ++ first_text rest,
  whole ∙ ap (λ t. done ++ t) (units_first rest)
      ∙ sym (append_assoc done (first_text rest) (units_text (drop (first_length rest) rest)))
      ∙ ap (λ t. (done ++ first_text rest) ++ units_text t) (next_rest rest n e),
  puts_then p q,
)

-- all was put, since nothing is left
pub puts_ended : {S : Type 0} {written : S → Option (List ℕ)} {faults : S → ℕ} {old new : Line} {from to : S} (text : List ℕ → List ℕ) (all rest : List ℕ) →
    text [] ≡ [] → length rest ≡ 0 →
    (done : List ℕ) × (text all ≡ done ++ text rest) × Puts written faults old from new to done →
    Puts written faults old from new to (text all)
puts_ended text all [] nothing none (done, whole, put) =
    puts_as (sym (append-nil done) ∙ ap (λ more. done ++ more) (sym nothing) ∙ sym whole) put
puts_ended text all (unit ∷ rest) nothing none (done, whole, put) = absurd (omega arith)

-- a unit that begins no pair
pub first_alone : (unit : ℕ) (rest : List ℕ) → is_high_surrogate unit ≡ false → units_text (unit ∷ rest) ≡ unit_text unit ++ units_text rest
first_alone unit [] e = sym (append-nil (unit_text unit))
first_alone unit (next ∷ rest) e = rw e refl

pub first_pair : (high low : ℕ) (rest : List ℕ) → is_pair high low ≡ true → units_text (high ∷ low ∷ rest) ≡ encode_utf8 (surrogate_pair_char high low) ++ units_text rest
first_pair high low rest e = rw e refl

-- nothing, one unit that begins no pair, a pair, and two texts
pub apart_none : IsApart []
apart_none rest = refl

pub apart_alone : (unit : ℕ) → is_high_surrogate unit ≡ false → IsApart (unit ∷ [])
apart_alone unit e rest = first_alone unit rest e

apart_pair : (high low : ℕ) → is_pair high low ≡ true → IsApart (high ∷ low ∷ [])
apart_pair high low e rest =
    first_pair high low rest e
    ∙ ap (λ t. t ++ units_text rest) (sym (first_pair high low [] e ∙ append-nil (encode_utf8 (surrogate_pair_char high low))))

pub apart_then : (a b : List ℕ) → IsApart a → IsApart b → IsApart (a ++ b)
apart_then a b p q rest =
    ap units_text (append_assoc a b rest)
    ∙ p (b ++ rest)
    ∙ ap (λ t. units_text a ++ t) (q rest)
    ∙ sym (append_assoc (units_text a) (units_text b) (units_text rest))
    ∙ ap (λ t. t ++ units_text rest) (sym (p b))

-- the units of a character
below_surrogates : (c : ℕ) → (c < 0xD800) ⊎ ((0xE000 ≤ c) × (c < 0x11_0000)) → is_high_surrogate c ≡ false
below_surrogates c (inl below) = rw (lt-leb 0xD800 c below) refl
below_surrogates c (inr within) =
    rw (le-leb 0xD800 c (omega (arith, within.0)), le-ltb c 0xDC00 (omega (arith, within.0))) refl

top : (c : ℕ) → (c < 0xD800) ⊎ ((0xE000 ≤ c) × (c < 0x11_0000)) → c < 0x11_0000
top c (inl below) = omega arith
top c (inr within) = within.1

-- the two units of a character beyond the first plane are a pair
pub pair_of : (over : ℕ) → over < 0x10_0000 → is_pair (0xD800 + over / 0x400) (0xDC00 + over % 0x400) ≡ true
pair_of over few =
    let high : over / 0x400 < 0x400 = omega arith in
    let low : over % 0x400 < 0x400 = omega arith in
    rw (
      le-leb 0xD800 (0xD800 + over / 0x400) (omega arith),
      lt-ltb (0xD800 + over / 0x400) 0xDC00 (omega arith),
      le-leb 0xDC00 (0xDC00 + over % 0x400) (omega arith),
      lt-ltb (0xDC00 + over % 0x400) 0xE000 (omega arith),
    ) refl

pub apart_char : (c : ℕ) → IsScalar c → IsApart (encode_utf16 c)
apart_char c scalar =
    let range = scalar_cases c scalar in
    cond_both (nat_lt c 0x1_0000) _ _ IsApart
    (λ _. apart_alone c (below_surrogates c range))
    (λ beyond. apart_pair (0xD800 + (c - 0x1_0000) / 0x400) (0xDC00 + (c - 0x1_0000) % 0x400)
    (pair_of (c - 0x1_0000) (omega (arith, top c range, ltb-false c 0x1_0000 beyond))))

-- a unit that begins no pair stands between two texts
pub units_joined : (a b : List ℕ) (unit : ℕ) → IsApart a → is_high_surrogate unit ≡ false →
    units_text (a ++ unit ∷ b) ≡ (units_text a ++ unit_text unit) ++ units_text b
units_joined a b unit p e =
    p (unit ∷ b)
    ∙ ap (λ t. units_text a ++ t) (first_alone unit b e)
    ∙ sym (append_assoc (units_text a) (unit_text unit) (units_text b))

pub apart_joined : (a b : List ℕ) (unit : ℕ) → IsApart a → is_high_surrogate unit ≡ false → IsApart b → IsApart (a ++ unit ∷ b)
apart_joined a b unit p e q = apart_then a (unit ∷ b) p (apart_then (unit ∷ []) b (apart_alone unit e) q)
