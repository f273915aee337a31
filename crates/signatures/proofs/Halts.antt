-- Where a reading halts: a spelling begins with what stands before, and the byte there ends the reading, whatever
-- comes after it.
use Rattle.std.proofs.Common.{◌≡◌, ℕ, zero, suc, ◌+◌, ◌-◌, ◌*◌, ◌%◌, ◌≤◌, ◌<◌, ◌⊎◌, inl, inr, Bool, true, false, cond, List, [], ◌∷◌, ◌++◌, length, get_or, Option, Some, None, Result, Ok, Err, refl, sym, ap, ◌∙◌, subst, append_assoc, length-append, arith, ltb-true, ltb-false, lt-ltb, le-ltb}
use Rattle.std.specs.Prelude.{◌==◌, nat_lt}
use Rattle.std.proofs.lemmas.List.{append-nil}
use Rattle.std.proofs.lemmas.Bool.{cond_both}
use Rattle.cli_words.specs.Compressed.{Spells, number_at_front, two_bytes, four_bytes}
use Rattle.signatures.specs.declared.feature.Feature as feature
use Rattle.signatures.specs.declared.fault.Stop.{Stop}
use Rattle.signatures.specs.declared.fault.Stop.TheVariants.{Bad, Feature}
use Rattle.signatures.specs.Grammar.{Reading, ◌>>=◌, no_table, unread, after_number, number_at, class_at}
use Rattle.signatures.specs.Spelling.{SpellsClass}
use Rattle.signatures.specs.Laws.{AreBytes, IsFront, OfTypes}
use Rattle.signatures.proofs.Found.{number-found}
use Rattle.signatures.proofs.Again.{number-again}

-- by a byte, with these bytes left from it on, and by that byte whatever comes after it; with none left, as cut
abbrev pub Told : (List ℕ → ℕ → feature.Feature → Type 0) → (List ℕ → Stop → Type 0) → List ℕ → List ℕ → Stop → Type 0
Told LeavesOut Reads front [] end = end ≡ Bad 0
Told LeavesOut Reads front (byte ∷ rest) (Bad left) =
    (left ≡ length (byte ∷ rest)) × ((others : List ℕ) → Reads (front ++ byte ∷ others) (Bad (length (byte ∷ others))))
Told LeavesOut Reads front (byte ∷ rest) (Feature name) =
    LeavesOut front byte name × ((others : List ℕ) → Reads (front ++ byte ∷ others) (Feature name))

pub record Halts (LeavesOut : List ℕ → ℕ → feature.Feature → Type 0) (Front : List ℕ → Type 0) (Reads : List ℕ → Stop → Type 0)
    (bytes : List ℕ) (end : Stop) : Type 0 where
  pub front : List ℕ
  pub rest : List ℕ
  pub split : bytes ≡ front ++ rest
  pub goes : Front front
  pub told : Told LeavesOut Reads front rest end

abbrev pub Ends : {B : Type 0} → (List ℕ → Result B Stop) → List ℕ → Stop → Type 0
Ends read bytes end = read bytes ≡ Err end

pub same_end : {A : Type 0} (a b : Stop) → ◌≡◌ {A = Result A Stop} (Err a) (Err b) → a ≡ b
same_end {A} a b h = let stop : Result A Stop → Stop = λ r. elim r [ Ok x ↦ a | Err end ↦ end ] in ap stop h

-- one of two readings ended
pub either_ends : {A B : Type 0} (r : Result A Stop) (f : A → Result B Stop) (end : Stop) (Goal : Type 0) → (r >>= f) ≡ Err end
    → (r ≡ Err end → Goal) → ((x : A) → r ≡ Ok x → f x ≡ Err end → Goal) → Goal
either_ends (Ok x) f end Goal h first second = second x refl h
either_ends (Err stop) f end Goal h first second = first (ap (λ s. Err s) (same_end stop end h))

pub bind-ends : {A B : Type 0} (r : Result A Stop) (f : A → Result B Stop) (end : Stop) → r ≡ Err end → (r >>= f) ≡ Err end
bind-ends r f end h = rw h refl

-- by the byte that is the first of the rest
pub bad_at : (L : List ℕ → ℕ → feature.Feature → Type 0) (R : List ℕ → Stop → Type 0) (front : List ℕ) (byte : ℕ) (rest : List ℕ) (end : Stop)
    → end ≡ Bad (length (byte ∷ rest)) → ((others : List ℕ) → R (front ++ byte ∷ others) (Bad (length (byte ∷ others)))) → Told L R front (byte ∷ rest) end
bad_at L R front byte rest end e reads = subst (λ s. Told L R front (byte ∷ rest) s) (sym e) (refl, reads)

pub feature_at : (L : List ℕ → ℕ → feature.Feature → Type 0) (R : List ℕ → Stop → Type 0) (front : List ℕ) (byte : ℕ) (rest : List ℕ) (name : feature.Feature) (end : Stop)
    → end ≡ Feature name → L front byte name → ((others : List ℕ) → R (front ++ byte ∷ others) (Feature name)) → Told L R front (byte ∷ rest) end
feature_at L R front byte rest name end e named reads = subst (λ s. Told L R front (byte ∷ rest) s) (sym e) (named, reads)

-- the bytes are cut
pub cut_at : {L : List ℕ → ℕ → feature.Feature → Type 0} {F : List ℕ → Type 0} {R : List ℕ → Stop → Type 0} (bytes : List ℕ) (end : Stop)
    → F bytes → end ≡ Bad 0 → Halts L F R bytes end
cut_at bytes end goes e = record { front = bytes; rest = []; split = sym (append-nil bytes); goes = goes; told = e }

abbrev pub first : List ℕ → Option ℕ
first [] = None
first (byte ∷ bytes) = Some byte

first_same : (front xs ys : List ℕ) (byte : ℕ) → first (front ++ byte ∷ xs) ≡ first (front ++ byte ∷ ys)
first_same [] xs ys byte = refl
first_same (x ∷ front) xs ys byte = refl

-- a reading that goes on with what was left by others
pub halts-after : {M L : List ℕ → ℕ → feature.Feature → Type 0} {G F : List ℕ → Type 0} {Q R : List ℕ → Stop → Type 0} (taken rest bytes : List ℕ) (end : Stop)
    → bytes ≡ taken ++ rest
    → ((front : List ℕ) (byte : ℕ) (name : feature.Feature) → M front byte name → L (taken ++ front) byte name)
    → ((front : List ℕ) → G front → F (taken ++ front))
    → ((others : List ℕ) (s : Stop) → first others ≡ first rest → Q others s → R (taken ++ others) s)
    → Halts M G Q rest end → Halts L F R bytes end
halts-after {M} {L} {G} {F} {Q} {R} taken rest bytes end e named grows reads h = record {
  front = taken ++ h.front;
  rest = h.rest;
  split = e ∙ (ap (λ (zs : List ℕ). taken ++ zs) h.split ∙ sym (append_assoc taken h.front h.rest));
  goes = grows h.front h.goes;
  told = told_after h.rest end h.split h.told;
} where
  moved : (byte : ℕ) (left others : List ℕ) (s : Stop) → rest ≡ h.front ++ byte ∷ left → Q (h.front ++ byte ∷ others) s → R ((taken ++ h.front) ++ byte ∷ others) s
  moved byte left others s e q =
      let begins : first (h.front ++ byte ∷ others) ≡ first rest = first_same h.front others left byte ∙ ap first (sym e) in
      subst (λ zs. R zs s) (sym (append_assoc taken h.front (byte ∷ others))) (reads (h.front ++ byte ∷ others) s begins q)

  told_after : (left : List ℕ) (end : Stop) → rest ≡ h.front ++ left → Told M Q h.front left end → Told L R (taken ++ h.front) left end
  told_after [] end e t = t
  told_after (byte ∷ left) (Bad n) e t = (t.0, λ others. moved byte left others (Bad (length (byte ∷ others))) e (t.1 others))
  told_after (byte ∷ left) (Feature name) e t = (named h.front byte name t.0, λ others. moved byte left others (Feature name) e (t.1 others))

-- the same where types stand
pub types-after : {G F : List ℕ → Type 0} {Q R : List ℕ → Stop → Type 0} (taken rest bytes : List ℕ) (end : Stop)
    → bytes ≡ taken ++ rest
    → ((front : List ℕ) → G front → F (taken ++ front))
    → ((others : List ℕ) (s : Stop) → first others ≡ first rest → Q others s → R (taken ++ others) s)
    → Halts OfTypes G Q rest end → Halts OfTypes F R bytes end
types-after taken rest bytes end e grows reads h = halts-after taken rest bytes end e (λ front byte name n. n) grows reads h

-- numbers of classes
abbrev pub FrontOfClass : List ℕ → Type 0
FrontOfClass front = IsFront (λ (n : ℕ) (bytes : List ℕ). SpellsClass bytes n) front

pub class_begun : FrontOfClass []
class_begun = (0, 0 ∷ [], (inl (omega arith, refl), λ e. absurd cc))

two_begun : (a : ℕ) → a < 0x40 → FrontOfClass ((0x80 + a) ∷ [])
two_begun a lt = (a * 0x100 + 0, 0 ∷ [], (inr (inl (a, 0, lt, omega arith, refl, refl)), λ e. absurd (omega (arith, e))))

four_spelled : (a b c : ℕ) → a < 0x20 → b < 0x100 → c < 0x100 → SpellsClass ((0xC0 + a) ∷ b ∷ c ∷ 0 ∷ []) (((a * 0x100 + b) * 0x100 + c) * 0x100 + 0)
four_spelled a b c la lb lc = (inr (inr (a, b, c, 0, la, lb, lc, omega arith, refl, refl)), λ e. absurd (omega (arith, e)))

four_cut : (a : ℕ) (rest : List ℕ) (b c : ℕ) (end : Stop) → 0xC0 ≤ a → a < 0xE0 → AreBytes (a ∷ rest) → (more : List ℕ) → rest ++ more ≡ b ∷ c ∷ 0 ∷ [] → b < 0x100 → c < 0x100
    → after_number (a ∷ rest) None ≡ Err end → Halts OfTypes FrontOfClass (Ends number_at) (a ∷ rest) end
four_cut a rest b c end low high small more e lb lc h =
    let is : 0xC0 + (a - 0xC0) ≡ a = omega arith in
    let short : nat_lt a 0xE0 ≡ true = lt-ltb a 0xE0 high in
    let cut : end ≡ Bad 0 = sym (ap (λ (b : Bool). Bad (cond b 0 (length (a ∷ rest)))) (sym short) ∙ same_end {A = ℕ × List ℕ} (Bad (unread (a ∷ rest))) end h) in
    let whole : a ∷ (rest ++ more) ≡ (0xC0 + (a - 0xC0)) ∷ b ∷ c ∷ 0 ∷ [] = rw (is, e) refl in
    cut_at (a ∷ rest) end (_, more, subst (λ zs. SpellsClass zs ((((a - 0xC0) * 0x100 + b) * 0x100 + c) * 0x100 + 0)) (sym whole) (four_spelled (a - 0xC0) b c (omega arith) lb lc)) cut

two_halts : (a : ℕ) (rest : List ℕ) (end : Stop) → 0x80 ≤ a → a < 0xC0 → after_number (a ∷ rest) (two_bytes a rest) ≡ Err end → Halts OfTypes FrontOfClass (Ends number_at) (a ∷ rest) end
two_halts a (b ∷ rest) end low high h = absurd cc
two_halts a [] end low high h =
    let is : 0x80 + (a - 0x80) ≡ a = omega arith in
    let short : nat_lt a 0xE0 ≡ true = lt-ltb a 0xE0 (omega arith) in
    let e : end ≡ Bad 0 = sym (ap (λ (b : Bool). Bad (cond b 0 1)) (sym short) ∙ same_end {A = ℕ × List ℕ} (Bad (unread (a ∷ []))) end h) in
    cut_at (a ∷ []) end (subst (λ x. FrontOfClass (x ∷ [])) is (two_begun (a - 0x80) (omega arith))) e

four_halts : (a : ℕ) (rest : List ℕ) (end : Stop) → 0xC0 ≤ a → a < 0xE0 → AreBytes (a ∷ rest) → after_number (a ∷ rest) (four_bytes a rest) ≡ Err end → Halts OfTypes FrontOfClass (Ends number_at) (a ∷ rest) end
four_halts a (b ∷ c ∷ d ∷ rest) end low high small h = absurd cc
four_halts a [] end low high small h = four_cut a [] 0 0 end low high small (0 ∷ 0 ∷ 0 ∷ []) refl (omega arith) (omega arith) h
four_halts a (b ∷ []) end low high small h = four_cut a (b ∷ []) b 0 end low high small (0 ∷ 0 ∷ []) refl (small 1) (omega arith) h
four_halts a (b ∷ c ∷ []) end low high small h = four_cut a (b ∷ c ∷ []) b c end low high small (0 ∷ []) refl (small 1) (small 2) h

no_number : (a : ℕ) (others : List ℕ) → 0xE0 ≤ a → number_at (a ∷ others) ≡ Err (Bad (length (a ∷ others)))
unfolding number_at
no_number a others high =
    let past = le-ltb a 0xE0 high in
    rw (le-ltb a 0x80 (omega arith), le-ltb a 0xC0 (omega arith), past) (ap (λ (b : Bool). Err (Bad (cond b 0 (length (a ∷ others))))) past)

pub number-halts : (bytes : List ℕ) (end : Stop) → AreBytes bytes → number_at bytes ≡ Err end → Halts OfTypes FrontOfClass (Ends number_at) bytes end
unfolding number_at
number-halts [] end small h = cut_at [] end class_begun (sym (same_end (Bad 0) end h))
number-halts (a ∷ rest) end small h =
    let Goal : Option (ℕ × ℕ) → Type 0 = λ found. after_number (a ∷ rest) found ≡ Err end → Halts OfTypes FrontOfClass (Ends number_at) (a ∷ rest) end in
    cond_both (nat_lt a 0x80) _ _ Goal (λ low h. absurd cc)
    (λ low. cond_both (nat_lt a 0xC0) _ _ Goal (λ high h. two_halts a rest end (ltb-false a 0x80 low) (ltb-true a 0xC0 high) h)
    (λ middle. cond_both (nat_lt a 0xE0) _ _ Goal (λ high h. four_halts a rest end (ltb-false a 0xC0 middle) (ltb-true a 0xE0 high) small h)
    (λ high h.
    let e : end ≡ Bad (length (a ∷ rest)) = sym (ap (λ (b : Bool). Bad (cond b 0 (length (a ∷ rest)))) (sym high) ∙ same_end {A = ℕ × List ℕ} (Bad (unread (a ∷ rest))) end h) in
    record {
      front = [];
      rest = a ∷ rest;
      split = refl;
      goes = class_begun;
      told = bad_at OfTypes (Ends number_at) [] a rest end e (λ others. no_number a others (ltb-false a 0xE0 high));
    }))) h

-- the last byte of a number has a tag of no table
tag_ends : (spelled others : List ℕ) (n : ℕ) → Spells spelled n → (n % 4 == no_table) ≡ true → class_at (spelled ++ others) ≡ Err (Bad (length (0 ∷ others)))
unfolding class_at
tag_ends spelled others n s tag =
    let k : length others + 1 ≡ suc (length others) = omega arith in
    rw (number-again spelled others n s, tag, k) refl

tag_halts : (spelled rest : List ℕ) (n : ℕ) (end : Stop) → Spells spelled n → (n % 4 == no_table) ≡ true → end ≡ Bad (length (0 ∷ rest)) → Halts OfTypes FrontOfClass (Ends class_at) (spelled ++ rest) end
tag_halts spelled rest n end (inl s) tag e =
    subst (λ zs. Halts OfTypes FrontOfClass (Ends class_at) (zs ++ rest) end) (sym s.1)
    (record {
      front = [];
      rest = n ∷ rest;
      split = refl;
      goes = class_begun;
      told = bad_at OfTypes (Ends class_at) [] n rest end e (λ others. tag_ends (n ∷ []) others n (inl (s.0, refl)) tag);
    })
tag_halts spelled rest n end (inr (inl s)) tag e =
    let a = 0x80 + s.0 in
    subst (λ zs. Halts OfTypes FrontOfClass (Ends class_at) (zs ++ rest) end) (sym s.4)
    (record {
      front = a ∷ [];
      rest = s.1 ∷ rest;
      split = refl;
      goes = two_begun s.0 s.2;
      told = bad_at OfTypes (Ends class_at) (a ∷ []) s.1 rest end e (λ others. tag_ends (a ∷ s.1 ∷ []) others n (inr (inl (s.0, s.1, s.2, s.3, refl, s.5))) tag);
    })
tag_halts spelled rest n end (inr (inr s)) tag e =
    let a = 0xC0 + s.0 in
    subst (λ zs. Halts OfTypes FrontOfClass (Ends class_at) (zs ++ rest) end) (sym s.8)
    (record {
      front = a ∷ s.1 ∷ s.2 ∷ [];
      rest = s.3 ∷ rest;
      split = refl;
      goes = (_, 0 ∷ [], four_spelled s.0 s.1 s.2 s.4 s.5 s.6);
      told = bad_at OfTypes (Ends class_at) (a ∷ s.1 ∷ s.2 ∷ []) s.3 rest end e (λ others. tag_ends (a ∷ s.1 ∷ s.2 ∷ s.3 ∷ []) others n (inr (inr (s.0, s.1, s.2, s.3, s.4, s.5, s.6, s.7, refl, s.9))) tag);
    })

pub class-halts : (bytes : List ℕ) (end : Stop) → AreBytes bytes → class_at bytes ≡ Err end → Halts OfTypes FrontOfClass (Ends class_at) bytes end
unfolding class_at
class-halts bytes end small h =
    either_ends (number_at bytes) _ end (Halts OfTypes FrontOfClass (Ends class_at) bytes end) h
    (λ none. types-after [] bytes bytes end refl (λ front f. f) (λ others s same ends. bind-ends (number_at others) _ s ends) (number-halts bytes end small none))
    (λ x found tagged. by_tag x.0 x.1 found (x.0 % 4 == no_table) refl tagged) where
      by_tag : (n : ℕ) (rest : List ℕ) → number_at bytes ≡ Ok (n, rest) → (b : Bool) → (n % 4 == no_table) ≡ b → ◌≡◌ {A = Reading ℕ} (cond b (Err (Bad (length rest + 1))) (Ok (n, rest))) (Err end)
          → Halts OfTypes FrontOfClass (Ends class_at) bytes end
      by_tag n rest found false tag h = absurd cc
      by_tag n rest found true tag h =
          let t = number-found bytes rest n small found in
          let k : length rest + 1 ≡ length (0 ∷ rest) = omega arith in
          subst (λ zs. Halts OfTypes FrontOfClass (Ends class_at) zs end) (sym t.2) (tag_halts t.0 rest n end t.1 tag (sym (same_end (Bad (length rest + 1)) end h) ∙ ap (λ (n : ℕ). Bad n) k))
