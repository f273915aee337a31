-- The tables that pass a test, as bits, and where each of them stands in their list.
use Rattle.std.proofs.Common.{◌≡◌, ℕ, zero, suc, ◌+◌, ◌-◌, ◌*◌, ◌^◌, ◌<◌, ◌≤◌, Bool, true, false, not, cond, ◌==◌, ⊎_elim, List, [], ◌∷◌, ◌++◌, length, get_or, refl, sym, ap, ap₂, subst, ◌∙◌, arith, add-one, length-append}
use Rattle.std.specs.Int.{bit_at}
use Rattle.std.specs.List.{filter, range_with_len}
use Rattle.std.proofs.lemmas.Bool.{cases_lt}
use Rattle.std.proofs.lemmas.Bool.Decides.{nat_tests}
use Rattle.std.proofs.lemmas.Grind.{pow_more}
use Rattle.std.proofs.lemmas.Nat.{pow_pos}
use Rattle.std.proofs.lemmas.Nat.Bits.{and_pow, bit_at_above, bit_at_cat_low, bit_at_cat_high}
use Rattle.std.proofs.lemmas.List.{get_or_append_left}
use Rattle.std.proofs.Math.Seq.{get_or-append_seam}
use Rattle.std.proofs.lemmas.List.Elements.{filter-append}
use Rattle.std.proofs.lemmas.List.Sums.{sum_by-append}
use Rattle.metadata_tables.specs.Layout.{is_set}
use Rattle.metadata_tables.specs.Reading.{present_below}
use Rattle.metadata_tables.proofs.LayoutLemmas.{range_next}
use Rattle.metadata_tables.proofs.ReadingLemmas.{present_next, present_none}
use Rattle.image_maker.specs.File.{bits_of}

abbrev pub digit : Bool → ℕ
digit b = cond b 1 0

bits_one : (b : Bool) (n : ℕ) → bits_of (cond b (n ∷ []) []) ≡ digit b * 2 ^ n
bits_one true n = omega arith
bits_one false n = omega arith

length_one : (b : Bool) (n : ℕ) → length (cond b (n ∷ []) []) ≡ digit b
length_one true n = refl
length_one false n = refl

with_digit : (b : Bool) (n rest all : ℕ) → rest < 2 ^ n → all ≡ digit b * 2 ^ n + rest → all < 2 ^ (n + 1)
with_digit true n rest all small is = let twice = pow_more 2 n in omega (arith, twice)
with_digit false n rest all small is = let twice = pow_more 2 n in omega (arith, twice)

lowest_digit : (b : Bool) → bit_at (digit b) 0 ≡ digit b
lowest_digit true = refl
lowest_digit false = refl

-- a bit is set where its digit is 1
set_by_digit : (number t : ℕ) (b : Bool) → bit_at number t ≡ digit b → is_set number t ≡ b
set_by_digit number t true one =
    let there : 0 < 2 ^ t = pow_pos t in
    let same : bit_at number t * 2 ^ t ≡ 2 ^ t = ap (λ d. d * 2 ^ t) one ∙ omega arith in
    ap (λ x. not (x == 0)) (and_pow number t ∙ same) ∙ grind (arith, nat_tests)
set_by_digit number t false none =
    let zeros : bit_at number t * 2 ^ t ≡ 0 = ap (λ d. d * 2 ^ t) none ∙ omega arith in
    ap (λ x. not (x == 0)) (and_pow number t ∙ zeros)

module _ (p : ℕ → Bool) where
  -- those below a table
  abbrev pub chosen : ℕ → List ℕ
  chosen n = filter p (range_with_len 0 n)

  pub chosen_next : (n : ℕ) → chosen (n + 1) ≡ chosen n ++ cond (p n) (n ∷ []) []
  chosen_next n = ap (filter p) (range_next n) ∙ filter-append p (range_with_len 0 n) (n ∷ [])

  pub bits_next : (n : ℕ) → bits_of (chosen (n + 1)) ≡ digit (p n) * 2 ^ n + bits_of (chosen n)
  bits_next n =
      let both = ap bits_of (chosen_next n) ∙ sum_by-append (λ t. 2 ^ t) (chosen n) (cond (p n) (n ∷ []) []) in
      let last = bits_one (p n) n in
      omega (arith, both, last)

  length_next : (n : ℕ) → length (chosen (n + 1)) ≡ length (chosen n) + digit (p n)
  length_next n =
      ap length (chosen_next n)
      ∙ length-append (chosen n) (cond (p n) (n ∷ []) [])
      ∙ ap (λ k. length (chosen n) + k) (length_one (p n) n)

  pub bits_small : (n : ℕ) → bits_of (chosen n) < 2 ^ n
  bits_small zero = omega arith
  bits_small (suc n) =
      let all : bits_of (chosen (n + 1)) < 2 ^ (n + 1) =
      with_digit (p n) n (bits_of (chosen n)) _ (bits_small n) (bits_next n) in
      subst (λ k. bits_of (chosen k) < 2 ^ k) (add-one n) all

  digit_there : (n t : ℕ) → t < n → bit_at (bits_of (chosen n)) t ≡ digit (p t)
  digit_there zero t below = absurd (omega arith)
  digit_there (suc n) t below =
      ap (λ k. bit_at (bits_of (chosen k)) t) (sym (add-one n))
      ∙ ap (λ x. bit_at x t) (bits_next n)
      ∙ ⊎_elim
      (λ before. bit_at_cat_low (digit (p n)) n (bits_of (chosen n)) t before ∙ digit_there n t before)
      (λ behind.
      let here : n ≡ t = omega arith in
      let none : t - n ≡ 0 = omega arith in
      bit_at_cat_high (digit (p n)) n (bits_of (chosen n)) t (bits_small n) behind
      ∙ ap (bit_at (digit (p n))) none
      ∙ lowest_digit (p n)
      ∙ ap (λ k. digit (p k)) here)
      (cases_lt t n)

  pub set_below : (n t : ℕ) → t < n → is_set (bits_of (chosen n)) t ≡ p t
  set_below n t below = set_by_digit (bits_of (chosen n)) t (p t) (digit_there n t below)

  pub unset_from : (n t : ℕ) → n ≤ t → is_set (bits_of (chosen n)) t ≡ false
  unset_from n t past =
      set_by_digit (bits_of (chosen n)) t false (bit_at_above (bits_of (chosen n)) n t (bits_small n) past)

  -- each stands behind those below it
  pub stands_there : (n t : ℕ) → t < n → p t ≡ true
      → (length (chosen t) < length (chosen n)) × (get_or (chosen n) (length (chosen t)) 0 ≡ t)
  stands_there zero t below passes = absurd (omega arith)
  stands_there (suc n) t below passes =
      subst
      (λ k. (length (chosen t) < length (chosen k)) × (get_or (chosen k) (length (chosen t)) 0 ≡ t))
      (add-one n)
      (⊎_elim (λ less. before (stands_there n t less passes)) behind (cases_lt t n))
    where
      before : (length (chosen t) < length (chosen n)) × (get_or (chosen n) (length (chosen t)) 0 ≡ t)
          → (length (chosen t) < length (chosen (n + 1))) × (get_or (chosen (n + 1)) (length (chosen t)) 0 ≡ t)
      before there =
          let longer = length_next n in (
            omega (arith, there.0, longer),
            ap (λ xs. get_or xs (length (chosen t)) 0) (chosen_next n)
                ∙ get_or_append_left (chosen n) (cond (p n) (n ∷ []) []) 0 (length (chosen t)) there.0
                ∙ there.1,
          )

      behind : n ≤ t
          → (length (chosen t) < length (chosen (n + 1))) × (get_or (chosen (n + 1)) (length (chosen t)) 0 ≡ t)
      behind less =
          let here : n ≡ t = omega arith in
          let passed : p n ≡ true = ap p here ∙ passes in
          let longer : length (chosen (n + 1)) ≡ length (chosen n) + 1 =
          length_next n ∙ ap (λ b. length (chosen n) + digit b) passed in
          let ended : chosen (n + 1) ≡ chosen n ++ n ∷ [] =
          chosen_next n ∙ ap (λ b. chosen n ++ cond b (n ∷ []) []) passed in
          let counted : length (chosen t) ≡ length (chosen n) = ap (λ k. length (chosen k)) (sym here) in (
            omega (arith, longer, counted),
            ap₂ (λ xs k. get_or xs k 0) ended counted ∙ get_or-append_seam (chosen n) n [] 0 ∙ here,
          )

  -- as many bits are set below a table as tables are chosen there
  pub counted_to : (n t : ℕ) → t ≤ n → present_below (bits_of (chosen n)) t ≡ length (chosen t)
  counted_to n zero room = let none = present_none (bits_of (chosen n)) in omega arith
  counted_to n (suc t) room =
      let before = counted_to n t (omega arith) in
      let next = present_next (bits_of (chosen n)) t in
      let set : digit (is_set (bits_of (chosen n)) t) ≡ digit (p t) = ap digit (set_below n t (omega arith)) in
      let longer = length_next t in
      let here : present_below (bits_of (chosen n)) (t + 1) ≡ length (chosen (t + 1)) =
      omega (arith, before, next, set, longer) in
      subst (λ k. present_below (bits_of (chosen n)) k ≡ length (chosen k)) (add-one t) here

  pub counted_past : (n k : ℕ) → present_below (bits_of (chosen n)) (n + k) ≡ length (chosen n)
  counted_past n zero = ap (present_below (bits_of (chosen n))) (omega arith) ∙ counted_to n n (omega arith)
  counted_past n (suc k) =
      let before = counted_past n k in
      let next = present_next (bits_of (chosen n)) (n + k) in
      let unset : digit (is_set (bits_of (chosen n)) (n + k)) ≡ 0 = ap digit (unset_from n (n + k) (omega arith)) in
      let same : n + suc k ≡ n + k + 1 = omega arith in
      ap (present_below (bits_of (chosen n))) same ∙ omega (arith, before, next, unset)
