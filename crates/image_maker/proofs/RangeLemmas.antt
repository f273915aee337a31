-- What holds of each number of a range: tests that they pass, and what functions make of them.
use Rattle.std.proofs.Common.{◌≡◌, ℕ, zero, suc, ◌+◌, ◌-◌, ◌<◌, Bool, true, false, cond, ◌&&◌, Some, None, refl, sym, subst, map, arith, [], ◌∷◌, get_or, ap, inl, inr, ◌∙◌, zero-add}
use Rattle.std.specs.List.{find, list_all, range_with_len}
use Rattle.std.proofs.lemmas.Bool.{cases_Bool, cases_lt}
use Rattle.std.proofs.lemmas.List.Folds.{list_all-append, list_all_at}
use Rattle.std.proofs.lemmas.List.FromFn.{get_or-map-range_with_len, get_or-range_with_len, length-range_with_len}
use Rattle.metadata_tables.proofs.LayoutLemmas.{range_next}

module _ (f : ℕ → Bool) where
  pub all_next : (k : ℕ) → list_all f (range_with_len 0 k) ≡ true → f k ≡ true
      → list_all f (range_with_len 0 (k + 1)) ≡ true
  all_next k before here =
      ap (list_all f) (range_next k) ∙ list_all-append f (range_with_len 0 k) (k ∷ [])
      ∙ ap (λ b. b && (f k && true)) before ∙ ap (λ b. b && true) here

  pub all_stops : (k n : ℕ) → k < n → f k ≡ false → list_all f (range_with_len 0 n) ≡ false
  all_stops k n within bad =
      list_all_at f (range_with_len 0 n) k 0 (rw length-range_with_len within)
      (rw (get_or-range_with_len 0 n k 0 within) (ap f (zero-add k) ∙ bad))

  pub all_at : (n k : ℕ) → list_all f (range_with_len 0 n) ≡ true → k < n → f k ≡ true
  all_at n k all within =
      elim (cases_Bool (f k)) [
        | inl e ↦ e
        | inr e ↦ let other = all_stops k n within e in absurd (cc)
      ]

-- two functions that agree on some numbers give one list of them
pub same_on_range : {X : Type 0} (f g : ℕ → X) (first n : ℕ)
    → ((i : ℕ) → i < n → f (first + i) ≡ g (first + i))
    → map f (range_with_len first n) ≡ map g (range_with_len first n)
same_on_range f g first zero each = refl
same_on_range f g first (suc n) each =
    let here : f first ≡ g first =
    subst (λ (k : ℕ). f k ≡ g k) (omega arith) (each 0 (omega arith)) in
    let later = same_on_range f g (first + 1) n
    (λ i within. subst (λ (k : ℕ). f k ≡ g k) (moved first i) (each (suc i) (omega arith))) in
    cc
  where
    moved : (a i : ℕ) → a + suc i ≡ a + 1 + i
    moved a i = omega arith

-- the number that a function gives at an index
pub get_or-map-range : (g : ℕ → ℕ) (n k : ℕ) → k < n → get_or (map g (range_with_len 0 n)) k 0 ≡ g k
get_or-map-range g n k within = get_or-map-range_with_len g 0 n k k 0 within (zero-add k)

-- what none of a range's numbers passes
pub none_passes : (p : ℕ → Bool) (first len k : ℕ) → find p (range_with_len first len) ≡ None → k < len
    → p (first + k) ≡ false
none_passes p first zero k none within = absurd (omega arith)
none_passes p first (suc len) k none within =
    elim (cases_Bool (p first)) [
      | inl e ↦ absurd (cc)
      | inr e ↦
          let rest : find p (range_with_len (first + 1) len) ≡ None =
          sym (ap (λ b. cond b (Some first) (find p (range_with_len (first + 1) len))) e) ∙ none in
          elim (cases_lt 0 k) [
            | inl some ↦
                let same : first + 1 + (k - 1) ≡ first + k = omega arith in
                subst (λ n. p n ≡ false) same (none_passes p (first + 1) len (k - 1) rest (omega arith))
            | inr low ↦
                let same : first ≡ first + k = omega arith in
                subst (λ n. p n ≡ false) same e
          ]
    ]
