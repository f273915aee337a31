-- The type that has a row in its list, where the lists of types stand one after the other.
use Rattle.std.proofs.Common.{◌≡◌, ℕ, zero, suc, ◌+◌, ◌<◌, ◌≤◌, nat_le, nat_lt, ◌&&◌, Bool, true, false, Some, None, inl, inr, subst, arith}
use Rattle.std.proofs.lemmas.Bool.{cases_lt}
use Rattle.std.proofs.lemmas.Bool.Decides.{nat_tests}
use Rattle.std.specs.List.{find, range_with_len}
use Rattle.assembly_image.proofs.FindLemmas.{find_first, find_none}

-- where the list of each type begins, and the row after its last
module _ (start after : ℕ → ℕ) (types n : ℕ)
    (rises : (i j : ℕ) → 1 ≤ i → i ≤ j → j ≤ types → start i ≤ start j)
    (next : (row : ℕ) → row < types → after row ≡ start (row + 1)) where
  abbrev has : ℕ → Bool
  has row = nat_le (start row) n && nat_lt n (after row)

  has_not : (row : ℕ) → after row ≤ n → has row ≡ false
  has_not row h = grind (arith, nat_tests)

  begins_later : (row : ℕ) → n < start row → has row ≡ false
  begins_later row h = grind (arith, nat_tests)

  ends_before : (low row : ℕ) → row < low → low ≤ types → start low ≤ n → has row ≡ false
  ends_before low row h l s =
      let up = rises (row + 1) low (omega arith) (omega arith) l in
      let same = next row (omega arith) in
      has_not row (omega (arith, up, same, s))

  pub type_found : (low : ℕ) → 1 ≤ low → low ≤ types → start low ≤ n → n < after low
      → find has (range_with_len 1 types) ≡ Some low
  type_found low some most s a =
      let here : has low ≡ true = grind (arith, nat_tests) in
      find_first has 1 types low some (omega arith) here (λ k lowest h. ends_before low k h most s)

  pub type_missing : (low : ℕ) → low ≤ types → (0 < low → start low ≤ n) → (0 < low → after low ≤ n)
      → (low < types → n < start (low + 1)) → find has (range_with_len 1 types) ≡ None
  type_missing low most s a past =
      find_none has 1 types (λ k lowest h. elim (cases_lt k low) [
        | inl before ↦ ends_before low k before most (s (omega arith))
        | inr later ↦ (elim (cases_lt low k) [
          | inl beyond ↦ (
              let up = rises (low + 1) k (omega arith) (omega arith) (omega arith) in
              let first = past (omega arith) in
              begins_later k (omega (arith, up, first)))
          | inr same ↦ (let is : low ≡ k = omega arith in has_not k (subst (λ (j : ℕ). after j ≤ n) is (a (omega arith))))
        ])
      ])

-- what does not fall from one to the next does not fall at all
pub rises_by_steps : (start : ℕ → ℕ) (types : ℕ) → ((i : ℕ) → 1 ≤ i → i < types → start i ≤ start (i + 1))
    → (i more : ℕ) → 1 ≤ i → i + more ≤ types → start i ≤ start (i + more)
rises_by_steps start types step i zero some most =
    let same : i ≡ i + 0 = omega arith in
    subst (λ (j : ℕ). start i ≤ start j) same (omega arith)
rises_by_steps start types step i (suc more) some most =
    let before = rises_by_steps start types step i more some (omega arith) in
    let last = step (i + more) (omega arith) (omega arith) in
    let same : i + more + 1 ≡ i + suc more = omega arith in
    subst (λ (j : ℕ). start i ≤ start j) same (omega (arith, before, last))
