-- Beginnings of lists, sums over the seats, and what stands at an index after one changes.
use Rattle.std.proofs.Common.{◌≡◌, ◌≢◌, ℕ, zero, suc, ◌+◌, ◌≤◌, ◌<◌, ◌⊎◌, inl, inr, List, [], ◌∷◌, ◌++◌, length, set, sum_by, refl, ap, sym, subst, ◌∙◌, arith, append_assoc}
use Rattle.std.proofs.lemmas.List.Sums.{sum_by-cons}
use Rattle.atomic_table.proofs.Lists.{at_set}
use mathlib.Core.Option.{some, some-injective, some-ne-none}
use mathlib.Core.List.{IsPrefix}
use lib.ListN.{get_elem?}

pub prefix_self : {A : Type 0} (xs : List A) → IsPrefix xs xs
prefix_self [] = ([], refl)
prefix_self (x ∷ xs) = (let r = prefix_self xs in r.0, ap (λ ys. x ∷ ys) (prefix_self xs).1)

pub prefix_more : {A : Type 0} (xs ys zs : List A) → IsPrefix xs ys → IsPrefix xs (ys ++ zs)
prefix_more xs ys zs p = (p.0 ++ zs, sym (append_assoc xs p.0 zs) ∙ ap (λ w. w ++ zs) p.1)

pub prefix_trans : {A : Type 0} (xs ys zs : List A) → IsPrefix xs ys → IsPrefix ys zs → IsPrefix xs zs
prefix_trans xs ys zs p q = (p.0 ++ q.0, sym (append_assoc xs p.0 q.0) ∙ (ap (λ w. w ++ q.0) p.1 ∙ q.1))

-- of two beginnings of one list the shorter begins the longer
pub prefix_shorter : {A : Type 0} (xs ys zs : List A) → IsPrefix xs zs → IsPrefix ys zs → length xs ≤ length ys → IsPrefix xs ys
prefix_shorter [] ys zs p q le = (ys, refl)
prefix_shorter (x ∷ xs) [] zs p q le = absurd (omega arith)
prefix_shorter (x ∷ xs) (y ∷ ys) [] p q le = absurd (cc (p.1))
prefix_shorter (x ∷ xs) (y ∷ ys) (z ∷ zs) p q le =
    let heads : x ≡ y = cc (p.1, q.1) in
    let rest = prefix_shorter xs ys zs (p.0, cc (p.1)) (q.0, cc (q.1)) (omega arith) in
    (rest.0, cc (heads, rest.1))

module _ {A : Type 0} where
  -- an element that is there is within the length
  pub at_within : (l : List A) (i : ℕ) (a : A) → get_elem? l i ≡ some a → i < length l
  at_within [] i a e = absurd (some-ne-none a (sym e))
  at_within (x ∷ xs) zero a e = omega arith
  at_within (x ∷ xs) (suc i) a e = let r = at_within xs i a e in omega arith

  pub same_at : (l : List A) (i : ℕ) (a b : A) → get_elem? l i ≡ some a → get_elem? l i ≡ some b → a ≡ b
  same_at l i a b p q = some-injective a b (sym p ∙ q)

  -- what stands in a longer list stood there before, or is the last
  pub at_snoc_cases : (l : List A) (a b : A) (j : ℕ) → get_elem? (l ++ a ∷ []) j ≡ some b → (get_elem? l j ≡ some b) ⊎ ((j ≡ length l) × (a ≡ b))
  at_snoc_cases [] a b zero e = inr (refl, some-injective a b e)
  at_snoc_cases [] a b (suc j) e = absurd (some-ne-none b (sym e))
  at_snoc_cases (x ∷ xs) a b zero e = inl e
  at_snoc_cases (x ∷ xs) a b (suc j) e =
      elim (at_snoc_cases xs a b j e) [ inl h ↦ inl h | inr h ↦ inr ((let p = h.0 in omega arith), h.1) ]

  -- a fact of each element with its index, after one element changes
  pub each_set : (P : ℕ → A → Type 0) (l : List A) (i : ℕ) (w : A) → ((j : ℕ) (x : A) → j ≢ i → get_elem? l j ≡ some x → P j x) → P i w →
      (j : ℕ) (x : A) → get_elem? (set l i w) j ≡ some x → P j x
  each_set P l i w others here j x e = elim (at_set l i j w x e) [
    | inl h ↦ subst (λ (p : ℕ × A). P p.0 p.1) (λ k. (sym h.0 k, h.1 k)) here
    | inr h ↦ others j x h.0 h.1
  ]

  -- the sum after one element changes
  pub sum_set : (f : A → ℕ) (l : List A) (i : ℕ) (v w : A) → get_elem? l i ≡ some v → sum_by f (set l i w) + f v ≡ sum_by f l + f w
  sum_set f [] i v w e = absurd (some-ne-none v (sym e))
  sum_set f (x ∷ xs) zero v w e = let same : x ≡ v = some-injective x v e in
      omega (arith, sum_by-cons f w xs, sum_by-cons f x xs, ap f same)
  sum_set f (x ∷ xs) (suc i) v w e =
      omega (arith, sum_by-cons f x (set xs i w), sum_by-cons f x xs, sum_set f xs i v w e)

  pub at-le-sum : (f : A → ℕ) (l : List A) (i : ℕ) (v : A) → get_elem? l i ≡ some v → f v ≤ sum_by f l
  at-le-sum f [] i v e = absurd (some-ne-none v (sym e))
  at-le-sum f (x ∷ xs) zero v e = let same : x ≡ v = some-injective x v e in omega (arith, sum_by-cons f x xs, ap f same)
  at-le-sum f (x ∷ xs) (suc i) v e = omega (arith, sum_by-cons f x xs, at-le-sum f xs i v e)

  -- two places add up to no more than the sum
  pub two-le-sum : (f : A → ℕ) (l : List A) (i j : ℕ) (v w : A) → i ≢ j → get_elem? l i ≡ some v → get_elem? l j ≡ some w → f v + f w ≤ sum_by f l
  two-le-sum f [] i j v w ne p q = absurd (some-ne-none v (sym p))
  two-le-sum f (x ∷ xs) zero zero v w ne p q = absurd (ne refl)
  two-le-sum f (x ∷ xs) zero (suc j) v w ne p q = let same : x ≡ v = some-injective x v p in
      omega (arith, sum_by-cons f x xs, ap f same, at-le-sum f xs j w q)
  two-le-sum f (x ∷ xs) (suc i) zero v w ne p q = let same : x ≡ w = some-injective x w q in
      omega (arith, sum_by-cons f x xs, ap f same, at-le-sum f xs i v p)
  two-le-sum f (x ∷ xs) (suc i) (suc j) v w ne p q =
      omega (arith, sum_by-cons f x xs, two-le-sum f xs i j v w (λ h. ne (ap suc h)) p q)
