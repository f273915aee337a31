-- Sums over lists of lists, and over the parts into which a list falls.
use Rattle.std.proofs.Common.{◌≡◌, ℕ, zero, suc, ◌+◌, ◌*◌, ◌<◌, ◌≤◌, ◌==◌, true, false, cond, List, [], ◌∷◌, ◌++◌, length, map, refl, sym, ap, subst, ◌∙◌, arith, mul-zero, mul-add, inl, inr}
use Rattle.std.specs.List.{flat_map, range_with_len, sum_by, filter}
use Rattle.std.proofs.lemmas.Bool.Decides.{nat_tests}
use Rattle.std.proofs.lemmas.Bool.{cases_eq}
use Rattle.std.proofs.lemmas.List.Sums.{sum_by-cons, sum_by-append, sum_by-le-sum_by}

module _ {X Y : Type 0} (f : Y → ℕ) where
  pub sum_by-flat_map : (g : X → List Y) (xs : List X)
      → sum_by f (flat_map g xs) ≡ sum_by (λ x. sum_by f (g x)) xs
  sum_by-flat_map g [] = refl
  sum_by-flat_map g (x ∷ xs) =
      let parts = sum_by-append f (g x) (flat_map g xs) in
      let rest = sum_by-flat_map g xs in
      let whole = sum_by-cons (λ y. sum_by f (g y)) x xs in
      omega arith

  pub sum_by-map : (g : X → Y) (xs : List X) → sum_by f (map g xs) ≡ sum_by (λ x. f (g x)) xs
  sum_by-map g [] = refl
  sum_by-map g (x ∷ xs) =
      let parts = sum_by-cons f (g x) (map g xs) in
      let rest = sum_by-map g xs in
      let whole = sum_by-cons (λ y. f (g y)) x xs in
      omega arith

module _ {X : Type 0} (f g : X → ℕ) where
  pub sum_by-add : (xs : List X) → sum_by (λ x. f x + g x) xs ≡ sum_by f xs + sum_by g xs
  sum_by-add [] = refl
  sum_by-add (x ∷ xs) =
      let one = sum_by-cons f x xs in
      let other = sum_by-cons g x xs in
      let both = sum_by-cons (λ y. f y + g y) x xs in
      let rest = sum_by-add xs in
      omega arith

-- the same number for each element, and more
pub sum_by-each : {X : Type 0} (f : X → ℕ) (k : ℕ) (xs : List X)
    → sum_by (λ x. f x + k) xs ≡ sum_by f xs + k * length xs
sum_by-each f k [] = omega arith
sum_by-each f k (x ∷ xs) =
    let rest = sum_by-each f k xs in
    let first = sum_by-cons (λ y. f y + k) x xs in
    let other = sum_by-cons f x xs in
    let more = mul-add k 1 (length xs) in
    first ∙ omega arith ∙ ap (λ s. s + k * length (x ∷ xs)) (sym other)

pub sum_by-same : {X : Type 0} (f g : X → ℕ) (xs : List X) → ((x : X) → f x ≡ g x) → sum_by f xs ≡ sum_by g xs
sum_by-same f g [] e = refl
sum_by-same f g (x ∷ xs) e =
    let one = sum_by-cons f x xs in
    let other = sum_by-cons g x xs in
    let here = e x in
    let rest = sum_by-same f g xs e in
    omega arith

pub flat_map-same : {X Y : Type 0} (f g : X → List Y) (xs : List X) → ((x : X) → f x ≡ g x)
    → flat_map f xs ≡ flat_map g xs
flat_map-same f g [] e = refl
flat_map-same f g (x ∷ xs) e =
    ap (λ ys. ys ++ flat_map f xs) (e x) ∙ ap (λ ys. g x ++ ys) (flat_map-same f g xs e)

pub sum_by-times : {X : Type 0} (k : ℕ) (f : X → ℕ) (xs : List X) → sum_by (λ x. k * f x) xs ≡ k * sum_by f xs
sum_by-times k f [] = sym (mul-zero k)
sum_by-times k f (x ∷ xs) =
    sum_by-cons (λ y. k * f y) x xs
    ∙ ap (λ n. k * f x + n) (sum_by-times k f xs)
    ∙ sym (mul-add k (f x) (sum_by f xs))
    ∙ ap (λ n. k * n) (sym (sum_by-cons f x xs))

-- a number where another is this one, and 0 elsewhere
pub if_at : ℕ → ℕ → ℕ → ℕ
if_at n v k = cond (n == k) v 0

pub at_this : (n v k : ℕ) → n ≡ k → if_at n v k ≡ v
unfolding if_at
at_this n v k this = let test : (n == k) ≡ true = grind (arith, nat_tests) in rw test refl

at_other : (n v k : ℕ) → (n == k) ≡ false → if_at n v k ≡ 0
unfolding if_at
at_other n v k other = rw other refl

at_most : (n v k : ℕ) → if_at n v k ≤ v
unfolding if_at
at_most n v k = elim (n == k) as (λ b. cond b v 0 ≤ v) [ true ↦ omega arith | false ↦ omega arith ]

none_before : (n v a len : ℕ) → n < a → sum_by (if_at n v) (range_with_len a len) ≡ 0
none_before n v a zero before = refl
none_before n v a (suc len) before =
    let other : (n == a) ≡ false = grind (arith, nat_tests) in
    let first = at_other n v a other in
    let rest = none_before n v (a + 1) len (omega arith) in
    sum_by-cons (if_at n v) a (range_with_len (a + 1) len) ∙ omega arith

-- a range has the number at most once
pub once : (n v a len : ℕ) → sum_by (if_at n v) (range_with_len a len) ≤ v
once n v a zero = omega arith
once n v a (suc len) =
    let whole = sum_by-cons (if_at n v) a (range_with_len (a + 1) len) in
    elim (cases_eq n a) [
      | inl here ↦
          let first = at_most n v a in
          let rest = none_before n v (a + 1) len (omega arith) in
          subst (λ s. s ≤ v) (sym whole) (omega arith)
      | inr elsewhere ↦
          let other : (n == a) ≡ false = grind (arith, nat_tests) in
          let first = at_other n v a other in
          let rest = once n v (a + 1) len in
          subst (λ s. s ≤ v) (sym whole) (omega arith)
    ]

pub sum_of_none : {X : Type 0} (xs : List X) → sum_by (λ x. 0) xs ≡ 0
sum_of_none [] = refl
sum_of_none (x ∷ xs) = let rest = sum_of_none xs in sum_by-cons (λ y. 0) x xs ∙ omega arith

-- what numbered elements add, by their number
module _ {X : Type 0} (f : ℕ × X → ℕ) where
  -- those of a number
  abbrev pub of_number : List (ℕ × X) → ℕ → ℕ
  of_number xs n = sum_by f (filter (λ x. x.0 == n) xs)

  with_first : (x : ℕ × X) (xs : List (ℕ × X)) (n : ℕ)
      → of_number (x ∷ xs) n ≡ if_at x.0 (f x) n + of_number xs n
  unfolding if_at
  with_first x xs n =
      elim (x.0 == n) as (λ b. sum_by f (cond b (x ∷ filter (λ y. y.0 == n) xs) (filter (λ y. y.0 == n) xs))
      ≡ cond b (f x) 0 + sum_by f (filter (λ y. y.0 == n) xs)) [
        | true ↦ sum_by-cons f x (filter (λ y. y.0 == n) xs)
        | false ↦ omega arith
      ]

  -- those with a number of a range are at most all
  pub parts-le : (xs : List (ℕ × X)) (a len : ℕ) → sum_by (of_number xs) (range_with_len a len) ≤ sum_by f xs
  parts-le [] a len = let none = sum_of_none (range_with_len a len) in omega arith
  parts-le (x ∷ xs) a len =
      let range = range_with_len a len in
      let split : sum_by (of_number (x ∷ xs)) range
      ≤ sum_by (λ n. if_at x.0 (f x) n + of_number xs n) range =
      sum_by-le-sum_by (of_number (x ∷ xs)) (λ n. if_at x.0 (f x) n + of_number xs n) range
      (λ n. let e = with_first x xs n in omega arith) in
      let parts = sum_by-add (if_at x.0 (f x)) (of_number xs) range in
      let first = once x.0 (f x) a len in
      let rest = parts-le xs a len in
      subst (λ s. sum_by (of_number (x ∷ xs)) range ≤ s) (sym (sum_by-cons f x xs)) (omega arith)
