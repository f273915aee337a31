-- Lists, by place: what a write, a filter and one more element change.
use Rattle.std.proofs.Common.{◌≡◌, ◌≢◌, ◌<◌, ◌+◌, ℕ, zero, suc, Bool, true, false, ◌&&◌, ◌||◌, cond, List, [], ◌∷◌, ◌++◌, length, set, Some, ◌⊎◌, inl, inr, refl, sym, ap, ◌∙◌, arith}
use Rattle.std.specs.List.{filter, range_with_len, slice_get}
use Rattle.std.proofs.lemmas.List.{map-id}
use Rattle.std.proofs.lemmas.List.FromFn.{filter_of_map_range_with_len_more}

pub slice_get-set_other : {X : Type 0} (xs : List X) (i j : ℕ) (v : X) → j ≢ i → slice_get (set xs i v) j ≡ slice_get xs j
slice_get-set_other [] i j v differs = refl
slice_get-set_other (x ∷ xs) zero zero v differs = absurd (differs refl)
slice_get-set_other (x ∷ xs) zero (suc j) v differs = refl
slice_get-set_other (x ∷ xs) (suc i) zero v differs = refl
slice_get-set_other (x ∷ xs) (suc i) (suc j) v differs = slice_get-set_other xs i j v (λ e. differs (ap suc e))

pub slice_get-set_same : {X : Type 0} (xs : List X) (i : ℕ) (v : X) → i < length xs → slice_get (set xs i v) i ≡ Some v
slice_get-set_same [] i v within = absurd (omega arith)
slice_get-set_same (x ∷ xs) zero v within = refl
slice_get-set_same (x ∷ xs) (suc i) v within = slice_get-set_same xs i v (omega arith)

filter_passes-at : {X : Type 0} (p : X → Bool) (y x : X) (ys : List X) (b : Bool) (k : ℕ) → p y ≡ b →
    ((j : ℕ) → slice_get ys j ≡ Some x → p x ≡ true) → slice_get (cond b (y ∷ ys) ys) k ≡ Some x → p x ≡ true
filter_passes-at p y x ys true zero passes later at = let e : y ≡ x = cc in ap p (sym e) ∙ passes
filter_passes-at p y x ys true (suc k) passes later at = later k at
filter_passes-at p y x ys false k fails later at = later k at

-- what a filter keeps passes the test
pub filter_passes : {X : Type 0} (p : X → Bool) (xs : List X) (k : ℕ) (x : X) → slice_get (filter p xs) k ≡ Some x → p x ≡ true
filter_passes p [] k x at = cc
filter_passes p (y ∷ ys) k x at =
    filter_passes-at p y x (filter p ys) (p y) k refl (λ j. filter_passes p ys j x) at

pub filter-filter : {X : Type 0} (p q : X → Bool) (xs : List X) → filter q (filter p xs) ≡ filter (λ x. p x && q x) xs
filter-filter p q [] = refl
filter-filter {X} p q (x ∷ xs) = at (p x) (filter-filter p q xs)
  where
    rest : List X
    rest = filter p xs

    both : List X
    both = filter (λ y. p y && q y) xs

    at : (b : Bool) → filter q rest ≡ both → filter q (cond b (x ∷ rest) rest) ≡ cond (b && q x) (x ∷ both) both
    at true same = ap (λ ys. cond (q x) (x ∷ ys) ys) same
    at false same = same

-- where nothing passes the one test, what passes either is what passes the other
pub filter-or_none : {X : Type 0} (p q : X → Bool) (xs : List X) → filter q xs ≡ [] → filter (λ x. p x || q x) xs ≡ filter p xs
filter-or_none p q [] none = refl
filter-or_none {X} p q (x ∷ xs) none = at (p x) (q x) (filter-or_none p q xs) none
  where
    either : List X
    either = filter (λ y. p y || q y) xs

    at : (b c : Bool) → (filter q xs ≡ [] → either ≡ filter p xs) → cond c (x ∷ filter q xs) (filter q xs) ≡ [] →
        cond (b || c) (x ∷ either) either ≡ cond b (x ∷ filter p xs) (filter p xs)
    at b true later none = cc
    at true false later none = ap (λ ys. x ∷ ys) (later none)
    at false false later none = later none

-- one number more
pub filter-range_more : (p : ℕ → Bool) (a n : ℕ) →
    filter p (range_with_len a (n + 1)) ≡ filter p (range_with_len a n) ++ cond (p (a + n)) ((a + n) ∷ []) []
filter-range_more p a n =
    let e = filter_of_map_range_with_len_more p (λ x. x) a n (a + n) refl in
    ap (filter p) (sym (map-id (range_with_len a (n + 1)))) ∙ e
    ∙ ap (λ xs. filter p xs ++ cond (p (a + n)) ((a + n) ∷ []) []) (map-id (range_with_len a n))

-- where a list with one more element is parted at an element: at the new one, or at one before it
pub parts_of_push : {X : Type 0} (xs before after : List X) (x y : X) → xs ++ x ∷ [] ≡ before ++ y ∷ after →
    ((xs ≡ before) × (x ≡ y) × (after ≡ [])) ⊎ ((rest : List X) × (xs ≡ before ++ y ∷ rest) × (after ≡ rest ++ x ∷ []))
parts_of_push [] [] after x y e = inl (refl, cc, cc)
parts_of_push [] (b ∷ []) after x y e = cc
parts_of_push [] (b ∷ c ∷ bs) after x y e = cc
parts_of_push (a ∷ xs) [] after x y e = let same : a ≡ y = cc in inr (xs, ap (λ v. v ∷ xs) same, cc)
parts_of_push (a ∷ xs) (b ∷ bs) after x y e =
    let heads : a ≡ b = cc in
    let tails : xs ++ x ∷ [] ≡ bs ++ y ∷ after = cc in
    elim (parts_of_push xs bs after x y tails) [
      | inl p ↦ let s : xs ≡ bs = p.0 in inl (cc, p.1, p.2)
      | inr p ↦ let s : xs ≡ bs ++ y ∷ p.0 = p.1 in inr (p.0, cc, p.2)
    ]

-- what a list with one more element has at a place
pub slice_get-push_cases : {X : Type 0} (xs : List X) (x y : X) (k : ℕ) → slice_get (xs ++ x ∷ []) k ≡ Some y →
    (slice_get xs k ≡ Some y) ⊎ ((k ≡ length xs) × (x ≡ y))
slice_get-push_cases [] x y zero at = inr (refl, cc)
slice_get-push_cases [] x y (suc k) at = cc
slice_get-push_cases (a ∷ xs) x y zero at = inl at
slice_get-push_cases (a ∷ xs) x y (suc k) at = elim (slice_get-push_cases xs x y k at) [
  | inl p ↦ inl p
  | inr p ↦ inr (omega (arith, p.0), p.1)
]
