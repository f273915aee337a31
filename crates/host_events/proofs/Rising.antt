-- Strictly rising lists of numbers.
use Rattle.std.proofs.Common.{◌≡◌, ℕ, ◌<◌, ◌⊎◌, inl, inr, zero, suc, List, [], ◌∷◌, get_or, refl, sym, arith}
use Rattle.std.specs.List.{AllPairs, Contains}
use Rattle.std.specs.List.Sorted.{IsStrictlyIncreasing}
use Rattle.std.proofs.lemmas.List.Kept.{AllPairs-from_increasing}

-- an element of a list is its first, or an element of the rest
Contains-cons_cases : (x : ℕ) (xs : List ℕ) (c : ℕ) → Contains (x ∷ xs) c → (x ≡ c) ⊎ Contains xs c
Contains-cons_cases x xs c (zero, within, same) = inl same
Contains-cons_cases x xs c (suc k, within, same) = inr (k, omega arith, same)

Contains-cons : (x : ℕ) (xs : List ℕ) (c : ℕ) → Contains xs c → Contains (x ∷ xs) c
Contains-cons x xs c (k, within, same) = (suc k, omega arith, same)

above_head : (x : ℕ) (xs : List ℕ) (c : ℕ) → AllPairs (λ a b. a < b) (x ∷ xs) → Contains xs c → x < c
above_head x xs c pairs (k, within, same) =
    let above : x < get_or xs k c = pairs 0 (suc k) c (omega arith) (omega arith) in
    omega arith

AllPairs-tail : (x : ℕ) (xs : List ℕ) → AllPairs (λ a b. a < b) (x ∷ xs) → AllPairs (λ a b. a < b) xs
AllPairs-tail x xs pairs i j d below within = pairs (suc i) (suc j) d (omega arith) (omega arith)

-- the members of the rest are members of the other rest
tail_members : (x y : ℕ) (xs ys : List ℕ) → AllPairs (λ a b. a < b) (x ∷ xs) → x ≡ y →
    ((c : ℕ) → Contains (x ∷ xs) c → Contains (y ∷ ys) c) → (c : ℕ) → Contains xs c → Contains ys c
tail_members x y xs ys pairs same members c has =
    elim (Contains-cons_cases y ys c (members c (Contains-cons x xs c has))) [
      | inl is_head ↦ let above : x < c = above_head x xs c pairs has in absurd (omega arith)
      | inr in_rest ↦ in_rest
    ]

same_head : (x y : ℕ) (xs ys : List ℕ) → AllPairs (λ a b. a < b) (x ∷ xs) → AllPairs (λ a b. a < b) (y ∷ ys) →
    Contains (y ∷ ys) x → Contains (x ∷ xs) y → x ≡ y
same_head x y xs ys pairs others x_in y_in =
    elim (Contains-cons_cases y ys x x_in) [
      | inl same ↦ sym same
      | inr x_later ↦ elim (Contains-cons_cases x xs y y_in) [
        | inl same ↦ same
        | inr y_later ↦
            let below : y < x = above_head y ys x others x_later in
            let above : x < y = above_head x xs y pairs y_later in
            absurd (omega arith)
      ]
    ]

same_pairs : (xs ys : List ℕ) → AllPairs (λ a b. a < b) xs → AllPairs (λ a b. a < b) ys →
    ((c : ℕ) → Contains xs c → Contains ys c) → ((c : ℕ) → Contains ys c → Contains xs c) → xs ≡ ys
same_pairs [] [] pairs others to from = refl
same_pairs [] (y ∷ ys) pairs others to from =
    let has = from y (0, omega arith, refl) in absurd (omega (arith, has.1))
same_pairs (x ∷ xs) [] pairs others to from =
    let has = to x (0, omega arith, refl) in absurd (omega (arith, has.1))
same_pairs (x ∷ xs) (y ∷ ys) pairs others to from =
    let same = same_head x y xs ys pairs others (to x (0, omega arith, refl)) (from y (0, omega arith, refl)) in
    let rest = same_pairs xs ys (AllPairs-tail x xs pairs) (AllPairs-tail y ys others)
    (tail_members x y xs ys pairs same to) (tail_members y x ys xs others (sym same) from) in
    cc

-- strictly rising lists with the same members are equal
pub same_rising : (xs ys : List ℕ) → IsStrictlyIncreasing xs → IsStrictlyIncreasing ys →
    ((c : ℕ) → Contains xs c → Contains ys c) → ((c : ℕ) → Contains ys c → Contains xs c) → xs ≡ ys
same_rising xs ys rising others =
    same_pairs xs ys (AllPairs-from_increasing xs rising) (AllPairs-from_increasing ys others)
