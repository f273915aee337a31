-- Steps of going through the rules.
use Rattle.std.proofs.Common.{◌≡◌, ℕ, ◌+◌, ◌-◌, ◌<◌, Bool, true, false, cond, zero, suc, List, [], ◌∷◌, map, length, get_or, drop, Some, None, refl, sym, ap, ◌∙◌, arith}
use Rattle.std.specs.List.{count_by, filter}
use Rattle.std.proofs.lemmas.List.{drop_more, length-map}
use Rattle.std.proofs.lemmas.List.Sums.{length-filter}
use Rattle.probing.specs.Rules.{counted}

-- the elements at the index and behind it
behind : {X : Type 0} (xs : List X) (i : ℕ) (x : X) → i < length xs → x ≡ get_or xs i x → drop i xs ≡ x ∷ drop (i + 1) xs
behind xs i x lt is = drop_more xs i x lt ∙ ap (λ y. y ∷ drop (i + 1) xs) (sym is)

counted_none : {X : Type 0} (n : ℕ) → counted {X = X} [] n ≡ None
counted_none zero = refl
counted_none (suc n) = refl

-- the first that passes is the one sought
pub counted_here : {X Y : Type 0} (p : X → Bool) (f : X → Y) (xs : List X) (i : ℕ) (x : X) (left : ℕ) →
    i < length xs → x ≡ get_or xs i x → left ≡ 1 → p x ≡ true → counted (map f (filter p (drop i xs))) left ≡ Some (f x)
counted_here p f xs i x left lt is last passes =
    ap (λ l. counted (map f (filter p l)) left) (behind xs i x lt is)
    ∙ ap (λ t. counted (map f (cond t (x ∷ filter p (drop (i + 1) xs)) (filter p (drop (i + 1) xs)))) left) passes
    ∙ ap (counted (f x ∷ map f (filter p (drop (i + 1) xs)))) last

-- one that is passed by
past : {X : Type 0} (x : X) (xs : List X) (left : ℕ) → (left ≡ 1 → ⊥) → counted xs (left - 1) ≡ counted (x ∷ xs) left
past x xs zero other = refl
past x xs (suc zero) other = absurd (other refl)
past x xs (suc (suc k)) other =
    let less : suc (suc k) - 1 ≡ suc k = omega arith in
    ap (counted xs) less

pub counted_next : {X Y : Type 0} (p : X → Bool) (f : X → Y) (xs : List X) (i : ℕ) (x : X) (left next : ℕ) →
    i < length xs → x ≡ get_or xs i x → (left ≡ 1 → p x ≡ true → ⊥) → next ≡ cond (p x) (left - 1) left →
    counted (map f (filter p (drop (i + 1) xs))) next ≡ counted (map f (filter p (drop i xs))) left
counted_next {X} {Y} p f xs i x left next lt is other steps =
    ap (counted (map f (filter p (drop (i + 1) xs)))) steps ∙ at (p x) refl
    ∙ sym (ap (λ l. counted (map f (filter p l)) left) (behind xs i x lt is))
  where
    at : (t : Bool) → p x ≡ t →
        counted (map f (filter p (drop (i + 1) xs))) (cond t (left - 1) left)
        ≡ counted (map f (cond t (x ∷ filter p (drop (i + 1) xs)) (filter p (drop (i + 1) xs)))) left
    at true passes = past (f x) (map f (filter p (drop (i + 1) xs))) left (λ last. other last passes)
    at false passes = refl

-- nothing is left
pub counted_end : {X Y : Type 0} (p : X → Bool) (f : X → Y) (rest : List X) (left : ℕ) → rest ≡ [] → counted (map f (filter p rest)) left ≡ None
counted_end p f rest left none = ap (λ l. counted (map f (filter p l)) left) none ∙ counted_none left

-- how many pass
pub length-answers : {X Y : Type 0} (p : X → Bool) (f : X → Y) (xs : List X) → length (map f (filter p xs)) ≡ count_by p xs
length-answers p f xs = length-map (filter p xs) f ∙ length-filter p xs
