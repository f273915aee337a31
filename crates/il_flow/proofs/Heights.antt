-- The ranks of what a place of the stack holds.
use Rattle.std.proofs.Common.{◌≡◌, ◌⊎◌, inl, inr, ℕ, zero, suc, ◌+◌, ◌<◌, ◌≤◌, List, [], ◌∷◌, ◌++◌, length, Option, Some, None, refl, sym, ap, subst, ◌∙◌, arith}
use Rattle.std.specs.Option.{option_map_or}
use Rattle.std.proofs.lemmas.List.{length-append}
use Rattle.il_flow.specs.declared.stack.StackType.{StackType}
use Rattle.il_flow.specs.declared.stack.StackType.TheVariants.{Int32, Int64, Native, Null, Ref}
use Rattle.il_flow.specs.Families.{Family, IsFamily, above, Climbs}
use Rattle.il_flow.specs.Merging.{Held, chain, chain_of, IsUnder, IsUnderType}
use Rattle.il_flow.specs.Ranks.{rank}
use Rattle.il_flow.proofs.Order.{Key, KeysCompare, whole, ends}

chain-small : (family : Family) (n : ℕ) (key : Key) → length (chain family n key) ≤ n + 1
unfolding chain
chain-small family zero key = omega arith
chain-small family (suc n) key = at (λ next. chain-small family n next) (above family key)
  where
    at : ((next : Key) → length (chain family n next) ≤ n + 1) → (o : Option Key) →
        length (key ∷ option_map_or (λ next. chain family n next) o []) ≤ suc n + 1
    at rest None = omega arith
    at rest (Some next) = let few = rest next in omega (arith, few)

chain-some : (family : Family) (n : ℕ) (key : Key) → 0 < length (chain family n key)
unfolding chain
chain-some family zero key = omega arith
chain-some family (suc n) key = omega arith

pub rank-small : (family : Family) (a : Held) → rank family a ≤ 67
rank-small family None = omega arith
rank-small family (Some Int32) = omega arith
rank-small family (Some Int64) = omega arith
rank-small family (Some Native) = omega arith
rank-small family (Some Null) = omega arith
rank-small family (Some (Ref key)) = let few = chain-small family 65 key in omega (arith, few)

shorter : (family : Family) →
    ((key : Key) → chain_of family key ≡ key ∷ option_map_or (λ next. chain_of family next) (above family key) []) →
    (n : ℕ) (low high : Key) → Climbs family n low high →
    (low ≡ high) ⊎ (length (chain_of family high) < length (chain_of family low))
shorter family full zero low high climbs = inl climbs
shorter family full (suc n) low high climbs =
    let rest = ends family full n climbs.0 high climbs.2 in
    let here : chain_of family low ≡ low ∷ (rest.0 ++ chain_of family high) =
    full low
    ∙ (ap (λ o. low ∷ option_map_or (λ next. chain_of family next) o []) climbs.1
    ∙ ap (λ keys. low ∷ keys) rest.1) in
    let count : length (chain_of family low) ≡ suc (length (rest.0 ++ chain_of family high)) =
    ap (λ (keys : List Key). length keys) here in
    inr (omega (arith, count, length-append rest.0 (chain_of family high)))

type-falls : KeysCompare → (family : Family) → IsFamily family → (a b : StackType) →
    IsUnderType family a b → (a ≡ b) ⊎ (rank family (Some b) < rank family (Some a))
type-falls compare family short Int32 b under = inl under
type-falls compare family short Int64 b under = inl under
type-falls compare family short Native b under = inl under
type-falls compare family short Null Null under = inl refl
type-falls compare family short Null (Ref key) under =
    let few = chain-small family 65 key in inr (omega (arith, few))
type-falls compare family short Null _ under = absurd (cc under)
type-falls compare family short (Ref a) b under =
    at (shorter family (whole compare family short) under.2.0 a under.0 under.2.1)
  where
    at : (a ≡ under.0) ⊎ (length (chain_of family under.0) < length (chain_of family a)) →
        (Ref a ≡ b) ⊎ (rank family (Some b) < rank family (Some (Ref a)))
    at (inl same) = inl (ap (λ k. Ref k) same ∙ sym under.1)
    at (inr less) = inr (subst (λ x. rank family (Some x) < length (chain_of family a)) (sym under.1) less)

some-rank : (family : Family) (a : StackType) → 0 < rank family (Some a)
some-rank family Int32 = omega arith
some-rank family Int64 = omega arith
some-rank family Native = omega arith
some-rank family Null = omega arith
some-rank family (Ref key) = chain-some family 65 key

pub rank-falls : KeysCompare → (family : Family) → IsFamily family → (a b : Held) →
    IsUnder family a b → (a ≡ b) ⊎ (rank family b < rank family a)
rank-falls compare family short None None under = inl refl
rank-falls compare family short (Some a) None under = inr (some-rank family a)
rank-falls compare family short None (Some b) under = absurd under
rank-falls compare family short (Some a) (Some b) under = at (type-falls compare family short a b under)
  where
    at : (a ≡ b) ⊎ (rank family (Some b) < rank family (Some a)) →
        (Some a ≡ Some b) ⊎ (rank family (Some b) < rank family (Some a))
    at (inl same) = inl (ap (λ x. Some x) same)
    at (inr less) = inr less
