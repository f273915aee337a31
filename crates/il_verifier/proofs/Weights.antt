-- How often stacks can rise still.
use Rattle.std.proofs.Common.{◌≡◌, ◌≢◌, ◌⊎◌, inl, inr, ℕ, zero, suc, ◌+◌, ◌*◌, ◌<◌, ◌≤◌, Option, Some, None, List, [], ◌∷◌, length, get_or, refl, sym, ap, ◌∙◌, arith}
use Rattle.std.specs.List.{sum_by}
use Rattle.std.proofs.lemmas.List.Sums.{sum_by-cons}
use Rattle.il_flow.specs.Families.{Family}
use Rattle.il_flow.specs.Merging.{Held, IsUnder, AreUnder}
use Rattle.il_flow.specs.Ranks.{rank}
use Rattle.il_verifier.specs.Pools.{joined_all}
use Rattle.il_verifier.specs.Worklist.{Stacks, stack_at, met, weight, weights, HasMet}
use Rattle.il_verifier.proofs.Order.{IsMerging}
use Rattle.il_verifier.proofs.Meeting.{zip-upper}

pub record AreRanks (family : Family) : Type 0 where
  pub falls : (a b : Held) → IsUnder family a b → (a ≡ b) ⊎ (rank family b < rank family a)
  pub small : (a : Held) → rank family a ≤ 67

ranks-small : (family : Family) → AreRanks family → (s : List Held) → sum_by (rank family) s ≤ 67 * length s
ranks-small family ranks [] = omega arith
ranks-small family ranks (x ∷ s) =
    let rest = ranks-small family ranks s in
    let one = ranks.small x in
    let all = sum_by-cons (rank family) x s in
    omega (arith, rest, one, all)

ranks-fall : (family : Family) → AreRanks family → (a b : List Held) → AreUnder family a b →
    (a ≡ b) ⊎ (sum_by (rank family) b < sum_by (rank family) a)
ranks-fall family ranks [] [] under = inl refl
ranks-fall family ranks (x ∷ a) (y ∷ b) under =
    let high = sum_by-cons (rank family) y b in
    let low = sum_by-cons (rank family) x a in
    elim (ranks.falls x y under.0) [
      | inl same ↦ elim (ranks-fall family ranks a b under.1) [
        | inl rest ↦ inl (ap (λ z. z ∷ a) same ∙ ap (λ (t : List Held). y ∷ t) rest)
        | inr less ↦
            let e : rank family x ≡ rank family y = ap (λ (z : Held). rank family z) same in
            inr (omega (arith, high, low, less, e))
      ]
      | inr less ↦ elim (ranks-fall family ranks a b under.1) [
        | inl rest ↦
            let e : sum_by (rank family) a ≡ sum_by (rank family) b = ap (λ (t : List Held). sum_by (rank family) t) rest in
            inr (omega (arith, high, low, less, e))
        | inr more ↦ inr (omega (arith, high, low, less, more))
      ]
    ]
ranks-fall family ranks [] (y ∷ b) under = absurd under
ranks-fall family ranks (x ∷ a) [] under = absurd under

-- lists that are the same but for one place
same-sums : {X : Type 0} (f : X → ℕ) (old new : List X) (d : X) → length old ≡ length new →
    ((i : ℕ) → get_or new i d ≡ get_or old i d) → sum_by f old ≡ sum_by f new
same-sums f [] [] d size same = refl
same-sums {X} f (x ∷ old) (y ∷ new) d size same =
    let rest = same-sums f old new d (omega (arith, size)) (λ i. same (suc i)) in
    let e : f y ≡ f x = ap f (same 0) in
    let a = sum_by-cons f x old in
    let b = sum_by-cons f y new in
    omega (arith, rest, e, a, b)
same-sums f [] (y ∷ new) d size same = absurd (omega (arith, size))
same-sums f (x ∷ old) [] d size same = absurd (omega (arith, size))

sums-differ : {X : Type 0} (f : X → ℕ) (old new : List X) (to : ℕ) (d : X) → length old ≡ length new → to < length old →
    ((i : ℕ) → i ≢ to → get_or new i d ≡ get_or old i d) →
    sum_by f new + f (get_or old to d) ≡ sum_by f old + f (get_or new to d)
sums-differ f (x ∷ old) (y ∷ new) zero d size less others =
    let rest = same-sums f old new d (omega (arith, size)) (λ i. others (suc i) (λ e. omega (arith, e))) in
    let a = sum_by-cons f x old in
    let b = sum_by-cons f y new in
    omega (arith, rest, a, b)
sums-differ f (x ∷ old) (y ∷ new) (suc to) d size less others =
    let rest = sums-differ f old new to d (omega (arith, size)) (omega (arith, less))
    (λ i apart. others (suc i) (λ e. apart (omega (arith, e)))) in
    let e : f y ≡ f x = ap f (others 0 (λ e. omega (arith, e))) in
    let a = sum_by-cons f x old in
    let b = sum_by-cons f y new in
    omega (arith, rest, e, a, b)
sums-differ f [] new to d size less others = absurd (omega (arith, less))
sums-differ f (x ∷ old) [] to d size less others = absurd (omega (arith, size))

-- a place that meets a stack, and is listed where that raises its own
pub met-lighter : (family : Family) (max : ℕ) → IsMerging family → AreRanks family → (after : List Held) (to : ℕ)
    (old new : Stacks) (listed list : List ℕ) → HasMet family after to old new listed list → length old ≡ length new →
    to < length old → length after ≤ max → ((own : List Held) → stack_at old to ≡ Some own → length own ≡ length after) →
    weights family max new + length list ≤ weights family max old + length listed
met-lighter family max merging ranks after to old new listed list met-it size less deep even = elim met-it.todo [
  | inl kept ↦
      let e : weight family max (stack_at new to) ≡ weight family max (stack_at old to) =
      ap (λ (o : Option (List Held)). weight family max o) kept.1 in
      let n : length list ≡ length listed = ap length kept.0 in
      omega (arith, total, e, n)
  | inr changed ↦
      let w = lighter (stack_at old to) refl changed.1 in
      omega (arith, total, w, changed.0.few)
]
  where
    total : weights family max new + weight family max (stack_at old to) ≡ weights family max old + weight family max (stack_at new to)
    total = sums-differ (weight family max) old new to None size less met-it.others

    lighter : (o : Option (List Held)) → stack_at old to ≡ o → stack_at new to ≢ stack_at old to →
        weight family max (stack_at new to) + 1 ≤ weight family max (stack_at old to)
    lighter None is other =
        let value : weight family max (stack_at new to) ≡ sum_by (rank family) after =
        ap (λ (p : Option (List Held)). weight family max p)
        (met-it.there ∙ ap (λ (p : Option (List Held)). Some (met family p after)) is) in
        let before : weight family max (stack_at old to) ≡ 1 + 67 * max = ap (λ (p : Option (List Held)). weight family max p) is in
        let small = ranks-small family ranks after in
        omega (arith, value, before, small, deep)
    lighter (Some own) is other =
        let there : stack_at new to ≡ Some (joined_all family own after) =
        met-it.there ∙ ap (λ (p : Option (List Held)). Some (met family p after)) is in
        let value : weight family max (stack_at new to) ≡ sum_by (rank family) (joined_all family own after) =
        ap (λ (p : Option (List Held)). weight family max p) there in
        let before : weight family max (stack_at old to) ≡ sum_by (rank family) own =
        ap (λ (p : Option (List Held)). weight family max p) is in
        elim (ranks-fall family ranks own (joined_all family own after) (zip-upper family merging own after (even own is)).0) [
          | inl same ↦ absurd (other (there ∙ (ap (λ (s : List Held). Some s) (sym same) ∙ sym is)))
          | inr lower ↦ omega (arith, value, before, lower)
        ]
