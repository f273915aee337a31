-- Stacks that share what lies at their bottoms, each with a number, and two of them as one: the words in
-- which the search states its steps (own).
use Rattle.std.specs.Prelude.{◌≡◌, ◌≢◌, ◌⊎◌, ℕ, ◌<◌, ◌≤◌, suc, List, [], ◌∷◌, ◌++◌, length, slice_index_or, Contains}
use Rattle.std.specs.Prelude.{Option, Some, None}
use Rattle.std.specs.List.{fold}
use Rattle.il_flow.specs.Families.{Family}
use Rattle.il_flow.specs.declared.stack.StackType.TheVariants.{Ref}
use Rattle.il_flow.specs.Merging.{Held, joined, merged}
use Rattle.il_verifier.specs.declared.pool.Node.{Node}
use Rattle.il_verifier.specs.declared.joins.Pair.{Pair}
use Rattle.il_verifier.specs.declared.joins.Join.{Join}
use Rattle.il_verifier.specs.declared.pairs.Entry.{Entry}

-- the stack with a number
abbrev pub stack_by : List (List Held) → ℕ → List Held
stack_by pool id = slice_index_or pool id []

-- one stack more: a value on one of those there are
abbrev pub with_node : List (List Held) → Node → List (List Held)
with_node pool node = pool ++ (stack_by pool node.below ++ node.held ∷ []) ∷ []

-- the empty stack, and those that the nodes make
abbrev pub pool_of : List Node → List (List Held)
pool_of nodes = fold with_node ([] ∷ []) nodes

-- each node lies on one of so many stacks, or on one that a node before it makes
abbrev pub AreLaid : ℕ → List Node → Type 0
AreLaid n [] = Unit {0}
AreLaid n (node ∷ nodes) = (node.below < n) × AreLaid (suc n) nodes

-- a stack is one value on another, which has a lesser number
pub record IsOn (pool : List (List Held)) (id below : ℕ) (held : Held) : Type 0 where
  pub within : id < length pool
  pub lesser : below < id
  pub is : stack_by pool id ≡ stack_by pool below ++ held ∷ []

abbrev pub IsTop : List (List Held) → ℕ → Option Node → Type 0
IsTop pool id None = (id ≡ 0) × (stack_by pool id ≡ [])
IsTop pool id (Some node) = IsOn pool id node.below node.held

-- every stack stays, and there may be more
pub record Grows (old new : List (List Held)) : Type 0 where
  pub more : length old ≤ length new
  pub stays : (id : ℕ) → id < length old → stack_by new id ≡ stack_by old id

-- a new stack of these values
pub record IsMade (old new : List (List Held)) (stack : List Held) (id : ℕ) : Type 0 where
  pub grows : Grows old new
  pub within : id < length new
  pub is : stack_by new id ≡ stack

-- two stacks as one, place by place
abbrev pub joined_all : Family → List Held → List Held → List Held
joined_all family (a ∷ own) (b ∷ after) = joined family a b ∷ joined_all family own after
joined_all family _ _ = []

-- the two stacks of a pair are there and have one depth
pub record IsEven (pool : List (List Held)) (pair : Pair) : Type 0 where
  pub own : pair.own < length pool
  pub after : pair.after < length pool
  pub even : length (stack_by pool pair.own) ≡ length (stack_by pool pair.after)

-- a stack is two as one, and is the first of them where that changes nothing
pub record IsJoin (family : Family) (pool : List (List Held)) (join : Join) : Type 0 where
  pub pair : IsEven pool join.pair
  pub within : join.both < length pool
  pub is : stack_by pool join.both ≡ joined_all family (stack_by pool join.pair.own) (stack_by pool join.pair.after)
  pub same : (join.both ≡ join.pair.own) ⊎ (stack_by pool join.both ≢ stack_by pool join.pair.own)

abbrev pub AreJoins : Family → List (List Held) → List (Option Join) → Type 0
AreJoins family pool joins = (join : Join) → Contains joins (Some join) → IsJoin family pool join

-- what two references merge to
abbrev pub AreMerges : Family → List (Entry Held) → Type 0
AreMerges family merges =
    (entry : Entry Held) → Contains merges entry → entry.found ≡ merged family (Ref entry.low) (Ref entry.high)

-- what is noted of pairs of stacks, and of pairs of references
pub record Noted : Type 0 where
  pub joins : List (Option Join)
  pub merges : List (Entry Held)

pub record AreNoted (family : Family) (pool : List (List Held)) (noted : Noted) : Type 0 where
  pub joins : AreJoins family pool noted.joins
  pub merges : AreMerges family noted.merges

-- what is known of a pair: that its stacks are one, or what was noted of it
abbrev pub IsKnown : List (Option Join) → Pair → Option ℕ → Type 0
IsKnown joins pair None = pair.own ≢ pair.after
IsKnown joins pair (Some both) =
    ((both ≡ pair.own) × (pair.own ≡ pair.after))
    ⊎ Contains joins (Some (record { pair = pair; both = both }))

-- a pair and the one that lies right below its stacks
abbrev pub IsStep : List (List Held) → Pair → Pair → Type 0
IsStep pool pair next =
    (held : Held) × (other : Held) × IsOn pool pair.own next.own held × IsOn pool pair.after next.after other

-- the pairs from one down to another, that one left out
abbrev pub IsWay : List (List Held) → Pair → List Pair → Pair → Type 0
IsWay pool start [] end = start ≡ end
IsWay pool start (pair ∷ path) end =
    (start ≡ pair) × (next : Pair) × IsStep pool pair next × IsWay pool next path end
