-- How the least typing of a body is sought: the words in which the search states its steps (own).
use Rattle.std.specs.Prelude.{◌≡◌, ◌≢◌, ◌⊎◌, ℕ, ◌<◌, ◌≤◌, ◌+◌, ◌*◌, IsTrue, List, [], map, length, slice_index_or, Contains}
use Rattle.std.specs.Prelude.{Option, Some, None, is_some, option_map, unwrap_or}
use Rattle.std.specs.List.{sum_by}
use Rattle.il_flow.specs.Families.{Family}
use Rattle.il_flow.specs.Merging.{Held, AreUnder}
use Rattle.il_flow.specs.Ranks.{rank}
use Rattle.il_verifier.specs.declared.line.Line.{Line}
use Rattle.il_verifier.specs.Effects.{stack_after}
use Rattle.il_verifier.specs.Lines.{line_at}
use Rattle.il_verifier.specs.Depths.{goes_to, IsReached}
use Rattle.il_verifier.specs.Typings.{Typing, IsClosed}
use Rattle.il_verifier.specs.Search.{is_among}
use Rattle.il_verifier.specs.Pools.{stack_by, joined_all, Noted, AreNoted}

abbrev pub Stacks : Type 0
Stacks = List (Option (List Held))

-- the stacks of places, by their numbers
abbrev pub stacks_by : List (List Held) → List (Option ℕ) → Stacks
stacks_by pool ids = map (option_map (stack_by pool)) ids

-- each number is that of a stack
abbrev pub AreIds : List (List Held) → List (Option ℕ) → Type 0
AreIds pool ids = (at id : ℕ) → slice_index_or ids at None ≡ Some id → id < length pool

-- what is known of the stacks of places and of the joins that are noted
pub record IsSound (family : Family) (pool : List (List Held)) (joins : Noted) (ids : List (Option ℕ)) : Type 0 where
  pub numbered : AreIds pool ids
  pub noted : AreNoted family pool joins

-- the stack at a place that was visited
abbrev pub stack_at : Stacks → ℕ → Option (List Held)
stack_at stacks at = slice_index_or stacks at None

-- what a place has after a stack was handed on to it
abbrev pub met : Family → Option (List Held) → List Held → List Held
met family None after = after
met family (Some own) after = joined_all family own after

-- a place is among those that are to be done, as the others still are
pub record IsListed (to : ℕ) (old new : List ℕ) : Type 0 where
  pub stays : (p : ℕ) → Contains old p → Contains new p
  pub there : Contains new to
  pub only : (p : ℕ) → Contains new p → Contains old p ⊎ (p ≡ to)
  pub few : length new ≤ length old + 1

-- a stack was handed on to a place: it has what the two make, and is listed where that is new
pub record HasMet (family : Family) (after : List Held) (to : ℕ) (old new : Stacks) (listed list : List ℕ) : Type 0 where
  pub there : stack_at new to ≡ Some (met family (stack_at old to) after)
  pub others : (at : ℕ) → at ≢ to → stack_at new at ≡ stack_at old at
  pub todo : ((list ≡ listed) × (stack_at new to ≡ stack_at old to))
      ⊎ (IsListed to listed list × (stack_at new to ≢ stack_at old to))

-- the stacks so far: each is of a place that is reached, and under that of every closed typing there
pub record AreStacks (family : Family) (max : ℕ) (lines : List (Option Line)) (stacks : Stacks) (list : List ℕ) : Type 0 where
  pub start : stack_at stacks 0 ≡ Some []
  pub shape : (p : ℕ) (stack : List Held) → stack_at stacks p ≡ Some stack → IsReached max lines p (length stack)
  pub below : (p : ℕ) (stack : List Held) → stack_at stacks p ≡ Some stack → (other : Typing) →
      IsClosed family max lines other → AreUnder family stack (other p)
  pub visited : (p : ℕ) → Contains list p → IsTrue (is_some (stack_at stacks p))

-- a stack was handed on from a place to another
abbrev pub IsHanded : Family → Stacks → Line → List Held → ℕ → Type 0
IsHanded family stacks line stack to =
    (high : List Held) × (stack_at stacks to ≡ Some high) × AreUnder family (stack_after line.effect stack) high

-- each stack of a place that is not listed was handed on
abbrev pub AreHanded : Family → List (Option Line) → Stacks → List ℕ → Type 0
AreHanded family lines stacks list =
    (p to : ℕ) (stack : List Held) (line : Line) → stack_at stacks p ≡ Some stack → line_at lines p ≡ Some line →
    IsTrue (goes_to line to) → Contains list p ⊎ IsHanded family stacks line stack to

-- the same but for one place, whose stack is handed on to some places still
pub record AreHandedBut (family : Family) (lines : List (Option Line)) (at : ℕ) (own : List Held) (pending : List (Option ℕ))
    (stacks : Stacks) (list : List ℕ) : Type 0 where
  pub current : Contains list at ⊎ (stack_at stacks at ≡ Some own)
  pub handed : (p to : ℕ) (stack : List Held) (line : Line) → stack_at stacks p ≡ Some stack →
      line_at lines p ≡ Some line → IsTrue (goes_to line to) →
      Contains list p ⊎ (((p ≡ at) × IsTrue (is_among pending to)) ⊎ IsHanded family stacks line stack to)

-- what is known of the stacks between two turns of the search
pub record AreSought (family : Family) (max : ℕ) (lines : List (Option Line)) (stacks : Stacks) (list : List ℕ) : Type 0 where
  pub sized : length stacks ≡ length lines
  pub found : AreStacks family max lines stacks list
  pub handed : AreHanded family lines stacks list

-- one of some places was taken, and the others are left; or there was none
pub record IsWithout (at : ℕ) (old new : List ℕ) : Type 0 where
  pub was : Contains old at
  pub left : (p : ℕ) → Contains old p → Contains new p ⊎ (p ≡ at)
  pub only : (p : ℕ) → Contains new p → Contains old p
  pub fewer : length new + 1 ≡ length old

abbrev pub IsTaken : List ℕ → List ℕ → Option ℕ → Type 0
IsTaken old new None = old ≡ []
IsTaken old new (Some at) = IsWithout at old new

-- how often the stack of a place can rise still: what a place holds that was not visited can do so less
-- often
abbrev pub weight : Family → ℕ → Option (List Held) → ℕ
weight family max None = 1 + 67 * max
weight family max (Some stack) = sum_by (rank family) stack

abbrev pub weights : Family → ℕ → Stacks → ℕ
weights family max stacks = sum_by (weight family max) stacks

-- the typing that stacks by places are
abbrev pub typing_of : Stacks → Typing
typing_of stacks at = unwrap_or (stack_at stacks at) []

-- just the places that are reached have stacks, as deep as the depths there
pub record ArePlaced (max : ℕ) (lines : List (Option Line)) (stacks : Stacks) : Type 0 where
  pub deep : (at : ℕ) (stack : List Held) → stack_at stacks at ≡ Some stack → IsReached max lines at (length stack)
  pub reached : (at depth : ℕ) → IsReached max lines at depth → IsTrue (is_some (stack_at stacks at))
