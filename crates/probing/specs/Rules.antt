-- The rules that were set, and what they answer for a name at a place (own). Names are compared without
-- regard to ASCII case.
use Rattle.std.specs.Prelude.{ℕ, ◌+◌, ◌≤◌, ◌<◌, ◌^◌, Bool, true, false, ◌&&◌, ◌==◌, List, length, map, zero, suc, Option, None}
use Rattle.std.specs.List.{filter, slice_get}
use Rattle.cli_words.specs.Text.{are_alike}
use Rattle.host_events.specs.declared.event.RuleAnswer.{RuleAnswer}
use Rattle.probing.specs.declared.rules.RulePlace.{RulePlace}
use Rattle.probing.specs.declared.rules.RulePlace.TheVariants as places
use Rattle.probing.specs.declared.rules.Rule.{Rule}

-- the rules in the order in which they were set, and how many more can be
pub record Rules : Type 0 where
  pub list : List Rule
  pub spare : ℕ

-- a test of whether two places are the same
abbrev pub is_same_place : RulePlace → RulePlace → Bool
is_same_place (places.Load context) (places.Load other) = context == other
is_same_place (places.Load context) (places.Resolving other) = false
is_same_place (places.Load context) places.Resolve = false
is_same_place (places.Resolving context) (places.Load other) = false
is_same_place (places.Resolving context) (places.Resolving other) = context == other
is_same_place (places.Resolving context) places.Resolve = false
is_same_place places.Resolve (places.Load other) = false
is_same_place places.Resolve (places.Resolving other) = false
is_same_place places.Resolve places.Resolve = true

-- a test of whether a rule is set at this place for this name
abbrev pub is_for : RulePlace → List ℕ → Rule → Bool
is_for place name rule = is_same_place rule.place place && are_alike rule.name name

-- what the rules at a place for a name answer, in the order in which they were set
abbrev pub answers : RulePlace → List ℕ → List Rule → List RuleAnswer
answers place name rules = map (λ rule. rule.answer) (filter (is_for place name) rules)

-- the n-th of a list, counted from 1
abbrev pub counted : {X : Type 0} → List X → ℕ → Option X
counted xs zero = None
counted xs (suc n) = slice_get xs n

-- what the n-th of these rules answers, counted from 1
abbrev pub answer_at : RulePlace → List ℕ → ℕ → List Rule → Option RuleAnswer
answer_at place name n rules = counted (answers place name rules) n

-- rules that have room for themselves and the spare, no more than a number of 32 bits can count
pub record IsRoomy (rules : List Rule) (spare capacity : ℕ) : Type 0 where
  pub room : length rules + spare ≤ capacity
  pub counted : length rules + spare < 2 ^ 32
