-- The least typing of a body (own; after ECMA-335 III.1.8.1.3).
use Rattle.std.specs.Prelude.{◌≡◌, ℕ, Option, Some, List, [], Contains}
use Rattle.il_flow.specs.Families.{Family}
use Rattle.il_flow.specs.Merging.{Held, AreUnder}
use Rattle.il_verifier.specs.declared.line.Line.{Line}
use Rattle.il_verifier.specs.Effects.{stack_after}
use Rattle.il_verifier.specs.Lines.{line_at}
use Rattle.il_verifier.specs.Depths.{IsReached}

-- a stack for each place
abbrev pub Typing : Type 0
Typing = ℕ → List Held

-- the stack is empty at the start, and the stack that a place that is reached hands on is under the stack
-- of each place to which it goes
pub record IsClosed (family : Family) (max : ℕ) (lines : List (Option Line)) (typing : Typing) : Type 0 where
  pub start : typing 0 ≡ []
  pub onward : (line : Line) (at depth to : ℕ) → line_at lines at ≡ Some line →
      IsReached max lines at depth → Contains line.goes (Some to) →
      AreUnder family (stack_after line.effect (typing at)) (typing to)

-- it is under every other one that is closed, at each place that is reached
pub record IsLeast (family : Family) (max : ℕ) (lines : List (Option Line)) (typing : Typing) : Type 0 where
  pub closed : IsClosed family max lines typing
  pub least : (other : Typing) (at depth : ℕ) → IsClosed family max lines other →
      IsReached max lines at depth → AreUnder family (typing at) (other at)
