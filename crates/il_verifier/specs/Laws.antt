-- Laws of typings (own).
use Rattle.std.specs.Prelude.{◌≡◌, ◌↔◌, ℕ, List, [], Option, Some, None}
use Rattle.host_events.specs.declared.outcome.VerifyRule.{VerifyRule}
use Rattle.il_flow.specs.Families.{Family, object}
use Rattle.il_flow.specs.Merging.{Held, AreUnder}
use Rattle.il_verifier.specs.declared.effect.Effect.{Effect}
use Rattle.il_verifier.specs.declared.facts.BodyFacts.{BodyFacts}
use Rattle.il_verifier.specs.declared.line.Line.{Line}
use Rattle.il_verifier.specs.Effects.{stack_after}
use Rattle.il_verifier.specs.Lines.{AreLines}
use Rattle.il_verifier.specs.Depths.{IsReached}
use Rattle.il_verifier.specs.Typings.{Typing, IsClosed, IsLeast}
use Rattle.il_verifier.specs.Faults.{NoneFails, FailsDepths, depth_rules, AreKept, IsTyped, HasFault}

-- what an instruction leaves on the stack rises with what it finds there
abbrev pub Rises : Family → Type 0
Rises family =
    (effect : Effect) (low high : List Held) → AreUnder family low high →
    AreUnder family (stack_after effect low) (stack_after effect high)

-- no more than one typing is least, where a body is reached
abbrev pub OneLeast : Family → ℕ → List (Option Line) → Type 0
OneLeast family max lines =
    (one other : Typing) (at depth : ℕ) → IsLeast family max lines one → IsLeast family max lines other →
    IsReached max lines at depth → one at ≡ other at

-- a method that is checked has no fault, and no method has two
pub record OneVerdict (family : Family) (facts : BodyFacts) : Type 0 where
  pub either : (at : ℕ) (rule : VerifyRule) → IsTyped family facts → HasFault family facts at rule → ⊥
  pub one : (at other : ℕ) (rule another : VerifyRule) → HasFault family facts at rule →
      HasFault family facts other another → (at ≡ other) × (rule ≡ another)

-- nothing is told above System.Object
pub record IsTop (family : Family) : Type 0 where
  pub parent : family.parent object ≡ None
  pub interfaces : family.interfaces object ≡ []

-- a closed typing that keeps the rules shows that there is no fault, whether or not it is the least one
abbrev pub KeptIsSound : Family → BodyFacts → Type 0
KeptIsSound family facts =
    (lines : List (Option Line)) (typing : Typing) (at : ℕ) (rule : VerifyRule) → AreLines facts lines →
    NoneFails (FailsDepths facts.max_stack lines) depth_rules → IsClosed family facts.max_stack lines typing →
    AreKept family facts.max_stack lines typing → HasFault family facts at rule → ⊥

-- what is told of a method: nothing exactly where it is checked, and the fault exactly where it has one
pub record IsVerdict (family : Family) (facts : BodyFacts) (verdict : Option (ℕ × VerifyRule)) : Type 0 where
  pub checked : (verdict ≡ None) ↔ IsTyped family facts
  pub fault : (at : ℕ) (rule : VerifyRule) → (verdict ≡ Some (at, rule)) ↔ HasFault family facts at rule
