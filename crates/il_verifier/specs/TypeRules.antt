-- What is told of the rules on types at one instruction (own).
use Rattle.std.specs.Prelude.{◌≡◌, ◌↔◌, ◌<◌, ℕ, Bool, IsTrue, List, Option, Some, None, Contains}
use Rattle.host_events.specs.declared.outcome.VerifyRule.{VerifyRule}
use Rattle.il_flow.specs.Families.{Family}
use Rattle.il_flow.specs.Merging.{Held}
use Rattle.il_flow.specs.Assigning.{Suits}
use Rattle.il_verifier.specs.declared.pairs.Entry.{Entry}
use Rattle.il_verifier.specs.declared.line.Line.{Line}
use Rattle.il_verifier.specs.Lines.{line_at}
use Rattle.il_verifier.specs.Depths.{IsReached}
use Rattle.il_verifier.specs.Typings.{Typing}
use Rattle.il_verifier.specs.Faults.{type_rules, rule_number, Keeps, AreKept, FailsTypes, IsFirst}

-- the first rule on types that an instruction does not keep on a stack, or it keeps each
abbrev pub IsTypeRule : Family → Line → List Held → Option VerifyRule → Type 0
IsTypeRule family line stack None = (rule : VerifyRule) → Keeps family line stack rule
IsTypeRule family line stack (Some rule) =
    Contains type_rules rule × ¬ Keeps family line stack rule
    × ((r : VerifyRule) → rule_number r < rule_number rule → Keeps family line stack r)

-- the same at a place, where an instruction begins there that is reached with a stack
abbrev pub IsRuleAt : Family → Option Line → Option (List Held) → Option VerifyRule → Type 0
IsRuleAt family (Some line) (Some stack) rule = IsTypeRule family line stack rule
IsRuleAt family _ _ rule = rule ≡ None

-- each instruction before a place keeps each rule on types
abbrev pub AreKeptBelow : Family → ℕ → List (Option Line) → Typing → ℕ → Type 0
AreKeptBelow family max lines typing end =
    (line : Line) (at depth : ℕ) (rule : VerifyRule) → at < end → line_at lines at ≡ Some line →
    IsReached max lines at depth → Keeps family line (typing at) rule

-- the first place at which a rule on types fails, with the first of the rules that do, or each is kept
abbrev pub IsTypeFault : Family → ℕ → List (Option Line) → Typing → Option (ℕ × VerifyRule) → Type 0
IsTypeFault family max lines typing None = AreKept family max lines typing
IsTypeFault family max lines typing (Some fault) =
    IsFirst (FailsTypes family max lines typing) type_rules fault.0 fault.1

-- whether references suit places
abbrev pub AreFits : Family → List (Entry Bool) → Type 0
AreFits family fits =
    (entry : Entry Bool) → Contains fits entry → IsTrue entry.found ↔ Suits family entry.low entry.high
