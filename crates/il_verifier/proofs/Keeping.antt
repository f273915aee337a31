-- The first rule on types that an instruction does not keep.
use Rattle.std.proofs.Common.{◌≡◌, ℕ, ◌<◌, false, not, is_none, List, ap, arith}
use Rattle.std.specs.List.{list_any}
use Rattle.host_events.specs.declared.outcome.VerifyRule.{VerifyRule}
use Rattle.host_events.specs.declared.outcome.VerifyRule.TheVariants.{Depth, Kind, Underflow, Operand, MaxStack, Index, Target, Assign, Member, Return, Region}
use Rattle.il_flow.specs.Families.{Family}
use Rattle.il_flow.specs.Merging.{Held}
use Rattle.il_verifier.specs.declared.line.Line.{Line}
use Rattle.il_verifier.specs.Effects.{operands_on}
use Rattle.il_verifier.specs.Faults.{rule_number, Keeps, AreWanted, HavePlaces, Returns}

-- the rules of lesser numbers are kept where those of types are
pub kept-below : (family : Family) (line : Line) (stack : List Held) (n : ℕ) →
    (2 < n → list_any is_none stack ≡ false) →
    (4 < n → AreWanted family line.effect.operands (operands_on line.effect stack)) →
    (8 < n → HavePlaces family line.effect.operands (operands_on line.effect stack)) →
    (10 < n → Returns family line.effect.operands stack) →
    (r : VerifyRule) → rule_number r < n → Keeps family line stack r
kept-below family line stack n a b c d Depth less = tt
kept-below family line stack n a b c d Kind less = ap not (a less)
kept-below family line stack n a b c d Underflow less = tt
kept-below family line stack n a b c d Operand less = b less
kept-below family line stack n a b c d MaxStack less = tt
kept-below family line stack n a b c d Index less = tt
kept-below family line stack n a b c d Target less = tt
kept-below family line stack n a b c d Assign less = c less
kept-below family line stack n a b c d Member less = tt
kept-below family line stack n a b c d Return less = d less
kept-below family line stack n a b c d Region less = tt

pub past-all : (r : VerifyRule) → rule_number r < 12
past-all Depth = omega arith
past-all Kind = omega arith
past-all Underflow = omega arith
past-all Operand = omega arith
past-all MaxStack = omega arith
past-all Index = omega arith
past-all Target = omega arith
past-all Assign = omega arith
past-all Member = omega arith
past-all Return = omega arith
past-all Region = omega arith
