-- What fails in a body, and the fault that it has (own; after ECMA-335 III.1.8).
use Rattle.std.specs.Prelude.{◌≡◌, ◌≢◌, ◌⊎◌, ℕ, ◌<◌, Bool, not, IsTrue, List, [], ◌∷◌, map, Contains}
use Rattle.std.specs.Prelude.{Option, Some, None, is_some, is_none}
use Rattle.std.specs.List.{list_any, AllZip}
use Rattle.host_events.specs.declared.outcome.VerifyRule.{VerifyRule}
use Rattle.host_events.specs.declared.outcome.VerifyRule.TheVariants.{Depth, Kind, Underflow, Operand, MaxStack, Index, Target, Assign, Member, Return, Region}
use Rattle.il_flow.specs.declared.stack.StackType.{StackType}
use Rattle.il_flow.specs.StackTypes.{is_object}
use Rattle.il_flow.specs.Families.{Family}
use Rattle.il_flow.specs.Merging.{Held}
use Rattle.il_flow.specs.Assigning.{IsAssignable}
use Rattle.il_verifier.specs.declared.effect.Operands.{Operands}
use Rattle.il_verifier.specs.declared.effect.Operands.TheVariants.{Each, Agreeing, Returned}
use Rattle.il_verifier.specs.declared.facts.BodyFacts.{BodyFacts}
use Rattle.il_verifier.specs.declared.line.Line.{Line}
use Rattle.il_verifier.specs.Effects.{agreed, IsWanted, HasPlace, operands_on}
use Rattle.il_verifier.specs.Lines.{AreLines, line_at}
use Rattle.il_verifier.specs.Depths.{lacks, overflows, brought_by, IsReached}
use Rattle.il_verifier.specs.Typings.{Typing, IsClosed, IsLeast}

-- the rules that are tried before types are sought, and those that types decide, each in the order in which
-- they count
abbrev pub depth_rules : List VerifyRule
depth_rules = Depth ∷ Underflow ∷ MaxStack ∷ Index ∷ Target ∷ Member ∷ []

abbrev pub type_rules : List VerifyRule
type_rules = Kind ∷ Operand ∷ Assign ∷ Return ∷ []

-- the number of a rule
abbrev pub rule_number : VerifyRule → ℕ
rule_number Depth = 1
rule_number Kind = 2
rule_number Underflow = 3
rule_number Operand = 4
rule_number MaxStack = 5
rule_number Index = 6
rule_number Target = 7
rule_number Assign = 8
rule_number Member = 9
rule_number Return = 10
rule_number Region = 11

-- a place that is reached brings another depth to a place than it has
abbrev pub BringsOther : ℕ → List (Option Line) → ℕ → ℕ → Type 0
BringsOther max lines at depth =
    (from its other : ℕ) × IsReached max lines from its
    × (brought_by max (line_at lines from) (Some its) at ≡ Some other) × (other ≢ depth)

-- a rule on depths fails at the instruction of a line that is reached with a depth
abbrev pub FailsAtLine : ℕ → Line → ℕ → VerifyRule → Type 0
FailsAtLine max line depth Underflow = IsTrue (lacks line depth)
FailsAtLine max line depth MaxStack = IsTrue (overflows max line depth)
FailsAtLine max line depth Index = IsTrue (not line.is_there)
FailsAtLine max line depth Target = IsTrue (list_any is_none line.goes)
FailsAtLine max line depth Member = IsTrue (not line.is_proper)
FailsAtLine max line depth _ = ⊥

-- the same at a place; where no instruction of a kind begins there, control passes to no instruction
abbrev pub FailsAt : ℕ → Option Line → ℕ → VerifyRule → Type 0
FailsAt max (Some line) depth rule = FailsAtLine max line depth rule
FailsAt max None depth rule = rule ≡ Target

-- a rule on depths fails at a place
abbrev pub FailsDepths : ℕ → List (Option Line) → VerifyRule → ℕ → Type 0
FailsDepths max lines Depth at =
    (depth : ℕ) × IsReached max lines at depth × BringsOther max lines at depth
FailsDepths max lines rule at =
    (depth : ℕ) × IsReached max lines at depth × FailsAt max (line_at lines at) depth rule

-- two numbers that go together, or two references where these are taken
abbrev pub Agree : Bool → List Held → Type 0
Agree references (Some a ∷ Some b ∷ []) =
    IsTrue (is_some (agreed a b))
    ⊎ (IsTrue references × IsTrue (is_object a) × IsTrue (is_object b))
Agree references _ = ⊥

abbrev pub OnType : {A : Type 0} → (A → StackType → Type 0) → A → Held → Type 0
OnType Holds wanted (Some type) = Holds wanted type
OnType Holds wanted None = ⊥

-- the operands are of the kinds that are wanted, where each of them has a type
abbrev pub AreWanted : Family → Operands → List Held → Type 0
AreWanted family (Each wants) held = AllZip (OnType (IsWanted family)) wants held
AreWanted family (Agreeing references) held = Agree references held
AreWanted family (Returned type) held = Unit {0}

abbrev pub HavePlaces : Family → Operands → List Held → Type 0
HavePlaces family (Each wants) held = AllZip (OnType (HasPlace family)) wants held
HavePlaces family _ held = Unit {0}

-- a stack is what a method gives back
abbrev pub IsGivenBack : Family → Option StackType → List Held → Type 0
IsGivenBack family None stack = stack ≡ []
IsGivenBack family (Some place) stack =
    (type : StackType) × (stack ≡ Some type ∷ []) × IsAssignable family type place

abbrev pub Returns : Family → Operands → List Held → Type 0
Returns family (Returned type) stack = IsGivenBack family type stack
Returns family _ stack = Unit {0}

-- an instruction keeps a rule on types, on a stack
abbrev pub Keeps : Family → Line → List Held → VerifyRule → Type 0
Keeps family line stack Kind = IsTrue (not (list_any is_none stack))
Keeps family line stack Operand = AreWanted family line.effect.operands (operands_on line.effect stack)
Keeps family line stack Assign = HavePlaces family line.effect.operands (operands_on line.effect stack)
Keeps family line stack Return = Returns family line.effect.operands stack
Keeps family line stack _ = Unit {0}

-- a rule on types fails at a place
abbrev pub FailsTypes : Family → ℕ → List (Option Line) → Typing → VerifyRule → ℕ → Type 0
FailsTypes family max lines typing rule at =
    (line : Line) × (depth : ℕ) × (line_at lines at ≡ Some line) × IsReached max lines at depth
    × ¬ Keeps family line (typing at) rule

-- each instruction that is reached keeps each rule on types
abbrev pub AreKept : Family → ℕ → List (Option Line) → Typing → Type 0
AreKept family max lines typing =
    (line : Line) (at depth : ℕ) (rule : VerifyRule) → line_at lines at ≡ Some line →
    IsReached max lines at depth → Keeps family line (typing at) rule

-- none of these rules fails anywhere
abbrev pub NoneFails : (VerifyRule → ℕ → Type 0) → List VerifyRule → Type 0
NoneFails Fails rules = (rule : VerifyRule) (at : ℕ) → Contains rules rule → Fails rule at → ⊥

-- a rule fails at a place; none of these rules fails before it, and none that comes before the rule there
pub record IsFirst (Fails : VerifyRule → ℕ → Type 0) (rules : List VerifyRule) (at : ℕ) (rule : VerifyRule) : Type 0 where
  pub fails : Fails rule at
  pub among : Contains rules rule
  pub nowhere_before : (other : VerifyRule) (place : ℕ) → place < at → Contains rules other → Fails other place → ⊥
  pub none_sooner : (other : VerifyRule) → rule_number other < rule_number rule → Contains rules other →
      Fails other at → ⊥

-- the lines keep every rule, by their least typing
pub record AreTyped (family : Family) (max : ℕ) (lines : List (Option Line)) (typing : Typing) : Type 0 where
  pub depths : NoneFails (FailsDepths max lines) depth_rules
  pub least : IsLeast family max lines typing
  pub types : AreKept family max lines typing

-- a rule on depths fails first, or, where none does, one on types
abbrev pub IsFault : Family → ℕ → List (Option Line) → ℕ → VerifyRule → Type 0
IsFault family max lines at rule =
    IsFirst (FailsDepths max lines) depth_rules at rule
    ⊎ (NoneFails (FailsDepths max lines) depth_rules
    × (typing : Typing) × IsLeast family max lines typing
    × IsFirst (FailsTypes family max lines typing) type_rules at rule)

-- a method that is checked, and the fault of one that is not
abbrev pub IsTyped : Family → BodyFacts → Type 0
IsTyped family facts =
    (lines : List (Option Line)) × (typing : Typing) × AreLines facts lines
    × AreTyped family facts.max_stack lines typing

abbrev pub HasFault : Family → BodyFacts → ℕ → VerifyRule → Type 0
HasFault family facts at rule =
    (lines : List (Option Line)) × AreLines facts lines × IsFault family facts.max_stack lines at rule

-- the types on the stack at a place of a method, by some typing that is closed and keeps every rule: as the
-- typings of a lesser family are
abbrev pub HasStack : Family → BodyFacts → ℕ → List StackType → Type 0
HasStack family facts at types =
    (lines : List (Option Line)) × (typing : Typing) × (depth : ℕ) × AreLines facts lines
    × NoneFails (FailsDepths facts.max_stack lines) depth_rules
    × IsClosed family facts.max_stack lines typing × AreKept family facts.max_stack lines typing
    × IsReached facts.max_stack lines at depth × (typing at ≡ map Some types)
