-- There is one verdict at most.
use Rattle.std.proofs.Common.{◌≡◌, ◌==◌, if◌then◌else◌, inl, inr, ℕ, List, Option, refl, sym, ap, subst, ◌∙◌, arith, map, length}
use Rattle.std.specs.List.{range_with_len}
use Rattle.std.proofs.lemmas.Bool.{cases_lt}
use Rattle.host_events.specs.declared.outcome.VerifyRule.{VerifyRule}
use Rattle.host_events.specs.declared.outcome.VerifyRule.TheVariants.{Depth, Kind, Underflow, Operand, MaxStack, Index, Target, Assign, Member, Return, Region}
use Rattle.il_reader.specs.Offsets.{AreBoundaries}
use Rattle.il_flow.specs.Families.{Family}
use Rattle.il_flow.specs.Merging.{Held}
use Rattle.il_verifier.specs.declared.facts.BodyFacts.{BodyFacts}
use Rattle.il_verifier.specs.declared.line.Line.{Line}
use Rattle.il_verifier.specs.Lines.{AreLines, line_from}
use Rattle.il_verifier.specs.Typings.{Typing, IsLeast}
use Rattle.il_verifier.specs.Faults.{rule_number, IsFirst, FailsDepths, FailsTypes, depth_rules, type_rules, Keeps, AreTyped, IsFault}
use Rattle.il_verifier.specs.Laws.{OneLeast, OneVerdict, KeptIsSound}
use Rattle.il_verifier.proofs.Lowering.{IsPlain, keeps-down}

abbrev pub OneList : Type 0
OneList = (code places others : List ℕ) → AreBoundaries code places → AreBoundaries code others → places ≡ others

-- a rule by its number
rule_of : ℕ → VerifyRule
rule_of n =
    if n == 1 then Depth else (if n == 2 then Kind else (if n == 3 then Underflow
    else (if n == 4 then Operand else (if n == 5 then MaxStack else (if n == 6 then Index
    else (if n == 7 then Target else (if n == 8 then Assign else (if n == 9 then Member
    else (if n == 10 then Return else Region)))))))))

back : (rule : VerifyRule) → rule_of (rule_number rule) ≡ rule
unfolding rule_of
back Depth = refl
back Kind = refl
back Underflow = refl
back Operand = refl
back MaxStack = refl
back Index = refl
back Target = refl
back Assign = refl
back Member = refl
back Return = refl
back Region = refl

same-rule : (a b : VerifyRule) → rule_number a ≡ rule_number b → a ≡ b
same-rule a b e = sym (back a) ∙ (ap rule_of e ∙ back b)

abbrev One : ℕ → ℕ → VerifyRule → VerifyRule → Type 0
One at other rule another = (at ≡ other) × (rule ≡ another)

-- the first failing place and its rule are one
first-at : (Fails : VerifyRule → ℕ → Type 0) (rules : List VerifyRule) (at : ℕ) (rule another : VerifyRule) →
    IsFirst Fails rules at rule → IsFirst Fails rules at another → rule ≡ another
first-at Fails rules at rule another a b =
    elim (cases_lt (rule_number rule) (rule_number another)) [
      | inl less ↦ absurd (b.none_sooner rule less a.among a.fails)
      | inr past ↦ elim (cases_lt (rule_number another) (rule_number rule)) [
        | inl less ↦ absurd (a.none_sooner another less b.among b.fails)
        | inr past2 ↦
            let e : rule_number rule ≡ rule_number another = omega (arith, past, past2) in
            same-rule rule another e
      ]
    ]

first-one : (Fails : VerifyRule → ℕ → Type 0) (rules : List VerifyRule) (at other : ℕ) (rule another : VerifyRule) →
    IsFirst Fails rules at rule → IsFirst Fails rules other another → One at other rule another
first-one Fails rules at other rule another a b =
    elim (cases_lt at other) [
      | inl less ↦ absurd (b.nowhere_before rule at less a.among a.fails)
      | inr past ↦ elim (cases_lt other at) [
        | inl less ↦ absurd (a.nowhere_before another other less b.among b.fails)
        | inr past2 ↦
            let e : at ≡ other = omega (arith, past, past2) in (
              e,
              first-at Fails rules other rule another (subst (λ (k : ℕ). IsFirst Fails rules k rule) e a) b,
            )
      ]
    ]

one-lines : OneList → (facts : BodyFacts) (a b : List (Option Line)) → AreLines facts a → AreLines facts b → a ≡ b
one-lines list facts a b p q =
    p.2 ∙ (ap (λ (begins : List ℕ). map (line_from facts begins) (range_with_len 0 (length facts.code)))
    (list facts.code p.0 q.0 p.1 q.1) ∙ sym q.2)

-- a rule on types fails by one least typing as it does by the other
fails-move : (family : Family) (max : ℕ) (lines : List (Option Line)) → OneLeast family max lines →
    (a b : Typing) → IsLeast family max lines a → IsLeast family max lines b → (rule : VerifyRule) (at : ℕ) →
    FailsTypes family max lines a rule at → FailsTypes family max lines b rule at
fails-move family max lines one a b p q rule at fails = (
  fails.0,
  fails.1,
  fails.2,
  fails.3,
  λ keeps. fails.4 (subst (λ (stack : List Held). Keeps family fails.0 stack rule)
      (one b a at fails.1 q p fails.3) keeps),
)

first-move : (family : Family) (max : ℕ) (lines : List (Option Line)) → OneLeast family max lines →
    (a b : Typing) → IsLeast family max lines a → IsLeast family max lines b → (at : ℕ) (rule : VerifyRule) →
    IsFirst (FailsTypes family max lines a) type_rules at rule →
    IsFirst (FailsTypes family max lines b) type_rules at rule
first-move family max lines one a b p q at rule first = record {
  fails = fails-move family max lines one a b p q rule at first.fails;
  among = first.among;
  nowhere_before = λ other place less among fails.
      first.nowhere_before other place less among (fails-move family max lines one b a q p other place fails);
  none_sooner = λ other less among fails.
      first.none_sooner other less among (fails-move family max lines one b a q p other at fails);
}

one-fault : (family : Family) (max : ℕ) (lines : List (Option Line)) → OneLeast family max lines →
    (at other : ℕ) (rule another : VerifyRule) → IsFault family max lines at rule →
    IsFault family max lines other another → One at other rule another
one-fault family max lines one at other rule another (inl a) (inl b) =
    first-one (FailsDepths max lines) depth_rules at other rule another a b
one-fault family max lines one at other rule another (inl a) (inr b) =
    absurd (b.0 rule at a.among a.fails)
one-fault family max lines one at other rule another (inr a) (inl b) =
    absurd (a.0 another other b.among b.fails)
one-fault family max lines one at other rule another (inr a) (inr b) =
    first-one (FailsTypes family max lines b.1) type_rules at other rule another
    (first-move family max lines one a.1 b.1 a.2 b.2 at rule a.3) b.3

no-fault : (family : Family) (max : ℕ) (lines : List (Option Line)) (typing : Typing) →
    OneLeast family max lines → AreTyped family max lines typing → (at : ℕ) (rule : VerifyRule) →
    IsFault family max lines at rule → ⊥
no-fault family max lines typing one typed at rule (inl a) = typed.depths rule at a.among a.fails
no-fault family max lines typing one typed at rule (inr a) =
    let fails = fails-move family max lines one a.1 typing a.2 typed.least rule at a.3.fails in
    fails.4 (typed.types fails.0 at fails.1 rule fails.2 fails.3)

pub one-verdict : OneList → (family : Family) →
    ((max : ℕ) (lines : List (Option Line)) → OneLeast family max lines) → (facts : BodyFacts) →
    OneVerdict family facts
one-verdict list family one facts = record {
  either = λ at rule typed fault.
      let max = facts.max_stack in
      let same = one-lines list facts fault.0 typed.0 fault.1 typed.2 in
      no-fault family max typed.0 typed.1 (one max typed.0) typed.3 at rule
      (subst (λ (lines : List (Option Line)). IsFault family max lines at rule) same fault.2);
  one = λ at other rule another a b.
      let max = facts.max_stack in
      let same = one-lines list facts a.0 b.0 a.1 b.1 in
      one-fault family max b.0 (one max b.0) at other rule another
      (subst (λ (lines : List (Option Line)). IsFault family max lines at rule) same a.2) b.2;
}

-- a typing that is closed and keeps the rules shows that there is no fault
pub kept-sound : OneList → (family : Family) → IsPlain family → (facts : BodyFacts) → KeptIsSound family facts
kept-sound list family is facts lines typing at rule are clean closed kept fault =
    let same = one-lines list facts fault.0 lines fault.1 are in
    none (subst (λ (ls : List (Option Line)). IsFault family facts.max_stack ls at rule) same fault.2)
  where
    none : IsFault family facts.max_stack lines at rule → ⊥
    none (inl first) = clean rule at first.among first.fails
    none (inr first) =
        let fails = first.3.fails in
        let line : Line = fails.0 in
        fails.4 (keeps-down family is line (first.1 at) (typing at) (first.2.least typing at fails.1 closed fails.3) rule
        (kept line at fails.1 rule fails.2 fails.3))
