-- The first place at which a rule on types fails.
use Rattle.std.proofs.Common.{◌≡◌, inl, inr, ℕ, ◌+◌, ◌<◌, ◌≤◌, IsTrue, is_some, Option, Some, None, List, [], length, refl, sym, ap, subst, arith}
use Rattle.std.specs.Prelude.{unwrap_or}
use Rattle.std.proofs.lemmas.Bool.{cases_lt}
use Rattle.host_events.specs.declared.outcome.VerifyRule.{VerifyRule}
use Rattle.il_flow.specs.Families.{Family}
use Rattle.il_flow.specs.Merging.{Held}
use Rattle.il_verifier.specs.declared.line.Line.{Line}
use Rattle.il_verifier.specs.Lines.{line_at}
use Rattle.il_verifier.specs.Depths.{IsReached}
use Rattle.il_verifier.specs.Faults.{Keeps, AreKept, FailsTypes, IsFirst, type_rules}
use Rattle.il_verifier.specs.TypeRules.{IsTypeRule, IsRuleAt, AreKeptBelow}
use Rattle.il_verifier.specs.Worklist.{Stacks, stack_at, typing_of, ArePlaced}
use Rattle.il_verifier.proofs.Reaching.{at-within}

typing-is : (stacks : Stacks) (at : ℕ) (stack : List Held) → stack_at stacks at ≡ Some stack → typing_of stacks at ≡ stack
typing-is stacks at stack has = ap (λ (o : Option (List Held)). unwrap_or o []) has

-- the stack at a place that is reached
stack-there : (max : ℕ) (lines : List (Option Line)) (stacks : Stacks) → ArePlaced max lines stacks → (at depth : ℕ) →
    IsReached max lines at depth → (stack : List Held) × (stack_at stacks at ≡ Some stack)
stack-there max lines stacks placed at depth reached = by (stack_at stacks at) refl (placed.reached at depth reached)
  where
    by : (o : Option (List Held)) → stack_at stacks at ≡ o → IsTrue (is_some o) → (stack : List Held) × (stack_at stacks at ≡ Some stack)
    by None e some = absurd (cc some)
    by (Some s) e some = (s, e)

rule-there : (family : Family) (lines : List (Option Line)) (stacks : Stacks) (at : ℕ) (line : Line) (stack : List Held)
    (rule : Option VerifyRule) → line_at lines at ≡ Some line → stack_at stacks at ≡ Some stack →
    IsRuleAt family (line_at lines at) (stack_at stacks at) rule → IsTypeRule family line stack rule
rule-there family lines stacks at line stack rule here has is =
    subst (λ (o : Option (List Held)). IsRuleAt family (Some line) o rule) has
    (subst (λ (o : Option Line). IsRuleAt family o (stack_at stacks at) rule) here is)

-- one place more, where no rule fails
pub kept-more : (family : Family) (max : ℕ) (lines : List (Option Line)) (stacks : Stacks) (n : ℕ) → ArePlaced max lines stacks →
    IsRuleAt family (line_at lines n) (stack_at stacks n) None → AreKeptBelow family max lines (typing_of stacks) n →
    AreKeptBelow family max lines (typing_of stacks) (n + 1)
kept-more family max lines stacks n placed none below line at depth rule less here reached = elim (cases_lt at n) [
  | inl before ↦ below line at depth rule before here reached
  | inr past ↦
      let same : at ≡ n = omega (arith, less, past) in
      let stack = stack-there max lines stacks placed at depth reached in
      let is : IsRuleAt family (line_at lines at) (stack_at stacks at) None =
      subst (λ (k : ℕ). IsRuleAt family (line_at lines k) (stack_at stacks k) None) (sym same) none in
      subst (λ (s : List Held). Keeps family line s rule) (sym (typing-is stacks at stack.0 stack.1))
      (rule-there family lines stacks at line stack.0 None here stack.1 is rule)
]

pub kept-all : (family : Family) (max : ℕ) (lines : List (Option Line)) (stacks : Stacks) (n : ℕ) → length lines ≤ n →
    AreKeptBelow family max lines (typing_of stacks) n → AreKept family max lines (typing_of stacks)
kept-all family max lines stacks n past below line at depth rule here reached =
    let less = at-within lines at line here in
    let within : at < n = omega (arith, less, past) in
    below line at depth rule within here reached

-- the first place at which one fails
pub first-there : (family : Family) (max : ℕ) (lines : List (Option Line)) (stacks : Stacks) (at : ℕ) (rule : VerifyRule) →
    ArePlaced max lines stacks → IsRuleAt family (line_at lines at) (stack_at stacks at) (Some rule) →
    AreKeptBelow family max lines (typing_of stacks) at → IsFirst (FailsTypes family max lines (typing_of stacks)) type_rules at rule
first-there family max lines stacks at rule placed is below = by (line_at lines at) (stack_at stacks at) refl refl is
  where
    by : (o : Option Line) (p : Option (List Held)) → line_at lines at ≡ o → stack_at stacks at ≡ p → IsRuleAt family o p (Some rule) →
        IsFirst (FailsTypes family max lines (typing_of stacks)) type_rules at rule
    by None p here has h = absurd (cc h)
    by (Some line) None here has h = absurd (cc h)
    by (Some line) (Some stack) here has h = record {
      fails = (
        line,
        length stack,
        here,
        placed.deep at stack has,
        λ keeps. h.1 (subst (λ (s : List Held). Keeps family line s rule) (typing-is stacks at stack has) keeps),
      );
      among = h.0;
      nowhere_before = λ other place less among fails.
          fails.4 (below fails.0 place fails.1 other less fails.2 fails.3);
      none_sooner = λ other less among fails.
          let same : line ≡ fails.0 = cc (here, fails.2) in
          fails.4 (subst (λ (l : Line). Keeps family l (typing_of stacks at) other) same
          (subst (λ (s : List Held). Keeps family line s other) (sym (typing-is stacks at stack has)) (h.2 other less)));
    }
