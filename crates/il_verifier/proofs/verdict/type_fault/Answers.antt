use Rattle.std.proofs.Common.{Option, ap, subst, ◌∙◌}
use Rattle.host_events.specs.declared.outcome.VerifyRule.{VerifyRule}
use Rattle.il_flow.specs.Families.{Family}
use Rattle.il_verifier.specs.Lines.{line_at}
use Rattle.il_verifier.specs.TypeRules.{IsRuleAt}
use Rattle.il_verifier.specs.Worklist.{stack_at, stacks_by}
use Rattle.il_verifier.proofs.Types.{kept-more, kept-all, first-there}
use Rattle.il_verifier.proofs.verdict.type_fault.Goals as goal

pub loop-at-preserved : goal.loop-at-preserved
loop-at-preserved g c =
    let family = g.P.Parents.family c.args.parents.now in
    let stacks = stacks_by c.args.typing.now.pool c.args.typing.now.stacks.items in
    let line = line_at c.args.lines.now c.loop-at.at in
    let stack = stack_at stacks c.loop-at.at in
    let rule = subst (λ (f : Family). IsRuleAt f line stack c.in_ok-rule.field-0) (ap g.P.Parents.family c.loop-at.invariant.known)
    c.in_ok-rule.ensures.rule in
    record {
      known = c.rule_at.ensures.same ∙ c.loop-at.invariant.known;
      kept = λ max placed. kept-more family max c.args.lines.now stacks c.loop-at.at placed
          (subst (λ (rule : Option VerifyRule). IsRuleAt family line stack rule) c.in_default.is rule)
          (c.loop-at.invariant.kept max placed);
    }

pub returns-in-Some : goal.returns-in-Some
returns-in-Some g c = λ max placed.
    let family = g.P.Parents.family c.args.parents.now in
    let stacks = stacks_by c.args.typing.now.pool c.args.typing.now.stacks.items in
    let line = line_at c.args.lines.now c.loop-at.at in
    let stack = stack_at stacks c.loop-at.at in
    let rule = subst (λ (f : Family). IsRuleAt f line stack c.in_ok-rule.field-0) (ap g.P.Parents.family c.loop-at.invariant.known)
    c.in_ok-rule.ensures.rule in
    first-there family max c.args.lines.now stacks c.loop-at.at c.in-Some.rule placed
    (subst (λ (rule : Option VerifyRule). IsRuleAt family line stack rule) c.in-Some.is rule)
    (c.loop-at.invariant.kept max placed)

pub returns : goal.returns
returns g c = λ max placed.
    let stacks = stacks_by c.args.typing.now.pool c.args.typing.now.stacks.items in
    kept-all (g.P.Parents.family c.args.parents.now) max c.args.lines.now stacks c.loop-at.at c.loop-at-test.false
    (c.loop-at.invariant.kept max placed)
