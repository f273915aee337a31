use Rattle.std.proofs.Common.{◌≡◌, sym, ◌∙◌, true, true≢false}
use Rattle.probing.specs.Rules.{is_for}
use Rattle.probing.proofs.Counts.{counted_next}
use Rattle.probing.proofs.rules.nth_of.Goals as goal
use Rattle.probing.proofs.rules.nth_of.Goals.{else-left-eq1-via-then-left-eq1+else-is_for, else-left-eq1-via-else-left-eq1}

pub loop-rule-preserved : goal.loop-rule-preserved
loop-rule-preserved c =
    let other : c.loop-rule.left ≡ 1 → is_for c.args.place c.args.name.now c.rule-item.result ≡ true → ⊥ =
    elim c.else-left-eq1.branch [
      | else-left-eq1-via-then-left-eq1+else-is_for w ↦ (λ last passes. true≢false (sym passes ∙ sym w.is_for.ensures ∙ w.if-is_for.false))
      | else-left-eq1-via-else-left-eq1 w ↦ (λ last passes. w.if-left-eq1.false last)
    ] in
    counted_next (is_for c.args.place c.args.name.now) (λ rule. rule.answer) c.args.rules.now c.loop-rule.rule-index c.rule-item.result
    c.loop-rule.left c.left_after-left.result c.loop-rule-test.true c.rule-item.is other c.left_after-left.ensures
    ∙ c.loop-rule.invariant
