use Rattle.std.proofs.Common.{◌∙◌, ap, sym, length, refl, arith, ◌+◌}
use Rattle.probing.specs.Rules.{answers}
use Rattle.host_events.specs.Rules.{given_by}
use Rattle.host_core.specs.Core.{Core}
use Rattle.host_core.specs.Tables.{rules_of}
use Rattle.host_core.proofs.Asked.{given_here, given_later, given_nowhere}
use Rattle.host_core.proofs.host.HostCore.first_given.Goals as goal

pub loop-before-init : goal.loop-before-init
loop-before-init g c = (
  refl,
  c.count-before-end.ensures ∙ ap (λ l. length (answers c.args.place c.args.name.now l)) c.self.invariant.represents.rules
      ∙ ap (λ (v : Core). length (answers c.args.place c.args.name.now (rules_of v.journal))) c.self.view_is,
  omega arith,
)

pub loop-before-preserved : goal.loop-before-preserved
loop-before-preserved g c =
    let before = c.loop-before.before in
    let so_far = c.loop-before.invariant in (
      given_later (given_by c.args.self.now.journal c.args.name.now) (answers c.args.place c.args.name.now (rules_of c.args.self.now.journal)) before (before + 1) (before + 1)
          c.nth_given-given.result (omega (arith, c.loop-before-test.true, so_far.1)) refl refl so_far.0 c.nth_given-given.ensures (sym c.is_candidate.ensures ∙ c.if-is_candidate.false),
      so_far.1,
      omega (arith, c.loop-before-test.true),
    )

pub returns-then-is_candidate : goal.returns-then-is_candidate
returns-then-is_candidate g c =
    let before = c.loop-before.before in
    let so_far = c.loop-before.invariant in
    given_here (given_by c.args.self.now.journal c.args.name.now) (answers c.args.place c.args.name.now (rules_of c.args.self.now.journal)) before (before + 1)
    c.nth_given-given.result (omega (arith, c.loop-before-test.true, so_far.1)) refl so_far.0 c.nth_given-given.ensures (sym c.is_candidate.ensures ∙ c.if-is_candidate.true)

pub returns : goal.returns
returns g c =
    let so_far = c.loop-before.invariant in
    given_nowhere (given_by c.args.self.now.journal c.args.name.now) (answers c.args.place c.args.name.now (rules_of c.args.self.now.journal)) c.loop-before.before
    (omega (arith, c.loop-before-test.false, so_far.1, so_far.2)) so_far.0
