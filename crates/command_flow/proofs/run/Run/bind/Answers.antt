use Rattle.std.proofs.Common.{◌∙◌, sym}
use Rattle.command_flow.specs.Run.{most_within}
use Rattle.command_flow.proofs.FlowLemmas.{asked-bind, binding-asked}
use Rattle.command_flow.proofs.MoveLemmas.{below_from, leaving-ended, leaving-limited}
use Rattle.command_flow.proofs.run.Run.bind.Goals as goal

pub leave-requires-clause-can : goal.leave-requires-clause-can
leave-requires-clause-can c =
    let now = c.args.self.now in
    leaving-limited now.plan now.trace now.ends c.args.operation c.args.count c.args.flow c.resume.new.self c.args.last c.in-Ask.order c.requires.can c.in-Ask.ensures.plan c.in-Ask.ensures.trace c.in-Ask.ensures.gives
    (sym c.is_below_limit.ensures ∙ c.if-not-is_below_limit.true)

pub ask-requires-clause-asked : goal.ask-requires-clause-asked
ask-requires-clause-asked c =
    let now = c.args.self.now in
    let binding = binding-asked now.plan now.trace now.ends c.args.operation c.args.count c.args.flow c.resume.new.self c.args.last c.in-Ask.order c.requires.can c.in-Ask.ensures.plan c.in-Ask.ensures.trace c.in-Ask.ensures.stand c.in-Ask.ensures.gives
    (below_from c.args.count most_within (sym c.is_below_limit.ensures ∙ c.if-not-is_below_limit.false)) in
    asked-bind now.plan now.trace now.ends c.args.operation c.args.count c.resume.new.self c.in-Ask.order binding c.in-Ask.ensures.gives

pub leave-requires-in-End-clause-can : goal.leave-requires-in-End-clause-can
leave-requires-in-End-clause-can c =
    let now = c.args.self.now in
    leaving-ended now.plan now.trace now.ends c.args.operation c.args.count c.args.flow c.resume.new.self c.args.last c.in-End.outcome c.requires.can c.in-End.ensures.plan c.in-End.ensures.trace c.in-End.ensures.gives
