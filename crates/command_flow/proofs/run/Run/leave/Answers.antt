use Rattle.command_flow.proofs.FlowLemmas.{asked-leave}
use Rattle.command_flow.proofs.run.Run.leave.Goals as goal

pub ask-requires-clause-asked : goal.ask-requires-clause-asked
ask-requires-clause-asked c =
    let now = c.args.self.now in
    asked-leave now.plan now.trace now.ends c.args.operation c.args.outcome c.leave_order-order.result c.requires.can c.leave_order-order.ensures
