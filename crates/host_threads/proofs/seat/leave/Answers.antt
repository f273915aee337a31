use Rattle.host_events.specs.Steps.{entry_of}
use Rattle.host_threads.proofs.OwnSteps.{own_steps-after_other}
use Rattle.host_threads.proofs.seat.leave.Goals as goal

pub returns-in-Some-clause-others : goal.returns-in-Some-clause-others
returns-in-Some-clause-others g c = λ other differs.
    own_steps-after_other g.K.Kept.code_of (g.K.Kept.journal c.args.state.now) (g.K.Kept.journal c.step.new.self)
    (entry_of c.args.thread (g.K.Order.HasEvent.event c.in-Some.order) (g.K.Answer.HasReply.reply c.step.result)) other differs c.step.ensures.entry
