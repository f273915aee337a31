use Rattle.std.proofs.Common.{◌∷◌, ◌++◌, [], sym, ap, ◌∙◌}
use Rattle.host_events.specs.Steps.{entry_of, own_steps, step_of}
use Rattle.host_threads.proofs.OwnSteps.{own_steps-own, own_steps-after_other, trace_after-answer}
use Rattle.host_threads.proofs.seat.ask.Goals as goal

pub returns-clause-suits : goal.returns-clause-suits
returns-clause-suits g c =
    let event = g.K.Order.HasEvent.event c.args.order in
    let reply = g.K.Answer.HasReply.reply c.step-answer.result in
    let trace = g.L.Flow.trace c.args.flow.now in
    record {
      allowed = c.step-answer.ensures.allowed;
      own =
          ap (λ j. own_steps g.K.Kept.code_of j c.args.thread) c.step-answer.ensures.entry
          ∙ own_steps-own g.K.Kept.code_of (g.K.Kept.journal c.args.state.now) c.args.thread event reply
          ∙ ap (λ steps. steps ++ step_of event reply (g.K.Kept.code_of (g.K.Kept.journal c.args.state.now) (entry_of c.args.thread event reply)) ∷ []) c.requires.suits.own
          ∙ ap (λ code. trace ++ step_of event reply code ∷ []) (sym c.step-answer.ensures.code)
          ∙ sym (trace_after-answer g.K.Order.HasEvent.event g.K.Answer.HasReply.reply g.K.Answer.HasReply.code trace _ c.args.order c.step-answer.result c.requires.waits)
          ∙ sym c.resume.ensures.trace;
    }

pub returns-clause-others : goal.returns-clause-others
returns-clause-others g c = λ other differs.
    own_steps-after_other g.K.Kept.code_of (g.K.Kept.journal c.args.state.now) (g.K.Kept.journal c.step-answer.new.self)
    (entry_of c.args.thread (g.K.Order.HasEvent.event c.args.order) (g.K.Answer.HasReply.reply c.step-answer.result)) other differs c.step-answer.ensures.entry
