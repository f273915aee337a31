use Rattle.std.proofs.Common.{◌+◌, ◌<◌, ◌^◌, ◌∷◌, [], ◌++◌, ap, sym, ◌∙◌, arith}
use Rattle.host_events.specs.declared.event.Event.TheVariants.{Collect}
use Rattle.host_events.specs.declared.reply.Reply.{Reply}
use Rattle.host_events.specs.Steps.{entry_of}
use Rattle.host_lock.specs.Tallies.{ticks}
use Rattle.host_lock.proofs.Tallies.{own-ticks, counted_ticks, ticks_more}
use Rattle.host_lock.proofs.tests.tallies.CountKept.step.Goals as goal

pub overflow_add-self : goal.overflow_add-self
overflow_add-self c = let own = own-ticks 1 c.args.self.now.made in omega (arith, c.requires.1)

pub returns-clause-entry : goal.returns-clause-entry
returns-clause-entry c =
    let n = c.args.self.now.made in
    ticks_more n ∙ (λ i. ticks n ++ entry_of (sym c.requires.0 i) Collect (ap (λ a. a.reply) (sym c.made.ensures) i) ∷ [])

pub returns-clause-allowed : goal.returns-clause-allowed
returns-clause-allowed c =
    let n = c.args.self.now.made in
    let own = own-ticks 1 n in
    counted_ticks (n + 1) (omega (arith, c.requires.1))
