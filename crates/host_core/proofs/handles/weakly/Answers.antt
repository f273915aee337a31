use Rattle.host_events.specs.Handles.{weak_of}
use Rattle.host_core.proofs.Scans.{first_some, none_some}
use Rattle.host_core.proofs.handles.weakly.Goals as goal

pub returns-then-is_some : goal.returns-then-is_some
returns-then-is_some c =
    first_some (λ entry. weak_of c.args.handle.now entry.event entry.reply) c.args.entries.now c.loop-entry.entry-index c.entry-item.result
    c.weak_of-made.result c.loop-entry-test.true c.entry-item.is c.loop-entry.invariant c.weak_of-made.ensures (cc (c.is_some.ensures, c.if-is_some.true))

pub loop-entry-preserved : goal.loop-entry-preserved
loop-entry-preserved c =
    none_some (λ entry. weak_of c.args.handle.now entry.event entry.reply) c.args.entries.now c.loop-entry.entry-index c.entry-item.result
    c.weak_of-made.result c.loop-entry-test.true c.entry-item.is c.loop-entry.invariant c.weak_of-made.ensures (cc (c.is_some.ensures, c.if-is_some.false))
