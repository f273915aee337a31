use Rattle.host_core.proofs.Taken.{still_there, with_freed-next, with_freed-nil}
use Rattle.host_core.proofs.tables.take_all.Goals as goal

pub loop-number-init : goal.loop-number-init
loop-number-init c = with_freed-nil c.args.contexts.now

pub take-requires-clause-there : goal.take-requires-clause-there
take-requires-clause-there c =
    (still_there c.args.contexts.now c.loop-number.contexts c.args.numbers.now c.loop-number.number-index c.loop-number-test.true c.loop-number.invariant c.requires).there

pub take-requires-clause-other : goal.take-requires-clause-other
take-requires-clause-other c =
    (still_there c.args.contexts.now c.loop-number.contexts c.args.numbers.now c.loop-number.number-index c.loop-number-test.true c.loop-number.invariant c.requires).other

pub loop-number-preserved : goal.loop-number-preserved
loop-number-preserved c =
    with_freed-next c.args.contexts.now c.loop-number.contexts c.take.new.self c.args.numbers.now c.loop-number.number-index c.loop-number-test.true
    c.loop-number.invariant c.take.ensures
