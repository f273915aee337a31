use Rattle.host_script.proofs.LineLemmas.{past_space, at_other, only_spaces}
use Rattle.host_script.proofs.line.is_passed_over.Goals as goal

pub loop-byte-preserved : goal.loop-byte-preserved
loop-byte-preserved c =
    past_space c.args.line.now c.loop-byte.byte-index c.loop-byte.invariant c.loop-byte-test.true c.if-byte-ne32.false

pub returns-then-byte-ne32 : goal.returns-then-byte-ne32
returns-then-byte-ne32 c = at_other c.args.line.now c.loop-byte.byte-index c.loop-byte.invariant c.loop-byte-test.true c.if-byte-ne32.true

pub returns : goal.returns
returns c = only_spaces c.args.line.now c.loop-byte.byte-index c.loop-byte.invariant c.loop-byte-test.false
