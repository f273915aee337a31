use Rattle.std.proofs.Common.{arith}
use Rattle.host_report.proofs.KeyLemmas.{puts_ending, puts_open, puts_all}
use Rattle.host_report.proofs.key_text.put_endings.Goals as goal

pub loop-i-preserved : goal.loop-i-preserved
loop-i-preserved g c =
    let kept = c.loop-i.invariant in
    record {
      put = puts_ending c.args.before.now c.loop-i.i c.loop-i.types c.arity-arity.result _ c.loop-i-test.true (omega (arith, kept.few, kept.some)) c.arity-arity.ensures c.if-arity-types.false kept.put c.put_ending.ensures;
      some = omega arith;
      few = omega (arith, kept.few, kept.some, c.loop-i-test.true, c.if-arity-types.false);
    }

pub returns-then-arity-types : goal.returns-then-arity-types
returns-then-arity-types g c =
    let kept = c.loop-i.invariant in
    puts_open c.args.before.now c.loop-i.i c.loop-i.types c.arity-arity.result _ c.loop-i-test.true (omega (arith, kept.few, kept.some)) c.arity-arity.ensures c.if-arity-types.true kept.put

pub returns : goal.returns
returns g c = puts_all c.args.before.now c.loop-i.i c.loop-i.types c.loop-i-test.false c.loop-i.invariant.put
