use Rattle.std.proofs.Common.{refl}
use Rattle.host_report.proofs.KeyLemmas.{puts_part, puts_texts}
use Rattle.host_report.proofs.key_text.put_parts.Goals as goal

pub loop-i-preserved : goal.loop-i-preserved
loop-i-preserved g c =
    puts_part c.args.parts.now _ c.loop-i.i _ _ c.loop-i-test.true refl refl c.loop-i.invariant c.put_part.ensures c.put_comma.ensures

pub returns : goal.returns
returns g c = puts_texts c.args.parts.now c.loop-i.i c.loop-i-test.false c.loop-i.invariant
