use Rattle.std.proofs.Common.{arith}
use Rattle.host_report.proofs.LineLemmas.{sent_more}
use Rattle.host_report.proofs.line.write_whole.Goals as goal

pub loop-rest-preserved : goal.loop-rest-preserved
loop-rest-preserved g c = record {
  sent = sent_more _ _ _ _ _ _ c.loop-rest.invariant.sent c.in_ok-taken.ensures.written;
  counted = omega (arith, c.loop-rest.invariant.counted, c.write.ensures.faults);
}
