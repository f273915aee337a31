use Rattle.std.proofs.Common.{arith, ◌∙◌}
use Rattle.host_report.specs.Report.{thread_text}
use Rattle.host_report.proofs.LineLemmas.{puts_none}
use Rattle.host_report.proofs.ReportLemmas.{puts_numbered, puts_numbered_all}
use Rattle.host_report.proofs.writing.put_threads.Goals as goal

pub loop-i-preserved : goal.loop-i-preserved
loop-i-preserved g c =
    puts_numbered thread_text 1 _ _ _ _ _ c.loop-i-test.true (omega arith) (c.items.ensures ∙ c.index-ends-i.is) c.loop-i.invariant c.put_thread.ensures

pub loop-i-init : goal.loop-i-init
loop-i-init g c = puts_none

pub returns : goal.returns
returns g c = puts_numbered_all thread_text 1 _ _ (omega (arith, c.loop-i-test.false)) c.loop-i.invariant
