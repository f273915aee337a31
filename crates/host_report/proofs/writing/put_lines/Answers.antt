use Rattle.std.proofs.Common.{arith}
use Rattle.host_report.specs.Fields.{line_text}
use Rattle.host_report.specs.Report.{print_fields}
use Rattle.host_report.proofs.LineLemmas.{puts_none}
use Rattle.host_report.proofs.ReportLemmas.{puts_each, puts_each_all}
use Rattle.host_report.proofs.writing.put_lines.Goals as goal

pub loop-printed-init : goal.loop-printed-init
loop-printed-init g c = puts_none

pub loop-printed-preserved : goal.loop-printed-preserved
loop-printed-preserved g c =
    puts_each (λ units. line_text (print_fields units)) c.args.lines.now c.loop-printed.printed-index _ _ (omega arith) c.printed-item.is c.loop-printed.invariant c.put_printed.ensures

pub returns : goal.returns
returns g c = puts_each_all (λ units. line_text (print_fields units)) c.args.lines.now c.loop-printed.printed-index (omega arith) c.loop-printed.invariant
