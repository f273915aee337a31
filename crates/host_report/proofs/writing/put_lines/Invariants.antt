use Rattle.std.proofs.Common.{take}
use Rattle.std.specs.List.{flat_map}
use Rattle.host_report.specs.Fields.{line_text}
use Rattle.host_report.specs.Line.{Puts}
use Rattle.host_report.specs.Report.{print_fields}
use Rattle.host_report.proofs.writing.put_lines.Given as goal

abbrev pub invariant-loop-printed : goal.invariant-loop-printed
invariant-loop-printed g l =
    Puts g.S.Sink.written g.S.Sink.faults l.initial.line l.initial.out l.line l.out (flat_map (λ units. line_text (print_fields units)) (take l.printed-index l.lines))
