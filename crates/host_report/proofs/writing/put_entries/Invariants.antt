use Rattle.std.proofs.Common.{take}
use Rattle.host_report.specs.Line.{Puts}
use Rattle.host_report.specs.Report.{counted_texts, entry_text}
use Rattle.host_report.proofs.writing.put_entries.Given as goal

abbrev pub invariant-loop-i : goal.invariant-loop-i
invariant-loop-i g l =
    Puts g.S.Sink.written g.S.Sink.faults l.initial.line l.initial.out l.line l.out (counted_texts entry_text 1 (take l.i l.entries))
