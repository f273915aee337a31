use Rattle.std.proofs.Common.{take}
use Rattle.std.specs.Prelude.{decimal}
use Rattle.std.specs.List.{flat_map}
use Rattle.host_report.specs.Fields.{spaced}
use Rattle.host_report.specs.Line.{Puts}
use Rattle.host_report.proofs.field.put_numbers.Given as goal

abbrev pub invariant-loop-number : goal.invariant-loop-number
invariant-loop-number g l =
    Puts g.S.Sink.written g.S.Sink.faults l.initial.line l.initial.out l.line l.out (flat_map (λ number. spaced (decimal number)) (take l.number-index l.numbers))
