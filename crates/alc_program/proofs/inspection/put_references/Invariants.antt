use Rattle.std.specs.List.{flat_map, range_with_len}
use Rattle.assembly_image.specs.Reading.{module_of}
use Rattle.alc_program.specs.Inspection.{reference_text}
use Rattle.host_report.specs.Line.{Puts}
use Rattle.alc_program.proofs.inspection.put_references.Given as goal

abbrev pub invariant-loop-before : goal.invariant-loop-before
invariant-loop-before g l =
    Puts g.S.Sink.written g.S.Sink.faults l.initial.line l.initial.out l.line l.out
    (flat_map (reference_text (module_of l.image)) (range_with_len 1 l.before))
