use Rattle.std.proofs.Common.{◌-◌, ◌≤◌}
use Rattle.std.specs.List.{flat_map, range_with_len}
use Rattle.assembly_image.specs.Reading.{module_of}
use Rattle.alc_program.specs.Inspection.{member_text}
use Rattle.host_report.specs.Line.{Puts}
use Rattle.alc_program.proofs.inspection.put_members.Given as goal

-- the members so far were put; where the list ends before it begins there are none
abbrev pub invariant-loop-n : goal.invariant-loop-n
invariant-loop-n g l = record {
  put : Puts g.S.Sink.written g.S.Sink.faults l.initial.line l.initial.out l.line l.out
      (flat_map (member_text (module_of l.image) l.member) (range_with_len l.first (l.n - l.first)));
  within : l.n - l.first ≤ l.after - l.first;
}
