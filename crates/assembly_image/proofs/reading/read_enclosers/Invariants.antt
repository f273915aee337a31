use Rattle.std.proofs.Common.{◌+◌, ◌-◌}
use Rattle.std.specs.List.{range_with_len}
use Rattle.assembly_image.specs.Reading.{module_of}
use Rattle.assembly_image.specs.Image.{AreOuter}
use Rattle.assembly_image.proofs.reading.read_enclosers.Given as goal

abbrev pub invariant-loop-after : goal.invariant-loop-after
invariant-loop-after l = AreOuter (module_of l.bytes) (range_with_len (l.rows - l.after + 1) l.after) l.enclosers.items
