use Rattle.std.proofs.Common.{◌≡◌, ◌-◌}
use Rattle.std.specs.Str.{bytes_eq}
use Rattle.assembly_image.specs.Names.{full_name, full_name_within}
use Rattle.assembly_image.specs.Reading.{module_of}
use Rattle.assembly_image.proofs.image.AssemblyImage.has_full_name.Given as goal

abbrev pub invariant-loop-named : goal.invariant-loop-named
invariant-loop-named l =
    bytes_eq (full_name (module_of l.self) l.fn.row) l.fn.full
    ≡ bytes_eq (full_name_within (module_of l.self) (16 - l._named) l.row) l.units
