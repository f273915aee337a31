use Rattle.std.proofs.Common.{◌+◌}
use Rattle.assembly_image.specs.Reading.{module_of}
use Rattle.assembly_image.proofs.FindLemmas.{NoneBetween, is_type_sought}
use Rattle.assembly_image.proofs.image.AssemblyImage.find_type.Given as goal

abbrev pub invariant-loop-n : goal.invariant-loop-n
invariant-loop-n l = NoneBetween (is_type_sought (module_of l.self) l.full) 1 (l.n + 1)
