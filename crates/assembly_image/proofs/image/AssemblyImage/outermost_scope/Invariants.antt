use Rattle.std.proofs.Common.{◌≡◌, ◌-◌}
use Rattle.assembly_image.specs.Names.{outermost_within}
use Rattle.assembly_image.specs.Reading.{module_of}
use Rattle.assembly_image.proofs.image.AssemblyImage.outermost_scope.Given as goal

abbrev pub invariant-loop-passed : goal.invariant-loop-passed
invariant-loop-passed l =
    outermost_within (module_of l.self) 16 l.fn.n ≡ outermost_within (module_of l.self) (16 - l._passed) l.outermost
