use Rattle.std.proofs.Common.{◌≡◌, length}
use Rattle.image_maker.specs.Sound as spec
use Rattle.image_maker.proofs.units.is_whole.Given as goal

abbrev pub invariant-loop-rest : goal.invariant-loop-rest
invariant-loop-rest l = spec.is_whole l.rest ≡ spec.is_whole l.units

abbrev pub decreases-loop-rest : goal.decreases-loop-rest
decreases-loop-rest l = length l.rest
