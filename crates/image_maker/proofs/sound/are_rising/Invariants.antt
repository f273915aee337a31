use Rattle.std.proofs.Common.{◌≡◌, drop}
use Rattle.image_maker.specs.Sound as spec
use Rattle.image_maker.proofs.sound.are_rising.Given as goal

abbrev pub invariant-loop-row : goal.invariant-loop-row
invariant-loop-row l = spec.are_rising l.least (drop l.row-index l.rows) ≡ spec.are_rising 0 l.rows
