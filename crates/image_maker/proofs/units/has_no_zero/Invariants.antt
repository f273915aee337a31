use Rattle.std.proofs.Common.{◌≡◌, length}
use Rattle.cli_words.specs.Text.{bytes_of}
use Rattle.image_maker.specs.Sound as spec
use Rattle.image_maker.proofs.units.has_no_zero.Given as goal

abbrev pub invariant-loop-rest : goal.invariant-loop-rest
invariant-loop-rest l = spec.has_no_zero (bytes_of l.rest) ≡ spec.has_no_zero (bytes_of l.units)

abbrev pub decreases-loop-rest : goal.decreases-loop-rest
decreases-loop-rest l = length l.rest
