use Rattle.std.proofs.Common.{◌≡◌, ◌++◌, length}
use Rattle.cli_words.specs.Text.{units_in}
use Rattle.cli_words.proofs.units.units_in.Given as goal

-- the units that are made, and then those of the bytes that are left
abbrev pub invariant-loop-rest : goal.invariant-loop-rest
invariant-loop-rest l = l.units.items ++ units_in l.rest ≡ units_in l.bytes

abbrev pub decreases-loop-rest : goal.decreases-loop-rest
decreases-loop-rest l = length l.rest
