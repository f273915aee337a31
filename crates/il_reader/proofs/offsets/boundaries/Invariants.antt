use Rattle.std.proofs.Common.{◌-◌, ◌≤◌, length}
use Rattle.il_reader.specs.Offsets.{IsPath}
use Rattle.il_reader.proofs.offsets.boundaries.Given as goal

abbrev pub invariant-loop-at : goal.invariant-loop-at
invariant-loop-at l = record {
  within : l.at ≤ length l.code;
  path : IsPath l.code 0 l.places.items l.at;
}

abbrev pub decreases-loop-at : goal.decreases-loop-at
decreases-loop-at l = length l.code - l.at
