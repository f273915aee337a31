use Rattle.std.proofs.Common.{◌≡◌, ◌+◌, ◌≤◌, drop, length, reverse}
use Rattle.signatures.specs.Keys.{greatest, levels_of}
use Rattle.signatures.proofs.levels.levels.Given as goal

abbrev pub invariant-loop-at : goal.invariant-loop-at
invariant-loop-at l =
    (l.at ≤ length l.parts)
    × (greatest l.levels.items + l.at ≤ length l.parts)
    × (reverse l.levels.items ≡ levels_of (drop l.at l.parts))

abbrev pub decreases-loop-at : goal.decreases-loop-at
decreases-loop-at l = l.at
