use Rattle.std.proofs.Common.{◌≡◌, ℕ, ◌+◌, ◌<◌, ◌≤◌, length, min}
use Rattle.std.specs.List.{All}
use Rattle.il_verifier.specs.Search.{AreLow, AreClear, HasSought, missing}
use Rattle.il_verifier.proofs.depth.depths.Given as goal

-- the depths are those of a round
abbrev pub invariant-rounds : goal.invariant-rounds
invariant-rounds l = record {
  long : length l.lines ≤ length l.depths.items;
  sized : length l.found.items ≡ length l.depths.items;
  low : AreLow l.max l.depths.items;
  clear : AreClear l.depths.items l.found.items;
  within : All (λ from. from < length l.depths.items) l.newest.items;
  sought : (k : ℕ) × HasSought l.max l.lines k l.depths.items l.newest.items;
}

abbrev pub decreases-rounds : goal.decreases-rounds
decreases-rounds l = missing l.depths.items + min 1 (length l.newest.items)
