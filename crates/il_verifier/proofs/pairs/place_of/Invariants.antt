use Rattle.std.proofs.Common.{◌+◌, ◌≤◌, length}
use Rattle.il_verifier.proofs.pairs.place_of.Given as goal

-- the pairs among which the place is sought are there
abbrev pub invariant-halves : goal.invariant-halves
invariant-halves g l = l.start + l.size ≤ length l.kept

abbrev pub decreases-halves : goal.decreases-halves
decreases-halves g l = l.size
