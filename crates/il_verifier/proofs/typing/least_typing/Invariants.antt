use Rattle.std.proofs.Common.{◌+◌, length}
use Rattle.il_verifier.specs.Worklist.{stacks_by, weights, IsSound, AreSought}
use Rattle.il_verifier.proofs.typing.least_typing.Given as goal

-- what the search has found so far
abbrev pub invariant-turns : goal.invariant-turns
invariant-turns g l = record {
  sound : IsSound (g.P.Parents.family l.parents) l.search.pool l.search.joins l.search.stacks.items;
  sought : AreSought (g.P.Parents.family l.parents) l.max l.lines (stacks_by l.search.pool l.search.stacks.items) l.search.todo;
}

abbrev pub decreases-turns : goal.decreases-turns
decreases-turns g l =
    weights (g.P.Parents.family l.parents) l.max (stacks_by l.search.pool l.search.stacks.items) + length l.search.todo
