use Rattle.std.proofs.Common.{◌+◌, drop, length}
use Rattle.il_verifier.specs.Pools.{stack_by}
use Rattle.il_verifier.specs.Worklist.{stacks_by, weights}
use Rattle.il_verifier.proofs.Going.{IsGoing}
use Rattle.il_verifier.proofs.typing.hand_on.Given as goal

-- the stack was handed on to the places so far
abbrev pub invariant-loop-place : goal.invariant-loop-place
invariant-loop-place g l =
    IsGoing (g.P.Parents.family l.parents) l.max l.lines l.at (stack_by l.fn.search.pool l.own) (drop l.place-index l.place-items)
    l.initial.search.pool l.search.pool l.search.joins l.search.stacks.items l.search.todo
    (weights (g.P.Parents.family l.parents) l.max (stacks_by l.fn.search.pool l.fn.search.stacks.items) + length l.fn.search.todo)
