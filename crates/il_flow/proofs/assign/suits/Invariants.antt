use Rattle.std.proofs.Common.{◌↔◌, length}
use Rattle.il_flow.specs.Assigning.{Suits}
use Rattle.il_flow.proofs.assign.suits.Given as goal

abbrev pub invariant-loop-high : goal.invariant-loop-high
invariant-loop-high g l =
    Suits (g.P.Parents.family l.parents) l.fn.value l.fn.place
    ↔ Suits (g.P.Parents.family l.parents) l.low l.high

abbrev pub decreases-loop-high : goal.decreases-loop-high
decreases-loop-high g l = length l.low
