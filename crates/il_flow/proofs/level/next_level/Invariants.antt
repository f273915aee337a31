use Rattle.std.proofs.Common.{take}
use Rattle.il_flow.proofs.Levels.{AreAbove}
use Rattle.il_flow.proofs.level.next_level.Given as goal

-- the types above those so far
abbrev pub invariant-loop-key : goal.invariant-loop-key
invariant-loop-key g l =
    AreAbove (g.P.Parents.family l.parents) (take l.key-index l.level) l.next.items
