use Rattle.std.proofs.Common.{length}
use Rattle.il_verifier.specs.Pools.{Grows, IsJoin, AreNoted, IsWay}
use Rattle.il_verifier.proofs.joins.ascend.Given as goal

-- the join so far, and the way up that is left
abbrev pub invariant-up : goal.invariant-up
invariant-up g l = record {
  grows : Grows l.fn.pool l.pool;
  way : IsWay l.pool l.fn.start l.path.items l.join.pair;
  join : IsJoin (g.P.Parents.family l.parents) l.pool l.join;
  joins : AreNoted (g.P.Parents.family l.parents) l.pool l.joins;
}

abbrev pub decreases-up : goal.decreases-up
decreases-up g l = length l.path.items
