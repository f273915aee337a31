use Rattle.il_verifier.specs.Pools.{IsEven, IsWay}
use Rattle.il_verifier.proofs.joins.descend.Given as goal

-- the way down so far
abbrev pub invariant-down : goal.invariant-down
invariant-down l = record {
  way : IsWay l.pool l.fn.pair l.path.items l.pair;
  even : IsEven l.pool l.pair;
}

abbrev pub decreases-down : goal.decreases-down
decreases-down l = l.pair.own
