use Rattle.std.proofs.Common.{List, sym, subst}
use Rattle.il_verifier.specs.declared.joins.Pair.{Pair}
use Rattle.il_verifier.specs.Pools.{IsWay}
use Rattle.il_verifier.proofs.Ways.{way-push}
use Rattle.il_verifier.proofs.joins.descend.Goals as goal

pub down-preserved : goal.down-preserved
down-preserved c = record {
  way = subst (λ (path : List Pair). IsWay c.args.pool.now c.args.pair path c.below_both-pair.result) (sym c.in_ok-push.ensures.items)
      (way-push c.args.pool.now c.down.path.items c.args.pair c.down.pair c.below_both-pair.result c.down.invariant.way
      c.below_both-pair.ensures.step);
  even = c.below_both-pair.ensures.even;
}
