use Rattle.il_verifier.proofs.Order.{IsMerging}
use Rattle.il_verifier.proofs.Ways.{known-join}
use Rattle.il_verifier.proofs.joins.join_pair.Goals as goal

pub ascend-requires-clause-low : goal.ascend-requires-clause-low
ascend-requires-clause-low g c =
    let family = g.P.Parents.family c.args.parents.now in
    let lawful = g.met.P.Parents.lawful c.args.parents.now in
    let merging : IsMerging family = record {
      same = c.merging_is_least.ensures.reflexive family;
      trans = c.merging_is_least.ensures.transitive family;
      anti = c.merging_is_least.ensures.antisymmetric family lawful;
      upper = c.merging_is_least.ensures.above_both family;
      least = c.merging_is_least.ensures.least family lawful;
    } in
    let low = c.in_ok-descent.descent.low in
    known-join family merging c.args.pool.now c.args.joins.now.joins low.pair low.both c.in_ok-descent.ensures.even c.requires.joins.joins
    c.in_ok-descent.ensures.known
