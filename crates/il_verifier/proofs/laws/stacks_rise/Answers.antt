use Rattle.il_verifier.proofs.Order.{IsOrder}
use Rattle.il_verifier.proofs.Rises.{rises}
use Rattle.il_verifier.proofs.laws.stacks_rise.Goals as goal

pub returns : goal.returns
returns c = λ family short.
    let laws : IsOrder family = record {
      same = c.merging_is_least.ensures.reflexive family;
      trans = c.merging_is_least.ensures.transitive family;
      anti = c.merging_is_least.ensures.antisymmetric family short;
      upper = c.merging_is_least.ensures.above_both family;
      least = c.merging_is_least.ensures.least family short;
      topped = c.object_is_above_all.ensures family short;
      plain = c.no_array_is_above.ensures family short;
    } in
    rises family laws
