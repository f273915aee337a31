use Rattle.il_flow.proofs.Joins.{under-same, under-trans, under-anti, joined-upper, joined-least}
use Rattle.il_flow.proofs.laws.merging_is_least.Goals as goal

pub returns : goal.returns
returns c = record {
  reflexive = under-same;
  transitive = under-trans;
  antisymmetric = λ family short. under-anti c.equal_keys_are_same.ensures family short;
  above_both = joined-upper c.equal_keys_are_same.ensures;
  least = λ family short. joined-least c.equal_keys_are_same.ensures family short;
}
