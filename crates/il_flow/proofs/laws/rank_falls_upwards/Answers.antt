use Rattle.il_flow.proofs.Heights.{rank-falls, rank-small}
use Rattle.il_flow.proofs.laws.rank_falls_upwards.Goals as goal

pub returns : goal.returns
returns c = record {
  falls = λ family short. rank-falls c.equal_keys_are_same.ensures family short;
  small = rank-small;
}
