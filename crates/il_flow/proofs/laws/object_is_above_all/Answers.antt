use Rattle.il_flow.proofs.Ups.{object-on}
use Rattle.il_flow.proofs.laws.object_is_above_all.Goals as goal

pub returns : goal.returns
returns c = object-on c.equal_keys_are_same.ensures
