use Rattle.il_flow.proofs.Assigned.{stays}
use Rattle.il_flow.proofs.laws.values_stay_assignable.Goals as goal

pub returns : goal.returns
returns c = stays c.equal_keys_are_same.ensures
