use Rattle.host_events.proofs.Bound.{assemblies_stay_each}
use Rattle.host_events.proofs.laws.assemblies_stay.Goals as goal

pub returns : goal.returns
returns c = assemblies_stay_each
