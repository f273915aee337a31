use Rattle.host_script.proofs.SmallLemmas.{accepted_is_small_each}
use Rattle.host_script.proofs.laws.accepted_is_small.Goals as goal

pub returns : goal.returns
returns c = accepted_is_small_each
