use Rattle.host_script.proofs.WordedLemmas.{accepted_is_worded_each}
use Rattle.host_script.proofs.laws.accepted_is_worded.Goals as goal

pub returns : goal.returns
returns c = accepted_is_worded_each
