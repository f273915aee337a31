use Rattle.host_events.proofs.Named.{named_are_made_each}
use Rattle.host_events.proofs.laws.named_are_made.Goals as goal

pub returns : goal.returns
returns c = named_are_made_each
