use Rattle.host_events.proofs.Operations.{own_entries_tell_open_each}
use Rattle.host_events.proofs.laws.own_entries_tell_open.Goals as goal

pub returns : goal.returns
returns c = own_entries_tell_open_each
