use Rattle.host_events.proofs.Within.{own_entries_tell_within_each}
use Rattle.host_events.proofs.laws.own_entries_tell_within.Goals as goal

pub returns : goal.returns
returns c = own_entries_tell_within_each
