use Rattle.host_events.proofs.Since.{own_entries_tell_replies_each}
use Rattle.host_events.proofs.laws.own_entries_tell_replies.Goals as goal

pub returns : goal.returns
returns c = own_entries_tell_replies_each
