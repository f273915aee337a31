use Rattle.host_events.proofs.Replies.{one_reply_each}
use Rattle.host_events.proofs.laws.one_reply.Goals as goal

pub returns : goal.returns
returns c = one_reply_each
