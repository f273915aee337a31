use Rattle.host_core.proofs.Others.{followed_other}
use Rattle.host_core.proofs.tables.Tables.follow.Goals as goal

pub returns : goal.returns
returns g c =
    let other = c.in_default in
    followed_other c.args.self.now c.args.event c.args.code c.args.reply.now other.not-New other.not-Rule other.not-Enter other.not-Publish other.not-Unload other.not-Collect
