use Rattle.std.proofs.Common.{rules}
use Rattle.host_lock.proofs.Tallies.{counted_ticks}
use Rattle.host_lock.proofs.tests.tallies.CountKept.keeps.Goals as goal

pub returns : goal.returns
returns c = counted_ticks c.args.self.now.made (search rules)
