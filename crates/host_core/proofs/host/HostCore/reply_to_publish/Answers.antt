use Rattle.std.proofs.Common.{arith}
use Rattle.host_core.proofs.Few.{bound-few}
use Rattle.host_core.proofs.host.HostCore.reply_to_publish.Goals as goal

pub overflow_add-result : goal.overflow_add-result
overflow_add-result g c = omega (arith, bound-few c.args.self.now.journal c.requires.short, c.bound_count.ensures)

pub overflow_cast-result : goal.overflow_cast-result
overflow_cast-result g c = omega (arith, bound-few c.args.self.now.journal c.requires.short, c.bound_count.ensures)
