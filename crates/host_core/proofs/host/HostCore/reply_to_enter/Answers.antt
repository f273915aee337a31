use Rattle.std.proofs.Common.{arith, ap}
use Rattle.host_core.specs.Core.{Core}
use Rattle.host_core.proofs.Few.{begun-few}
use Rattle.host_core.proofs.host.HostCore.reply_to_enter.Goals as goal

pub overflow_add-result : goal.overflow_add-result
overflow_add-result g c =
    omega (arith, begun-few c.args.self.now.journal c.self.invariant.represents (ap (λ (v : Core). v.journal) c.self.view_is) c.requires.short)
