use Rattle.std.proofs.Common.{arith}
use Rattle.host_core.proofs.Few.{made-le}
use Rattle.host_core.proofs.host.HostCore.reply_to_new.Goals as goal

pub overflow_add-result : goal.overflow_add-result
overflow_add-result g c =
    let allowed = c.self.invariant.allowed in
    omega (arith, made-le _ c.self.inside.journal.items allowed, allowed.numbered, c.self.invariant.represents.made)
