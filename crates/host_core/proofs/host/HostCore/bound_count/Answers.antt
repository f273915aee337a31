use Rattle.std.proofs.Common.{◌∙◌, ap, length}
use Rattle.host_core.specs.Core.{Core}
use Rattle.host_core.proofs.Codes.{codes_counted}
use Rattle.host_core.proofs.host.HostCore.bound_count.Goals as goal

pub returns : goal.returns
returns g c =
    ap length c.as_slice.ensures.value
    ∙ codes_counted c.self.inside.app c.args.self.now.journal c.self.invariant.represents c.self.invariant.allowed.proper.legal (ap (λ (v : Core). v.journal) c.self.view_is)
