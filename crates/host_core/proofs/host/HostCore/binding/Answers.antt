use Rattle.std.proofs.Common.{◌∙◌, ap, sym}
use Rattle.bind_cache.specs.Bindings.{bound}
use Rattle.host_events.specs.Bindings.{binding}
use Rattle.host_core.specs.Core.{Core}
use Rattle.host_core.proofs.Bound.{binding-other}
use Rattle.host_core.proofs.host.HostCore.binding.Goals as goal

pub returns : goal.returns
returns g c =
    c.lookup.ensures.bound ∙ ap (λ l. bound l c.args.context c.args.name.now) c.self.invariant.represents.bindings
    ∙ binding-other c.self.inside.journal.items c.args.context c.args.name.now (sym c.is_platform_name.ensures ∙ c.if-is_platform_name.false)
    ∙ ap (λ (v : Core). binding v.journal c.args.context c.args.name.now) c.self.view_is
