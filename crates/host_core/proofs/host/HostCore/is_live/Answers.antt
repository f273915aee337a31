use Rattle.std.proofs.Common.{◌∙◌, ap}
use Rattle.std.specs.Prelude.{is_some}
use Rattle.host_core.specs.Core.{Core}
use Rattle.host_core.proofs.Seen.{row-told, some_map}
use Rattle.host_core.proofs.host.HostCore.is_live.Goals as goal

pub returns : goal.returns
returns g c =
    let told = row-told c.self.inside.app c.self.inside.journal.items c.args.self.now.journal c.self.inside.tables.contexts.list c.args.context c.self.invariant.represents.contexts c.self.invariant.allowed.proper.legal (ap (λ (v : Core). v.journal) c.self.view_is) in
    c.is_some.ensures ∙ some_map (λ r. r.now) c.row.result ∙ ap is_some c.row.ensures.row ∙ told.there
