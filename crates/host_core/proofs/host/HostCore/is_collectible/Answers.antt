use Rattle.std.proofs.Common.{ap}
use Rattle.host_core.specs.Core.{Core}
use Rattle.host_core.proofs.Once.{collectible_none, collectible_some}
use Rattle.host_core.proofs.Seen.{row-told}
use Rattle.host_core.proofs.host.HostCore.is_collectible.Goals as goal

pub returns-in-Some : goal.returns-in-Some
returns-in-Some g c =
    collectible_some c.self.inside.app c.self.inside.journal.items c.args.self.now.journal c.self.inside.tables.contexts.list c.args.context c.in-Some.row.now
    c.self.invariant.represents.contexts c.self.invariant.allowed.proper.legal (ap (λ (v : Core). v.journal) c.self.view_is) c.in-Some.ensures.row

pub returns-in-None : goal.returns-in-None
returns-in-None g c =
    let told = row-told c.self.inside.app c.self.inside.journal.items c.args.self.now.journal c.self.inside.tables.contexts.list c.args.context c.self.invariant.represents.contexts
    c.self.invariant.allowed.proper.legal (ap (λ (v : Core). v.journal) c.self.view_is) in
    collectible_none c.args.self.now.journal c.args.context _ told c.in-None.ensures.row c.requires
