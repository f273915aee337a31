use Rattle.std.proofs.Common.{◌≡◌, ◌∙◌, true, ap, sym, subst}
use Rattle.std.specs.Prelude.{IfSome}
use Rattle.load_context.specs.Contexts as table
use Rattle.host_events.specs.Contexts.{is_live, named}
use Rattle.host_core.specs.Core.{Core}
use Rattle.host_core.proofs.Seen.{named-contexts_of, named_live}
use Rattle.host_core.proofs.host.HostCore.named.Goals as goal

pub returns-clause-named : goal.returns-clause-named
returns-clause-named g c =
    c.named.ensures ∙ ap (λ l. table.named l c.args.name.now) c.self.invariant.represents.contexts
    ∙ named-contexts_of c.self.inside.journal.items c.args.name.now ∙ ap (λ (v : Core). named v.journal c.args.name.now) c.self.view_is

pub returns-clause-live : goal.returns-clause-live
returns-clause-live g c =
    subst (λ o. IfSome o (λ context. is_live c.args.self.now.journal context ≡ true)) (sym (returns-clause-named g c)) (named_live c.args.self.now.journal c.args.name.now)
