use Rattle.std.proofs.Common.{◌+◌, ◌≤◌, length, sym, subst, arith}
use Rattle.host_events.specs.Contexts.{freed_contexts, made_count}
use Rattle.host_events.specs.Journal.{Fits}
use Rattle.host_events.proofs.Cases.{ask-each}
use Rattle.host_core.specs.Allowed.{IsAllowed}
use Rattle.host_core.specs.Core.{Core}
use Rattle.host_core.proofs.Freed.{not_gone}
use Rattle.host_core.proofs.host.HostCore.reply_to.Goals as goal

pub reply_to_publish-requires-clause-there : goal.reply_to_publish-requires-clause-there
reply_to_publish-requires-clause-there g c =
    let now = c.args.self.now in
    let allowed : IsAllowed now.fixed now.journal = subst (λ (v : Core). IsAllowed v.fixed v.journal) c.self.view_is c.self.invariant.allowed in
    let fits = subst (λ e. Fits now.journal c.requires.fits.0 e) c.in-Publish.is c.requires.fits.1 in
    not_gone now.fixed.files now.journal now.fixed.collects c.requires.fits.0 _ c.in-Publish.name _ allowed.proper.legal allowed.kind fits

pub returns-in-Ask-clause-few : goal.returns-in-Ask-clause-few
returns-in-Ask-clause-few g c =
    let now = c.args.self.now in
    subst (λ r. length (freed_contexts r) ≤ made_count now.journal + 1) (sym c.reply_to_ask.ensures)
    (ask-each (λ r. length (freed_contexts r) ≤ made_count now.journal + 1) now.fixed.files now.journal _ _ _ (omega arith) (λ i. omega arith) (λ a. omega arith))
