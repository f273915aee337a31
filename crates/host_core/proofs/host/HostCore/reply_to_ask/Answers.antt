use Rattle.std.proofs.Common.{◌≡◌, ◌∙◌, ap, sym, subst, map, None}
use Rattle.std.specs.List.{last_or}
use Rattle.std.specs.Option.{option_map_or}
use Rattle.probing.specs.Rules.{answers}
use Rattle.probing.specs.declared.rules.RulePlace.TheVariants as places
use Rattle.host_events.specs.declared.event.AskStep.TheVariants as steps
use Rattle.host_events.specs.declared.reply.Reply.TheVariants as replies
use Rattle.host_events.specs.Rules.{first_candidate, given_by, reply_to_ask, rules_for}
use Rattle.host_core.specs.Core.{Core}
use Rattle.host_core.specs.Tables.{rules_of}
use Rattle.host_core.proofs.Ruled.{rules-load, rules-resolving, rules-resolve}
use Rattle.host_core.proofs.host.HostCore.reply_to_ask.Goals as goal

pub returns-in-Load : goal.returns-in-Load
returns-in-Load g c =
    let now = c.args.self.now in
    c.last_given.ensures
    ∙ ap (λ l. option_map_or (given_by now.journal c.args.name.now) (last_or None l) replies.Nothing) (rules-load now.journal c.args.context c.args.name.now)
    ∙ ap (λ s. reply_to_ask now.fixed.files now.journal s c.args.context c.args.name.now) (sym c.in-Load.is)

pub returns-in-Resolving : goal.returns-in-Resolving
returns-in-Resolving g c =
    let now = c.args.self.now in
    c.first_given.ensures
    ∙ ap (λ l. first_candidate (map (given_by now.journal c.args.name.now) l)) (rules-resolving now.journal c.args.context c.args.name.now)
    ∙ ap (λ s. reply_to_ask now.fixed.files now.journal s c.args.context c.args.name.now) (sym c.in-Resolving.is)

pub returns-in-Resolve : goal.returns-in-Resolve
returns-in-Resolve g c =
    let now = c.args.self.now in
    let n = c.args.name.now in
    let same = subst (λ (v : Core). answers places.Resolve n (rules_of v.journal) ≡ rules_for v.journal steps.Resolve c.args.context n) c.self.view_is
    (rules-resolve c.self.inside.app c.self.inside.journal.items c.args.context n c.self.invariant.allowed.proper.legal) in
    c.first_given-in-Resolve.ensures
    ∙ ap (λ l. first_candidate (map (given_by now.journal n) l)) same
    ∙ ap (λ s. reply_to_ask now.fixed.files now.journal s c.args.context n) (sym c.in-Resolve.is)
