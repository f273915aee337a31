use Rattle.std.proofs.Common.{◌∙◌, ap, length}
use Rattle.std.specs.Option.{option_map_or}
use Rattle.probing.specs.Rules.{answers}
use Rattle.host_events.specs.declared.reply.Reply.TheVariants as replies
use Rattle.host_events.specs.Rules.{given_by}
use Rattle.host_core.specs.Core.{Core}
use Rattle.host_core.specs.Tables.{rules_of}
use Rattle.host_core.proofs.Asked.{last_counted}
use Rattle.host_core.proofs.host.HostCore.last_given.Goals as goal

pub returns : goal.returns
returns g c =
    let journal = c.args.self.now.journal in
    let n = c.args.name.now in
    let all = answers c.args.place n (rules_of journal) in
    c.nth_given.ensures
    ∙ ap (λ o. option_map_or (given_by journal n) o replies.Nothing) (last_counted all c.count-count.result
    (c.count-count.ensures ∙ ap (λ l. length (answers c.args.place n l)) c.self.invariant.represents.rules
    ∙ ap (λ (v : Core). length (answers c.args.place n (rules_of v.journal))) c.self.view_is))
