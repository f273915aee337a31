use Rattle.std.proofs.Common.{ap, sym, ◌∙◌, length}
use Rattle.std.specs.List.{count_by}
use Rattle.probing.specs.Rules.{answers, is_for}
use Rattle.probing.proofs.Counts.{length-answers}
use Rattle.probing.proofs.rules.Rules.count.Goals as goal

pub returns : goal.returns
returns c =
    let place = c.args.place in
    let name = c.args.name.now in
    c.count_of.ensures ∙ ap (count_by (is_for place name)) c.as_slice.ensures.value
    ∙ sym (length-answers (is_for place name) (λ rule. rule.answer) c.self.inside.rules.items)
    ∙ ap (λ v. length (answers place name v.list)) c.self.view_is
