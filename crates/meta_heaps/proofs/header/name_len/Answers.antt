use Rattle.std.proofs.Common.{◌≡◌, ◌+◌, drop, take, arith, ap, ◌∙◌}
use Rattle.std.proofs.lemmas.Grind.{common_steps}
use Rattle.std.proofs.lemmas.List.{take_min}
use Rattle.cli_words.specs.Span.{zero_after}
use Rattle.meta_heaps.proofs.header.name_len.Goals as goal

pub returns-clause-found : goal.returns-clause-found
returns-clause-found c =
    let name = c.in_ok-name.name.now in
    let front : name ≡ drop (c.args.at + 8) c.args.metadata.now = grind (arith, common_steps) in
    let short = take_min 32 name in
    c.zero_after.ensures ∙ ap zero_after (ap (λ n. take n name) c.min.ensures ∙ short ∙ ap (take 32) front)
