use Rattle.std.proofs.Common.{take, ap, ◌∙◌}
use Rattle.std.proofs.lemmas.List.{take_min}
use Rattle.cli_words.specs.Span.{zero_after}
use Rattle.assembly_image.proofs.strings.zero_within.Goals as goal

pub returns-clause-zero : goal.returns-clause-zero
returns-clause-zero c =
    let bytes = c.args.bytes.now in
    c.zero_after.ensures.zero ∙ ap zero_after (ap (λ n. take n bytes) c.min.ensures ∙ take_min 1024 bytes)
