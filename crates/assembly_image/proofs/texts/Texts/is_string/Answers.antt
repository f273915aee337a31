use Rattle.std.proofs.Common.{ap, ◌∙◌, false, get_or, List, Bool}
use Rattle.cli_words.specs.Span.{cut}
use Rattle.assembly_image.specs.Texts.{AreStartsFrom}
use Rattle.assembly_image.proofs.TextStarts.{string_told}
use Rattle.assembly_image.proofs.texts.Texts.is_string.Goals as goal

pub returns-in-Some : goal.returns-in-Some
returns-in-Some c =
    let found : AreStartsFrom (cut c.args.bytes.now c.args.heap) c.in-Some.starts.items 0 =
    rw c.in-Some.is at c.requires.texts in
    c.flag_at.ensures
    ∙ ap (λ (flags : List Bool). get_or flags c.args.index false) c.as_slice.ensures.value
    ∙ string_told c.args.bytes.now c.args.heap c.args.index c.in-Some.starts.items found
