use Rattle.std.proofs.Common.{◌≡◌, drop, sym, ap, ◌∙◌, arith}
use Rattle.std.proofs.lemmas.Grind.{common_steps}
use Rattle.std.specs.Str.{is_utf8}
use Rattle.cli_words.specs.Span.{cut}
use Rattle.assembly_image.proofs.ZeroWithin.{near_string, far_string}
use Rattle.assembly_image.proofs.strings.is_string.Goals as goal

pub returns-in_default-zero_within : goal.returns-in_default-zero_within
returns-in_default-zero_within c =
    let front : c.in-Some.rest.now ≡ drop c.args.index (cut c.args.bytes.now c.args.heap) = grind (arith, common_steps) in
    far_string c.args.bytes.now c.args.heap c.args.index _ front (sym c.zero_within.ensures.zero ∙ c.in_default-zero_within.is)

pub returns : goal.returns
returns c =
    let front : c.in-Some.rest.now ≡ drop c.args.index (cut c.args.bytes.now c.args.heap) = grind (arith, common_steps) in
    c.is_utf8.ensures ∙ ap is_utf8 c.cut-2.ensures
    ∙ near_string c.args.bytes.now c.args.heap c.args.index _ front c.in-Some-zero_within.len (sym c.zero_within.ensures.zero ∙ c.in-Some-zero_within.is)
