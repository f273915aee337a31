use Rattle.std.proofs.Common.{◌≡◌, arith, ap, ◌∙◌, drop}
use Rattle.std.proofs.lemmas.Grind.{common_steps}
use Rattle.cli_words.specs.Compressed.{number_at_front}
use Rattle.cli_words.proofs.Spelled.{told_at}
use Rattle.cli_words.proofs.compressed.read_compressed.Goals as goal

pub returns-clause-spelled : goal.returns-clause-spelled
returns-clause-spelled c =
    let front : c.in_ok-get.field-0.now ≡ drop c.args.at c.args.bytes.now = grind (arith, common_steps) in
    told_at c.args.bytes.now c.args.at c.first_compressed.result (λ k. omega (arith, c.type_inv.bytes k))
    (c.first_compressed.ensures.value ∙ ap number_at_front front)
