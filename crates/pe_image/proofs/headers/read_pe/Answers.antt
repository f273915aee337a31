use Rattle.std.proofs.Common.{◌≡◌, ◌∙◌, sym, arith, Err}
use Rattle.std.proofs.lemmas.Grind.{common_steps}
use Rattle.pe_image.proofs.Stages.{fails_last, reads_last, fails_cli, after_cli, fails_optional, after_optional, fails_headers, after_headers}
use Rattle.pe_image.proofs.headers.read_pe.Goals as goal

pub returns-in_err-signature : goal.returns-in_err-signature
returns-in_err-signature c =
    let handed : c.from_residual.result ≡ Err c.in_err-signature.field-0.0 = grind (arith, common_steps) in
    handed ∙ fails_headers c.args.bytes.now _ (sym c.in_err-signature.was ∙ c.signature_place.ensures.answer)

pub returns-in_err-directory : goal.returns-in_err-directory
returns-in_err-directory c =
    let handed : c.from_residual-in_err-directory.result ≡ Err c.in_err-directory.field-0.0 = grind (arith, common_steps) in
    after_headers c.args.bytes.now c.in_ok-signature.signature _ (sym c.in_ok-signature.was ∙ c.signature_place.ensures.answer)
    (handed ∙ fails_optional c.args.bytes.now c.in_ok-signature.signature _ (sym c.in_err-directory.was ∙ c.directory_place.ensures.answer))

pub returns-in_err-cli : goal.returns-in_err-cli
returns-in_err-cli c =
    let handed : c.from_residual-in_err-cli.result ≡ Err c.in_err-cli.field-0.0 = grind (arith, common_steps) in
    after_headers c.args.bytes.now c.in_ok-signature.signature _ (sym c.in_ok-signature.was ∙ c.signature_place.ensures.answer)
    (after_optional c.args.bytes.now c.in_ok-signature.signature c.of-sections.result.at c.of-sections.result.count c.in_ok-directory.directory _
    c.of-sections.ensures.at c.of-sections.ensures.count (sym c.in_ok-directory.was ∙ c.directory_place.ensures.answer)
    (handed ∙ fails_cli c.args.bytes.now _ _ _ _ (sym c.in_err-cli.was ∙ c.cli_place.ensures.answer)))

pub returns-in_err-root : goal.returns-in_err-root
returns-in_err-root c =
    let handed : c.from_residual-in_err-root.result ≡ Err c.in_err-root.field-0.0 = grind (arith, common_steps) in
    after_headers c.args.bytes.now c.in_ok-signature.signature _ (sym c.in_ok-signature.was ∙ c.signature_place.ensures.answer)
    (after_optional c.args.bytes.now c.in_ok-signature.signature c.of-sections.result.at c.of-sections.result.count c.in_ok-directory.directory _
    c.of-sections.ensures.at c.of-sections.ensures.count (sym c.in_ok-directory.was ∙ c.directory_place.ensures.answer)
    (after_cli c.args.bytes.now _ _ c.in_ok-directory.directory c.in_ok-cli.cli _ (sym c.in_ok-cli.was ∙ c.cli_place.ensures.answer)
    (handed ∙ fails_last c.args.bytes.now _ _ _ _ (sym c.in_err-root.was ∙ c.metadata.ensures))))

pub returns : goal.returns
returns c =
    after_headers c.args.bytes.now c.in_ok-signature.signature _ (sym c.in_ok-signature.was ∙ c.signature_place.ensures.answer)
    (after_optional c.args.bytes.now c.in_ok-signature.signature c.of-sections.result.at c.of-sections.result.count c.in_ok-directory.directory _
    c.of-sections.ensures.at c.of-sections.ensures.count (sym c.in_ok-directory.was ∙ c.directory_place.ensures.answer)
    (after_cli c.args.bytes.now _ _ c.in_ok-directory.directory c.in_ok-cli.cli _ (sym c.in_ok-cli.was ∙ c.cli_place.ensures.answer)
    (reads_last c.args.bytes.now _ _ _ c.in_ok-root.root (sym c.in_ok-root.was ∙ c.metadata.ensures))))
