use Rattle.std.proofs.Common.{◌≡◌, ◌∙◌, rules}
use Rattle.std.proofs.lemmas.Result.{IfOk-weaker}
use Rattle.alc_program.proofs.ReadingLemmas.{reads_good}
use Rattle.alc_program.proofs.images.read_bytes.Goals as goal

pub returns-in-Ok-clause-reading : goal.returns-in-Ok-clause-reading
returns-in-Ok-clause-reading c =
    let same : c.in-Ok.image ≡ c.args.bytes.items = search rules in
    IfOk-weaker c.shared_image.result _ _
    (λ _ is. is ∙ reads_good c.args.bytes.items c.in-Ok.image same c.requires c.in-Ok.ensures.reads)
    c.shared_image.ensures.reading
