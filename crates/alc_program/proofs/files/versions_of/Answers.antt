use Rattle.std.proofs.Common.{◌∙◌, arith}
use Rattle.alc_program.proofs.FilesLemmas.{versions-next}
use Rattle.alc_program.proofs.files.versions_of.Goals as goal

pub loop-index-preserved : goal.loop-index-preserved
loop-index-preserved c =
    let below = c.loop-index-test.true in
    c.in_ok-push.ensures.items
    ∙ versions-next c.args.images.now c.loop-index.index c.loop-index.versions.items c.version_of.result (omega (arith, c.requires.count))
    c.loop-index.invariant c.version_of.ensures
