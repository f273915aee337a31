use Rattle.std.proofs.Common.{◌∙◌}
use Rattle.alc_program.specs.Images.{app_file}
use Rattle.alc_program.proofs.FilesLemmas.{filter_map-next}
use Rattle.alc_program.proofs.files.app_files.Goals as goal

pub loop-line-preserved : goal.loop-line-preserved
loop-line-preserved c =
    c.in_ok-push_if_some.ensures
    ∙ filter_map-next (app_file c.args.lines.now) c.args.app.now c.loop-line.line-index _ c.loop-line.files.items c.in_ok-app_file.field-0
    c.loop-line-test.true c.loop-line.invariant c.in_ok-app_file.ensures
