use Rattle.std.specs.List.{flat_map}
use Rattle.alc_program.proofs.UnbuiltLemmas.{line_next}
use Rattle.alc_program.proofs.unbuilt.least_of_thread.Goals as goal

pub loop-line-preserved : goal.loop-line-preserved
loop-line-preserved c numbers first =
    line_next (flat_map (λ own. own) c.args.threads.now) c.args.lines.now c.loop-line.line-index c.line-item.result c.is_run.result numbers
    c.loop-line.least c.lesser_unless-least.result c.loop-line-test.true c.line-item.is c.is_run.ensures
    (c.loop-line.invariant numbers first) c.lesser_unless-least.ensures
