use Rattle.std.proofs.Common.{ap, sym, ◌∙◌, slice_set}
use Rattle.std.proofs.lemmas.List.Edits.{map_over_more}
use Rattle.load_context.specs.Contexts.{unloaded_if}
use Rattle.load_context.proofs.scan.unload.Goals as goal

pub loop-context-preserved : goal.loop-context-preserved
loop-context-preserved c =
    ap (slice_set c.loop-context.contexts c.loop-context.context-index) (c.unload_if.ensures ∙ ap (unloaded_if c.args.number) (sym c.context-item.is))
    ∙ map_over_more (unloaded_if c.args.number) c.args.contexts.now c.loop-context.contexts c.loop-context.context-index c.context-item.result
    c.loop-context-test.true c.loop-context.invariant c.context-item.is
