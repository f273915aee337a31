use Rattle.load_context.proofs.ScanLemmas.{last_more}
use Rattle.load_context.specs.Contexts.{number_under}
use Rattle.load_context.proofs.scan.last_named.Goals as goal

pub loop-context-preserved : goal.loop-context-preserved
loop-context-preserved c =
    last_more (number_under c.args.name.now) c.args.contexts.now c.loop-context.context-index c.context-item.result
    c.loop-context.last c.number_or-last.result c.loop-context-test.true c.context-item.is c.loop-context.invariant c.number_or-last.ensures
