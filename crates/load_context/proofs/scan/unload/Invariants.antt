use Rattle.std.proofs.Common.{◌≡◌, ◌++◌, take, drop}
use Rattle.load_context.specs.Contexts.{unloaded}
use Rattle.load_context.proofs.scan.unload.Given as goal

-- the contexts so far as they are to be, and the others as they were
abbrev pub invariant-loop-context : goal.invariant-loop-context
invariant-loop-context l =
    l.contexts ≡ unloaded l.number (take l.context-index l.fn.contexts) ++ drop l.context-index l.fn.contexts
