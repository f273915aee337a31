use Rattle.std.proofs.Common.{◌≡◌, None, take}
use Rattle.std.specs.List.{filter_map, last_or}
use Rattle.load_context.specs.Contexts.{number_under}
use Rattle.load_context.proofs.scan.last_named.Given as goal

-- the last one of the contexts so far
abbrev pub invariant-loop-context : goal.invariant-loop-context
invariant-loop-context l =
    l.last ≡ last_or None (filter_map (number_under l.name) (take l.context-index l.contexts))
