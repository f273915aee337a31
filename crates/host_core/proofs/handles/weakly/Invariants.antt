use Rattle.std.proofs.Common.{◌≡◌, [], take}
use Rattle.std.specs.List.{filter_map}
use Rattle.host_events.specs.Handles.{weak_of}
use Rattle.host_core.proofs.handles.weakly.Given as goal

-- no entry so far made the handle
abbrev pub invariant-loop-entry : goal.invariant-loop-entry
invariant-loop-entry l =
    filter_map (λ entry. weak_of l.handle entry.event entry.reply) (take l.entry-index l.entries) ≡ []
