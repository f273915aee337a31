use Rattle.std.proofs.Common.{◌≡◌, ◌≤◌, map, length, take, None}
use Rattle.std.specs.List.{find}
use Rattle.probing.specs.Rules.{answers}
use Rattle.host_events.specs.Rules.{given_by, is_candidate}
use Rattle.host_core.specs.Tables.{rules_of}
use Rattle.host_core.proofs.host.HostCore.first_given.Given as goal

-- no rule so far gave a candidate
abbrev pub invariant-loop-before : goal.invariant-loop-before
invariant-loop-before g l =
    (find is_candidate (map (given_by l.self.journal l.name) (take l.before (answers l.place l.name (rules_of l.self.journal)))) ≡ None)
    × (l.before-end ≡ length (answers l.place l.name (rules_of l.self.journal)))
    × (l.before ≤ l.before-end)
