use Rattle.std.proofs.Common.{◌≡◌, ◌-◌, ◌≤◌, length, not}
use Rattle.std.specs.List.{find}
use Rattle.meta_heaps.specs.Streams.{headers, headers_from, fits}
use Rattle.meta_heaps.proofs.header.first_outside.Given as goal

-- what is sought is not among the headers behind
abbrev pub invariant-loop : goal.invariant-loop
invariant-loop l =
    (l.at ≤ length l.metadata)
    × (find (λ at. not (fits l.metadata at)) (headers l.metadata)
    ≡ find (λ at. not (fits l.metadata at)) (headers_from l.metadata l.at (l.end - l.counter)))
