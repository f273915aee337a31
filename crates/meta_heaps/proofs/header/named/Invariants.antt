use Rattle.std.proofs.Common.{◌≡◌, ◌-◌, ◌≤◌, length, not, None}
use Rattle.std.specs.List.{find}
use Rattle.meta_heaps.specs.Streams.{headers, headers_from, fits, is_named}
use Rattle.meta_heaps.proofs.header.named.Given as goal

-- what is sought is not among the headers behind, and those ahead lie in the metadata
abbrev pub invariant-loop : goal.invariant-loop
invariant-loop l =
    (l.at ≤ length l.metadata)
    × (find (is_named l.metadata l.name) (headers l.metadata)
    ≡ find (is_named l.metadata l.name) (headers_from l.metadata l.at (l.end - l.counter)))
    × (find (λ at. not (fits l.metadata at)) (headers_from l.metadata l.at (l.end - l.counter))
    ≡ None)
