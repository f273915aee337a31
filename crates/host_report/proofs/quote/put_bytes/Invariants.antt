use Rattle.std.proofs.Common.{◌≡◌, ◌++◌, List, ℕ, length}
use Rattle.std.specs.List.{flat_map}
use Rattle.host_report.specs.Line.{Puts}
use Rattle.host_report.specs.Quote.{byte_text}
use Rattle.host_report.proofs.quote.put_bytes.Given as goal

-- what was put so far, and what is left
abbrev pub invariant-loop-rest : goal.invariant-loop-rest
invariant-loop-rest g l =
    (done : List ℕ) × (flat_map byte_text l.bytes ≡ done ++ flat_map byte_text l.rest)
    × Puts g.S.Sink.written g.S.Sink.faults l.initial.line l.initial.out l.line l.out done

abbrev pub decreases-loop-rest : goal.decreases-loop-rest
decreases-loop-rest g l = length l.rest
