use Rattle.std.proofs.Common.{◌≡◌, ◌≤◌, ◌++◌, List, ℕ, length}
use Rattle.plug_io.specs.Sink.{HasAppended}
use Rattle.host_report.proofs.line.write_whole.Given as goal

-- what was taken so far, and the rest
abbrev pub invariant-loop-rest : goal.invariant-loop-rest
invariant-loop-rest g l = record {
  sent : (taken : List ℕ) × (l.piece ≡ taken ++ l.rest) × HasAppended (g.S.Sink.written l.initial.out) (g.S.Sink.written l.out) taken;
  counted : g.S.Sink.faults l.initial.out ≤ g.S.Sink.faults l.out;
}

abbrev pub decreases-loop-rest : goal.decreases-loop-rest
decreases-loop-rest g l = length l.rest
