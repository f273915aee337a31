use Rattle.std.proofs.Common.{◌≡◌, ◌+◌, ◌≤◌, ◌++◌, List, ℕ, length, take, reverse}
use Rattle.host_report.specs.KeySteps.{endings}
use Rattle.host_report.specs.Line.{Puts}
use Rattle.host_report.proofs.key_text.put_endings.Given as goal

-- what was put so far, and what is left
abbrev pub invariant-loop-i : goal.invariant-loop-i
invariant-loop-i g l = record {
  put : (done : List ℕ) × (endings 1 (reverse l.before) ≡ done ++ endings l.types (reverse (take l.i l.before)))
      × Puts g.S.Sink.written g.S.Sink.faults l.initial.line l.initial.out l.line l.out done;
  some : 1 ≤ l.types;
  few : l.types + l.i ≤ length l.before + 1;
}

abbrev pub decreases-loop-i : goal.decreases-loop-i
decreases-loop-i g l = l.i
