use Rattle.std.proofs.Common.{◌≡◌, ◌++◌, List, ℕ, [], take, drop, reverse}
use Rattle.host_report.specs.KeySteps.{texts_from}
use Rattle.host_report.specs.Line.{Puts}
use Rattle.host_report.proofs.key_text.put_parts.Given as goal

-- what was put so far, and what is left
abbrev pub invariant-loop-i : goal.invariant-loop-i
invariant-loop-i g l =
    (done : List ℕ) × (texts_from [] l.parts ≡ done ++ texts_from (reverse (take l.i l.parts)) (drop l.i l.parts))
    × Puts g.S.Sink.written g.S.Sink.faults l.initial.line l.initial.out l.line l.out done
