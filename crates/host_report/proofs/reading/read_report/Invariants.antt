use Rattle.std.proofs.Common.{◌≤◌, ◌+◌, length}
use Rattle.host_report.specs.LineStages.{IsReached, stage}
use Rattle.host_report.proofs.reading.read_report.Given as goal

-- the lines so far lead to what was read, and as many lines as bytes may follow
abbrev pub invariant-loop-own : goal.invariant-loop-own
invariant-loop-own l = record {
  reached : IsReached l.bytes l.rest l.line (stage l.draft);
  fits : l.line + length l.rest ≤ length l.bytes + 1;
}

abbrev pub decreases-loop-own : goal.decreases-loop-own
decreases-loop-own l = length l.rest
