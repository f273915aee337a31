use Rattle.std.proofs.Common.{◌-◌, ◌≤◌, length}
use Rattle.il_reader.proofs.Chains.{Behind}
use Rattle.il_reader.proofs.section.read_clauses.Given as goal

abbrev pub invariant-loop-due : goal.invariant-loop-due
invariant-loop-due l = record {
  within : l.end ≤ length l.bytes;
  behind : Behind l.bytes l.fn.due l.fn.end l.due l.end l.clauses.items;
}

abbrev pub decreases-loop-due : goal.decreases-loop-due
decreases-loop-due l = length l.bytes - l.end
