use Rattle.std.proofs.Common.{◌≡◌, ℕ, ◌+◌, ◌≤◌, List, ◌++◌, length}
use Rattle.host_script.specs.Lines.{lines}
use Rattle.host_script.specs.State.{IsStateOf, kept_of}
use Rattle.host_script.proofs.script.read.Given as goal

abbrev pub invariant-loop-rest : goal.invariant-loop-rest
invariant-loop-rest l = record {
  above : List (List ℕ);
  state : IsStateOf (kept_of l.reading) above;
  all : lines l.fn.bytes ≡ above ++ lines l.rest;
  count : l.number ≡ length above;
  room : l.number + length l.rest ≤ length l.fn.bytes;
}

abbrev pub decreases-loop-rest : goal.decreases-loop-rest
decreases-loop-rest l = length l.rest
