use Rattle.std.proofs.Common.{◌≡◌, ◌≤◌, ◌-◌, Some, length, take, drop}
use Rattle.host_report.specs.KeyReading.{drafted, scanned}
use Rattle.host_report.proofs.key_reading.parts_of.Given as goal

-- what stands from here on was read
abbrev pub invariant-loop-at : goal.invariant-loop-at
invariant-loop-at l = record {
  read : scanned (drop l.at l.text) ≡ Some (take (l.end - l.at) (drop l.at l.text), drafted l.draft);
  word : l.at ≤ l.end;
  within : l.end ≤ length l.text;
}

abbrev pub decreases-loop-at : goal.decreases-loop-at
decreases-loop-at l = l.at
