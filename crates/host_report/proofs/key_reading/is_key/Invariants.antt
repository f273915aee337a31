use Rattle.std.proofs.Common.{◌≡◌, ◌≤◌, ◌+◌, ◌*◌, ◌^◌, length, map}
use Rattle.signatures.specs.Keys.{key_arity}
use Rattle.signatures.specs.Types.{are_types}
use Rattle.host_report.proofs.key_reading.is_key.Given as goal

abbrev pub invariant-loop-rest : goal.invariant-loop-rest
invariant-loop-rest l = record {
  same : are_types l.due (map key_arity l.rest) ≡ are_types 1 (map key_arity l.parts);
  few : l.due + length l.rest * 2 ^ 32 ≤ 1 + length l.parts * 2 ^ 32;
}

abbrev pub decreases-loop-rest : goal.decreases-loop-rest
decreases-loop-rest l = length l.rest
