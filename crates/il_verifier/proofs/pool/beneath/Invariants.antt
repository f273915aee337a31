use Rattle.std.proofs.Common.{◌≡◌, ◌<◌, ◌-◌, length, take}
use Rattle.il_verifier.specs.Pools.{stack_by}
use Rattle.il_verifier.proofs.pool.beneath.Given as goal

-- the stack without as many values as there were turns
abbrev pub invariant-loop : goal.invariant-loop
invariant-loop l = record {
  within : l.low < length l.pool;
  beneath : stack_by l.pool l.low ≡ take (length (stack_by l.pool l.id) - l.counter) (stack_by l.pool l.id);
}
