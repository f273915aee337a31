use Rattle.std.proofs.Common.{◌≡◌, ◌⊎◌, ◌<◌, ◌≤◌, ◌++◌, [], length}
use mathlib.Core.List.{reverse}
use Rattle.il_verifier.specs.Pools.{stack_by}
use Rattle.il_verifier.proofs.pool.upper.Given as goal

-- the values so far, on what is left of the stack
abbrev pub invariant-loop : goal.invariant-loop
invariant-loop l = record {
  within : l.low < length l.pool;
  all : stack_by l.pool l.id ≡ stack_by l.pool l.low ++ reverse l.values.items;
  many : (length l.values.items ≡ l.counter) ⊎ ((length l.values.items ≤ l.counter) × (stack_by l.pool l.low ≡ []));
}
