use Rattle.std.proofs.Common.{◌≡◌, map, take, is_none}
use Rattle.std.specs.List.{list_any}
use Rattle.il_verifier.specs.Pools.{pool_of}
use Rattle.il_verifier.proofs.pool.Pool.mixed.Given as goal

-- the marks of the stacks so far
abbrev pub invariant-loop-node : goal.invariant-loop-node
invariant-loop-node l = l.marks.items ≡ map (list_any is_none) (pool_of (take l.node-index l.node-items))
