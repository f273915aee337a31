use Rattle.std.proofs.Common.{◌≡◌, ◌-◌, ◌≤◌, ◌++◌}
use Rattle.il_flow.specs.Merging.{chain, chain_of}
use Rattle.il_flow.proofs.classes.chain.Given as goal

-- the keys so far, and the chain of the last class, are the whole chain
abbrev pub invariant-loop : goal.invariant-loop
invariant-loop g l = record {
  few : l.counter ≤ 65;
  made : l.keys.items ++ chain (g.P.Parents.family l.parents) (65 - l.counter) l.last
      ≡ chain_of (g.P.Parents.family l.parents) l.fn.key;
}
