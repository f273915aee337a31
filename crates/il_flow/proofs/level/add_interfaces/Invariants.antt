use Rattle.std.proofs.Common.{◌⊎◌, ◌+◌, ◌-◌, ◌<◌, ◌≤◌, length, take, Contains}
use Rattle.il_flow.specs.Assigning.{AreJust}
use Rattle.il_flow.proofs.level.add_interfaces.Given as goal

-- the interfaces before the n-th are there
abbrev pub invariant-loop-interface : goal.invariant-loop-interface
invariant-loop-interface g l = record {
  counted : 0 < l.n;
  few : l.n ≤ length ((g.P.Parents.family l.parents).interfaces l.key) + 1;
  just : AreJust l.keys.items (λ other. Contains l.fn.keys.items other
      ⊎ Contains (take (l.n - 1) ((g.P.Parents.family l.parents).interfaces l.key)) other);
}

abbrev pub decreases-loop-interface : goal.decreases-loop-interface
decreases-loop-interface g l = length ((g.P.Parents.family l.parents).interfaces l.key) + 1 - l.n
