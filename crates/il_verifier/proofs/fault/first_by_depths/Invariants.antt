use Rattle.il_verifier.specs.Faults.{FailsDepths, depth_rules}
use Rattle.il_verifier.specs.Search.{AreClearBelow}
use Rattle.il_verifier.proofs.fault.first_by_depths.Given as goal

-- none fails at the places so far
abbrev pub invariant-loop-at : goal.invariant-loop-at
invariant-loop-at l = AreClearBelow (FailsDepths l.max l.lines) depth_rules l.at
