use Rattle.std.proofs.Common.{◌≡◌, length, take}
use Rattle.std.specs.List.{AllZip}
use Rattle.il_verifier.specs.Effects.{HasPlace}
use Rattle.il_verifier.specs.Faults.{OnType}
use Rattle.il_verifier.proofs.rules.each_has_place.Given as goal

-- the operands so far fit
abbrev pub invariant-loop-i : goal.invariant-loop-i
invariant-loop-i g l = record {
  sized : length l.wants ≡ length l.held;
  fits : AllZip (OnType (HasPlace (g.P.Parents.family l.parents))) (take l.i l.wants) (take l.i l.held);
}
