use Rattle.std.proofs.Common.{◌≡◌, length}
use Rattle.il_verifier.specs.Search.{AreMarked}
use Rattle.il_verifier.proofs.fault.other_depths.Given as goal

-- the marks of the places so far
abbrev pub invariant-loop-from : goal.invariant-loop-from
invariant-loop-from l = record {
  sized : length l.marks.items ≡ length l.depths;
  marked : AreMarked l.max l.lines l.depths l.from l.marks.items;
}
