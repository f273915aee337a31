use Rattle.std.proofs.Common.{◌≡◌, length, take}
use Rattle.il_verifier.specs.Search.{AreBest, AreFound}
use Rattle.il_verifier.proofs.depth.survey.Given as goal

-- what is best of the newest places so far
abbrev pub invariant-loop-from : goal.invariant-loop-from
invariant-loop-from l = record {
  sized : length l.found.items ≡ length l.fn.found.items;
  best : AreBest l.max l.lines l.depths (take l.from-index l.newest) l.found.items;
  listed : AreFound l.depths l.found.items l.next.items;
}
