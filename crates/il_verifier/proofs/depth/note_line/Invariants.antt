use Rattle.std.proofs.Common.{◌≡◌, length, take}
use Rattle.il_verifier.specs.Search.{is_among, AreNoted, AreListed}
use Rattle.il_verifier.proofs.depth.note_line.Given as goal

-- what is noted and listed by the places so far
abbrev pub invariant-loop-place : goal.invariant-loop-place
invariant-loop-place l = record {
  sized : length l.found.items ≡ length l.fn.found.items;
  noted : AreNoted l.depths (is_among (take l.place-index l.goes)) l.from l.depth l.fn.found.items l.found.items;
  listed : AreListed l.depths (is_among (take l.place-index l.goes)) l.fn.found.items l.fn.next.items l.next.items;
}
