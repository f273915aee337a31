use Rattle.std.proofs.Common.{◌≡◌, ◌&&◌, Some, length, take}
use Rattle.il_verifier.specs.Search.{depth_at, differs, is_among}
use Rattle.il_verifier.proofs.Differences.{AreMore}
use Rattle.il_verifier.proofs.fault.mark_line.Given as goal

-- what is marked by the places so far
abbrev pub invariant-loop-place : goal.invariant-loop-place
invariant-loop-place l = record {
  sized : length l.marks.items ≡ length l.fn.marks.items;
  marked : AreMore l.fn.marks.items l.marks.items
      (λ at. is_among (take l.place-index l.goes) at && differs (Some l.depth) (depth_at l.depths at));
}
