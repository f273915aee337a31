use Rattle.std.proofs.Common.{ℕ, ◌&&◌, Option, Some, List, refl, subst, ◌∙◌}
use Rattle.std.proofs.lemmas.List.{take_all}
use Rattle.il_verifier.specs.Search.{depth_at, differs, is_among}
use Rattle.il_verifier.proofs.Notes.{place-among}
use Rattle.il_verifier.proofs.Differences.{AreMore, marks-none, marks-more}
use Rattle.il_verifier.proofs.fault.mark_line.Goals as goal

pub loop-place-init : goal.loop-place-init
loop-place-init c = record {
  sized = refl;
  marked = marks-none c.args.depths.now c.args.depth c.args.marks.now.items;
}

pub mark_place-requires : goal.mark_place-requires
mark_place-requires c = record {
  within = λ to h. c.requires.within to (place-among c.args.goes.now c.loop-place.place-index c.loop-place-test.true to h);
  sized = c.loop-place.invariant.sized ∙ c.requires.sized;
}

pub loop-place-preserved : goal.loop-place-preserved
loop-place-preserved c = record {
  sized = c.mark_place.ensures.kept ∙ c.loop-place.invariant.sized;
  marked = marks-more c.args.depths.now c.args.goes.now c.args.depth c.loop-place.place-index c.args.marks.now.items
      c.loop-place.marks.items c.mark_place.new.marks.items c.loop-place-test.true c.loop-place.invariant.marked
      c.mark_place.ensures.marked;
}

pub returns : goal.returns
returns c = record {
  kept = c.loop-place.invariant.sized;
  marked = subst (λ (goes : List (Option ℕ)). AreMore c.args.marks.now.items c.loop-place.marks.items
      (λ at. is_among goes at && differs (Some c.args.depth) (depth_at c.args.depths.now at)))
      (take_all c.loop-place.place-index c.args.goes.now c.loop-place-test.false) c.loop-place.invariant.marked;
}
