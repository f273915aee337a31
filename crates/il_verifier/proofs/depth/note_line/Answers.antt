use Rattle.std.proofs.Common.{ℕ, Option, List, refl, subst, ◌∙◌}
use Rattle.std.proofs.lemmas.List.{take_all}
use Rattle.il_verifier.specs.Search.{is_among, AreNoted, AreListed}
use Rattle.il_verifier.proofs.Notes.{noted-none, listed-none, noted-more, listed-more, place-among}
use Rattle.il_verifier.proofs.depth.note_line.Goals as goal

pub loop-place-init : goal.loop-place-init
loop-place-init c = record {
  sized = refl;
  noted = noted-none c.args.depths.now c.args.from c.args.depth c.args.found.now.items;
  listed = listed-none c.args.depths.now c.args.found.now.items c.args.next.now.items;
}

pub note_place-requires : goal.note_place-requires
note_place-requires c = record {
  within = λ to h. c.requires.within to (place-among c.args.goes.now c.loop-place.place-index c.loop-place-test.true to h);
  sized = c.loop-place.invariant.sized ∙ c.requires.sized;
}

pub loop-place-preserved : goal.loop-place-preserved
loop-place-preserved c =
    let depths = c.args.depths.now in
    let goes = c.args.goes.now in
    let i = c.loop-place.place-index in
    record {
      sized = c.note_place.ensures.kept ∙ c.loop-place.invariant.sized;
      noted = noted-more depths goes i c.args.from c.args.depth c.args.found.now.items c.loop-place.found.items
          c.note_place.new.found.items c.loop-place-test.true c.loop-place.invariant.noted
          c.in_ok-note_place.ensures.noted;
      listed = listed-more depths goes i c.args.from c.args.depth c.args.found.now.items c.loop-place.found.items
          c.args.next.now.items c.loop-place.next.items c.note_place.new.next.items c.loop-place-test.true
          c.loop-place.invariant.noted c.loop-place.invariant.listed c.in_ok-note_place.ensures.listed;
    }

pub returns : goal.returns
returns c =
    let all = take_all c.loop-place.place-index c.args.goes.now c.loop-place-test.false in
    record {
      kept = c.loop-place.invariant.sized;
      noted = subst (λ (goes : List (Option ℕ)). AreNoted c.args.depths.now (is_among goes) c.args.from c.args.depth
          c.args.found.now.items c.loop-place.found.items) all c.loop-place.invariant.noted;
      listed = subst (λ (goes : List (Option ℕ)). AreListed c.args.depths.now (is_among goes) c.args.found.now.items
          c.args.next.now.items c.loop-place.next.items) all c.loop-place.invariant.listed;
    }
