use Rattle.std.proofs.Common.{ℕ, Option, List, get_or, refl, sym, subst, ◌∙◌}
use Rattle.std.proofs.lemmas.List.{take_all}
use Rattle.il_verifier.specs.Search.{found_at, brings_by, AreBest, AreFound}
use Rattle.il_verifier.proofs.Bests.{best-none, best-more, bettered-at, found-more, found-none}
use Rattle.il_verifier.proofs.depth.survey.Goals as goal

pub loop-from-init : goal.loop-from-init
loop-from-init c =
    let depths = c.args.depths.now in
    let found = c.args.found.now.items in
    record {
      sized = refl;
      best = λ to none. best-none (brings_by c.args.max c.args.lines.now depths to) (found_at found to) (c.requires.clear to none);
      listed = subst (λ (next : List ℕ). AreFound depths found next) (sym c.new-next.ensures.items)
          (found-none depths found c.requires.clear);
    }

pub survey_from-requires : goal.survey_from-requires
survey_from-requires c = record {
  inside = c.requires.inside;
  long = c.requires.long;
  low = c.requires.low;
  reached = c.requires.within c.loop-from.from-index 0 c.loop-from-test.true;
  sized = c.loop-from.invariant.sized ∙ c.requires.sized;
}

pub loop-from-preserved : goal.loop-from-preserved
loop-from-preserved c =
    let depths = c.args.depths.now in
    let newest = c.args.newest.now in
    let i = c.loop-from.from-index in
    let from : ℕ = get_or newest i 0 in
    let b : ℕ → Option ℕ = λ to. brings_by c.args.max c.args.lines.now depths to from in
    record {
      sized = c.survey_from.ensures.kept ∙ c.loop-from.invariant.sized;
      best = λ to none. best-more (brings_by c.args.max c.args.lines.now depths to) newest i
          (found_at c.loop-from.found.items to) (found_at c.survey_from.new.found.items to) c.loop-from-test.true
          (c.loop-from.invariant.best to none)
          (bettered-at depths from b c.loop-from.found.items c.survey_from.new.found.items
          c.in_ok-survey_from.ensures.bettered to none);
      listed = found-more depths from b c.loop-from.found.items c.survey_from.new.found.items c.loop-from.next.items
          c.survey_from.new.next.items c.loop-from.invariant.listed c.in_ok-survey_from.ensures.bettered
          c.in_ok-survey_from.ensures.listed;
    }

pub returns : goal.returns
returns c =
    let all = take_all c.loop-from.from-index c.args.newest.now c.loop-from-test.false in
    record {
      kept = c.loop-from.invariant.sized;
      best = subst (λ (newest : List ℕ). AreBest c.args.max c.args.lines.now c.args.depths.now newest c.loop-from.found.items)
          all c.loop-from.invariant.best;
      next = c.loop-from.invariant.listed;
    }
