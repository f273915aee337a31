use Rattle.std.proofs.Common.{ℕ, ◌<◌, Option, List, length, get_or, option_map, refl, sym, subst, ◌∙◌, arith, Contains, length-set}
use Rattle.std.proofs.lemmas.List.{take_all}
use Rattle.il_verifier.specs.Search.{found_at}
use Rattle.il_verifier.proofs.Bests.{none-within, settled-more, others-more}
use Rattle.il_verifier.proofs.depth.settle.Goals as goal

pub loop-to-init : goal.loop-to-init
loop-to-init c = record {
  sized = refl;
  settled = λ to h. absurd (none-within to h);
  others = λ to h. refl;
}

pub loop-to-preserved : goal.loop-to-preserved
loop-to-preserved c =
    let depths = c.loop-to.depths.items in
    let next = c.args.next.now in
    let i = c.loop-to.to-index in
    let f : ℕ → Option ℕ = λ to. option_map (λ best. best.1) (found_at c.args.found.now to) in
    let within : get_or next i 0 < length depths =
    omega (arith, c.requires.within i 0 c.loop-to-test.true, c.loop-to.invariant.sized) in
    record {
      sized = length-set depths (get_or next i 0) c.depth_found.result ∙ c.loop-to.invariant.sized;
      settled = settled-more depths next i c.depth_found.result f c.loop-to-test.true within c.depth_found.ensures
          c.loop-to.invariant.settled;
      others = others-more depths c.args.depths.now.items next i c.depth_found.result c.loop-to-test.true
          c.loop-to.invariant.others;
    }

pub returns : goal.returns
returns c =
    let all = take_all c.loop-to.to-index c.args.next.now c.loop-to-test.false in
    record {
      kept = c.loop-to.invariant.sized;
      settled = λ to h. c.loop-to.invariant.settled to (subst (λ (xs : List ℕ). Contains xs to) (sym all) h);
      others = λ to out. c.loop-to.invariant.others to (λ h. out (subst (λ (xs : List ℕ). Contains xs to) all h));
    }
