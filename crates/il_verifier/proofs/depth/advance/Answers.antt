use Rattle.std.proofs.Common.{◌≡◌, ℕ, ◌<◌, Option, List, length, option_map, Contains, subst, sym, ap, ◌∙◌, refl}
use Rattle.std.specs.List.{All}
use Rattle.il_verifier.specs.Search.{found_at, AreBest, AreFound}
use Rattle.il_verifier.proofs.Notes.{Best}
use Rattle.il_verifier.proofs.Advances.{IsStep, step-low, step-clear, step-within, step-fewer, step-sought}
use Rattle.il_verifier.proofs.depth.advance.Goals as goal

pub settle-requires : goal.settle-requires
settle-requires c =
    let old : List (Option ℕ) = c.args.depths.now.items in
    let next : List ℕ = c.in_ok-next.next.items in
    let found : List Best = c.survey.new.found.items in
    let listed : AreFound old found next =
    subst (λ (ds : List (Option ℕ)). AreFound ds found next) c.deref.ensures.value c.in_ok-next.ensures.next in
    let sized : length found ≡ length old = c.survey.ensures.kept ∙ c.requires.sized in
    record {
      within = subst (λ (xs : List ℕ). All (λ to. to < length old) xs) (sym c.deref-3.ensures.value)
          (step-within c.args.max c.args.lines.now old old c.args.newest.now found next listed sized refl);
      sized = ap length c.deref-2.ensures.value ∙ sized;
    }

pub returns : goal.returns
returns c =
    let max = c.args.max in
    let lines = c.args.lines.now in
    let newest = c.args.newest.now in
    let old : List (Option ℕ) = c.args.depths.now.items in
    let new : List (Option ℕ) = c.settle.new.depths.items in
    let next : List ℕ = c.in_ok-next.next.items in
    let found : List Best = c.survey.new.found.items in
    let listed : AreFound old found next =
    subst (λ (ds : List (Option ℕ)). AreFound ds found next) c.deref.ensures.value c.in_ok-next.ensures.next in
    let sized : length found ≡ length old = c.survey.ensures.kept ∙ c.requires.sized in
    let step : IsStep max lines old new newest found next = record {
      best = subst (λ (ds : List (Option ℕ)). AreBest max lines ds newest found) c.deref.ensures.value c.in_ok-next.ensures.best;
      listed = listed;
      settled = λ to h.
          c.settle.ensures.settled to (subst (λ (xs : List ℕ). Contains xs to) (sym c.deref-3.ensures.value) h)
          ∙ ap (λ (fs : List Best). option_map (λ b. b.1) (found_at fs to)) c.deref-2.ensures.value;
      others = λ to out.
          c.settle.ensures.others to (λ h. out (subst (λ (xs : List ℕ). Contains xs to) c.deref-3.ensures.value h));
      kept = c.settle.ensures.kept;
      sized = sized;
      low = c.requires.low;
    } in
    record {
      kept = c.settle.ensures.kept;
      sized = sized ∙ sym c.settle.ensures.kept;
      low = step-low max lines old new newest found next step;
      clear = step-clear max lines old new newest found next step;
      within = step-within max lines old new newest found next listed sized c.settle.ensures.kept;
      fewer = step-fewer max lines old new newest found next step;
      sought = step-sought max lines old new newest found next step;
    }
