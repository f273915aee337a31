use Rattle.std.proofs.Common.{◌≡◌, ◌∷◌, [], ℕ, Bool, true, false, List, ap, sym, ◌∙◌, arith}
use Rattle.std.specs.List.{slice_get}
use Rattle.host_threads.specs.declared.fakes.At.{At}
use Rattle.host_threads.specs.declared.fakes.At.TheVariants.{Fresh}
use Rattle.host_threads.proofs.CountedLemmas.{CanDrive-three}
use Rattle.host_threads.proofs.tests.run.Goals as goal

pub run_by_seed-requires-clause-drives : goal.run_by_seed-requires-clause-drives
run_by_seed-requires-clause-drives c = λ i flow at.
    let share = c.in_ok-new-4.field-0.0 in
    let nine : share ≡ 9 = ap (λ x. x.0) c.in_ok-new-4.ensures in
    let f : c.in_ok-new.field-0 ≡ (c.args.first, false, [], Fresh) = c.in_ok-new.ensures in
    let g : c.in_ok-new-2.field-0 ≡ (c.args.second, false, [], Fresh) = c.in_ok-new-2.ensures in
    let h : c.in_ok-new-3.field-0 ≡ (c.args.third, true, [], Fresh) = c.in_ok-new-3.ensures in
    let all = c.in_ok-flows.ensures.items ∙ ap (λ (x : ℕ × Bool × List ℕ × At). x ∷ c.in_ok-new-2.field-0 ∷ c.in_ok-new-3.field-0 ∷ []) f
    ∙ ap (λ (x : ℕ × Bool × List ℕ × At). (c.args.first, false, [], Fresh) ∷ x ∷ c.in_ok-new-3.field-0 ∷ []) g
    ∙ ap (λ (x : ℕ × Bool × List ℕ × At). (c.args.first, false, [], Fresh) ∷ (c.args.second, false, [], Fresh) ∷ x ∷ []) h in
    CanDrive-three _ share c.args.first c.args.second c.args.third Fresh (omega arith) (omega arith) (omega arith) i flow (ap (λ (fs : List (ℕ × Bool × List ℕ × At)). slice_get fs i) (sym all) ∙ at)
