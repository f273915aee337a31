use Rattle.std.proofs.Common.{ℕ, ◌≡◌, List, Bool, false, true, length, get_or, refl, ap, ◌∙◌, arith, length-set}
use Rattle.std.specs.Prelude.{replicate}
use Rattle.std.proofs.lemmas.List.{take_all, length-replicate}
use Rattle.il_verifier.specs.Lines.{is_begun}
use Rattle.il_verifier.proofs.Marks.{mark-more, no-marks}
use Rattle.il_verifier.proofs.begins.marks_at.Goals as goal

pub loop-place-init : goal.loop-place-init
loop-place-init c =
    let all : c.in_ok-marks.marks.items ≡ replicate c.args.len false =
    c.in_ok-marks.ensures.items_if_clones_equal (λ y same. same) in
    record {
      sized = ap length all ∙ length-replicate c.args.len false;
      marked = λ at. ap (λ (marks : List Bool). get_or marks at false) all ∙ no-marks c.args.len at;
    }

pub loop-place-preserved : goal.loop-place-preserved
loop-place-preserved c =
    let marks = c.loop-place.marks.items in
    let places = c.args.places.now in
    let i = c.loop-place.place-index in
    record {
      sized = length-set marks (get_or places i 0) true ∙ c.loop-place.invariant.sized;
      marked = mark-more marks places i (get_or places i 0) c.loop-place-test.true refl
          (omega (arith, c.requires i c.loop-place-test.true, c.loop-place.invariant.sized))
          c.loop-place.invariant.marked;
    }

pub returns : goal.returns
returns c = λ at.
    c.loop-place.invariant.marked at
    ∙ ap (λ (places : List ℕ). is_begun places at)
    (take_all c.loop-place.place-index c.args.places.now c.loop-place-test.false)
