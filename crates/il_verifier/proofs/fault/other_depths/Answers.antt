use Rattle.std.proofs.Common.{◌≡◌, ℕ, Bool, false, List, length, get_or, ap, subst, ◌∙◌, arith}
use Rattle.std.specs.Prelude.{replicate}
use Rattle.std.proofs.lemmas.List.{length-replicate}
use Rattle.il_verifier.specs.Search.{depth_at, differs, brings_by, AreMarked}
use Rattle.il_verifier.proofs.Marks.{no-marks}
use Rattle.il_verifier.proofs.Differences.{any-more}
use Rattle.il_verifier.proofs.fault.other_depths.Goals as goal

pub loop-from-init : goal.loop-from-init
loop-from-init c =
    let n = length c.args.depths.now in
    let all : c.in_ok-marks.marks.items ≡ replicate n false =
    c.in_ok-marks.ensures.items_if_clones_equal (λ y same. same) in
    record {
      sized = ap length all ∙ length-replicate n false;
      marked = λ to. ap (λ (ms : List Bool). get_or ms to false) all ∙ no-marks n to;
    }

pub loop-from-preserved : goal.loop-from-preserved
loop-from-preserved c = record {
  sized = c.mark_from.ensures.kept ∙ c.loop-from.invariant.sized;
  marked = λ to. any-more
      (λ from. differs (brings_by c.args.max c.args.lines.now c.args.depths.now to from) (depth_at c.args.depths.now to))
      c.loop-from.from (get_or c.loop-from.marks.items to false) (get_or c.mark_from.new.marks.items to false)
      (c.loop-from.invariant.marked to) (c.mark_from.ensures.marked to);
}

pub returns : goal.returns
returns c =
    let all : c.loop-from.from ≡ length c.args.lines.now = omega arith in
    record {
      kept = c.loop-from.invariant.sized;
      marked = subst (λ (n : ℕ). AreMarked c.args.max c.args.lines.now c.args.depths.now n c.loop-from.marks.items) all
          c.loop-from.invariant.marked;
    }
