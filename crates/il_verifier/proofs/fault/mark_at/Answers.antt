use Rattle.std.proofs.Common.{◌≡◌, ◌<◌, true, false, Some, refl, length, length-set, arith}
use Rattle.il_verifier.specs.Search.{depth_at, differs}
use Rattle.il_verifier.proofs.Differences.{marks-kept, marks-set}
use Rattle.il_verifier.proofs.fault.mark_at.Goals as goal

pub returns-then-not-differs : goal.returns-then-not-differs
returns-then-not-differs c =
    let same : differs (Some c.args.depth) (depth_at c.args.depths.now c.args.to) ≡ false = cc in
    record { kept = refl; marked = marks-kept c.args.depths.now c.args.depth c.args.to c.args.marks.now.items same }

pub returns : goal.returns
returns c =
    let other : differs (Some c.args.depth) (depth_at c.args.depths.now c.args.to) ≡ true = cc in
    let within : c.args.to < length c.args.marks.now.items = omega (arith, c.requires.within, c.requires.sized) in
    record {
      kept = length-set c.args.marks.now.items c.args.to true;
      marked = marks-set c.args.depths.now c.args.depth c.args.to c.args.marks.now.items within other;
    }
