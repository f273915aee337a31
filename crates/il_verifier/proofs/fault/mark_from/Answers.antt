use Rattle.std.proofs.Common.{◌≡◌, ℕ, Option, Some, None, List, IsTrue, cond, refl, sym, ap, subst, ◌∙◌, arith}
use Rattle.il_verifier.specs.declared.line.Line.{Line}
use Rattle.il_verifier.specs.Lines.{line_at}
use Rattle.il_verifier.specs.Depths.{goes_to}
use Rattle.il_verifier.specs.Search.{depth_at, handed, is_among, brings_by}
use Rattle.il_verifier.proofs.Surveys.{no-line, no-depth, brings-none, brings-after}
use Rattle.il_verifier.proofs.Differences.{nothing-differs, after-differs}
use Rattle.il_verifier.proofs.fault.mark_from.Goals as goal

pub returns-in_default : goal.returns-in_default
returns-in_default c =
    let lines = c.args.lines.now in
    let depths = c.args.depths.now in
    let from = c.args.from in
    let b : ℕ → Option ℕ = λ to. brings_by c.args.max lines depths to from in
    let none : line_at lines from ≡ None = sym c.in_default.ensures in
    let nothing : (to : ℕ) → b to ≡ None = λ to. no-line c.args.max lines depths from to none in
    record {
      kept = refl;
      marked = nothing-differs c.args.marks.now.items b (depth_at depths) nothing;
    }

pub returns-in_default-depths : goal.returns-in_default-depths
returns-in_default-depths c =
    let lines = c.args.lines.now in
    let depths = c.args.depths.now in
    let from = c.args.from in
    let b : ℕ → Option ℕ = λ to. brings_by c.args.max lines depths to from in
    let nothing : (to : ℕ) → b to ≡ None = λ to. no-depth c.args.max lines depths from to c.in_default-depths.is in
    record {
      kept = refl;
      marked = nothing-differs c.args.marks.now.items b (depth_at depths) nothing;
    }

pub returns-in_default-handed : goal.returns-in_default-handed
returns-in_default-handed c =
    let lines = c.args.lines.now in
    let depths = c.args.depths.now in
    let from = c.args.from in
    let b : ℕ → Option ℕ = λ to. brings_by c.args.max lines depths to from in
    let line : Line = c.in-Some.line.now in
    let is : line_at lines from ≡ Some line = sym c.in-Some.ensures in
    let none : handed c.args.max line c.in-Some-depths.depth ≡ None = sym c.in_default-handed.ensures in
    let nothing : (to : ℕ) → b to ≡ None =
    λ to. brings-none c.args.max lines depths from to c.in-Some-depths.depth line is c.in-Some-depths.is none in
    record {
      kept = refl;
      marked = nothing-differs c.args.marks.now.items b (depth_at depths) nothing;
    }

pub mark_line-requires-clause-within : goal.mark_line-requires-clause-within
mark_line-requires-clause-within c to h =
    let line : Line = c.in-Some.line.now in
    let is : line_at c.args.lines.now c.args.from ≡ Some line = sym c.in-Some.ensures in
    let there : IsTrue (goes_to line to) =
    subst (λ (goes : List (Option ℕ)). IsTrue (is_among goes to)) c.items.ensures h in
    let less = c.requires.inside c.args.from to line is there in
    omega (arith, less, c.requires.long)

pub returns : goal.returns
returns c =
    let lines = c.args.lines.now in
    let depths = c.args.depths.now in
    let from = c.args.from in
    let after = c.in-Some-handed.after in
    let b : ℕ → Option ℕ = λ to. brings_by c.args.max lines depths to from in
    let line : Line = c.in-Some.line.now in
    let is : line_at lines from ≡ Some line = sym c.in-Some.ensures in
    let some : handed c.args.max line c.in-Some-depths.depth ≡ Some after = sym c.in-Some-handed.ensures in
    let goes : List (Option ℕ) = c.items.result.now in
    let brought : (to : ℕ) → b to ≡ cond (is_among goes to) (Some after) None =
    λ to. brings-after c.args.max lines depths from to c.in-Some-depths.depth after line is c.in-Some-depths.is some
    ∙ ap (λ (gs : List (Option ℕ)). cond (is_among gs to) (Some after) None) (sym c.items.ensures) in
    record {
      kept = c.mark_line.ensures.kept;
      marked = after-differs c.args.marks.now.items c.mark_line.new.marks.items (is_among goes) after b (depth_at depths)
          brought c.mark_line.ensures.marked;
    }
