use Rattle.std.proofs.Common.{◌≡◌, ℕ, ◌&&◌, Option, Some, true, refl, sym, subst, eq-eqb}
use Rattle.il_verifier.specs.Depths.{is_place}
use Rattle.il_verifier.specs.Search.{depth_at, differs}
use Rattle.il_verifier.proofs.Differences.{AreMore, marks-none}
use Rattle.il_verifier.proofs.fault.mark_place.Goals as goal

pub mark_at-requires-clause-within : goal.mark_at-requires-clause-within
mark_at-requires-clause-within c =
    c.requires.within c.in-Some.to
    (subst (λ (p : Option ℕ). is_place c.in-Some.to p ≡ true) (sym c.in-Some.is) (eq-eqb c.in-Some.to c.in-Some.to refl))

pub returns-in-Some : goal.returns-in-Some
returns-in-Some c = record {
  kept = c.mark_at.ensures.kept;
  marked = subst (λ (p : Option ℕ). AreMore c.args.marks.now.items c.mark_at.new.marks.items
      (λ at. is_place at p && differs (Some c.args.depth) (depth_at c.args.depths.now at)))
      (sym c.in-Some.is) c.mark_at.ensures.marked;
}

pub returns-in-None : goal.returns-in-None
returns-in-None c = record {
  kept = refl;
  marked = subst (λ (p : Option ℕ). AreMore c.args.marks.now.items c.args.marks.now.items
      (λ at. is_place at p && differs (Some c.args.depth) (depth_at c.args.depths.now at)))
      (sym c.in-None.is) (marks-none c.args.depths.now c.args.depth c.args.marks.now.items);
}
