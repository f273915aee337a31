use Rattle.std.proofs.Common.{ℕ, Option, refl, sym, subst, eq-eqb, true, ◌≡◌}
use Rattle.std.specs.Result.{OnOk}
use Rattle.il_verifier.specs.Depths.{is_place}
use Rattle.il_verifier.specs.Search.{AreNoted, AreListed}
use Rattle.il_verifier.proofs.Notes.{noted-none, listed-none}
use Rattle.il_verifier.proofs.depth.note_place.Goals as goal

pub note-requires : goal.note-requires
note-requires c = record {
  within = c.requires.within c.in-Some.to
      (subst (λ (p : Option ℕ). is_place c.in-Some.to p ≡ true) (sym c.in-Some.is) (eq-eqb c.in-Some.to c.in-Some.to refl));
  sized = c.requires.sized;
}

pub returns-in-Some : goal.returns-in-Some
returns-in-Some c = record {
  kept = c.note.ensures.kept;
  noted = subst (λ (p : Option ℕ). OnOk c.note.result (AreNoted c.args.depths.now (λ to. is_place to p) c.args.from
      c.args.depth c.args.found.now.items c.note.new.found.items)) (sym c.in-Some.is) c.note.ensures.noted;
  listed = subst (λ (p : Option ℕ). OnOk c.note.result (AreListed c.args.depths.now (λ to. is_place to p)
      c.args.found.now.items c.args.next.now.items c.note.new.next.items)) (sym c.in-Some.is) c.note.ensures.listed;
}

pub returns-in-None : goal.returns-in-None
returns-in-None c = record {
  kept = refl;
  noted = subst (λ (p : Option ℕ). AreNoted c.args.depths.now (λ to. is_place to p) c.args.from c.args.depth
      c.args.found.now.items c.args.found.now.items) (sym c.in-None.is)
      (noted-none c.args.depths.now c.args.from c.args.depth c.args.found.now.items);
  listed = subst (λ (p : Option ℕ). AreListed c.args.depths.now (λ to. is_place to p) c.args.found.now.items
      c.args.next.now.items c.args.next.now.items) (sym c.in-None.is)
      (listed-none c.args.depths.now c.args.found.now.items c.args.next.now.items);
}
