use Rattle.std.proofs.Common.{◌↔◌, IsTrue, Bool, sym, subst}
use Rattle.il_flow.specs.Assigning.{Suits}
use Rattle.il_verifier.specs.declared.pairs.Entry.{Entry}
use Rattle.il_verifier.proofs.Entries.{all-noted}
use Rattle.il_verifier.proofs.known.Known.seek.Goals as goal

pub invariant_of-self-2 : goal.invariant_of-self-2
invariant_of-self-2 g c =
    all-noted Holds c.self.inside.fits c.note.new.self c.in_ok-of.field-0 c.note.ensures
    (subst Holds (sym c.in_ok-of.ensures) c.in_ok-found.ensures) c.self.invariant
  where
    Holds : Entry Bool → Type 0
    Holds = λ entry. IsTrue entry.found ↔ Suits (g.P.Parents.family c.self.inside.parents.now) entry.low entry.high
