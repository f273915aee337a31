use Rattle.std.proofs.Common.{◌↔◌, IsTrue, Bool, refl, ap, subst}
use Rattle.il_flow.specs.Assigning.{Suits}
use Rattle.il_flow.specs.Families.{Family}
use Rattle.il_verifier.proofs.Fits.{suits-same}
use Rattle.il_verifier.proofs.known.Known.suits.Goals as goal

pub returns-then-is_same_key : goal.returns-then-is_same_key
returns-then-is_same_key g c =
    suits-same (g.P.Parents.family c.args.self.now) c.args.value.now c.args.place.now (c.is_same_key.ensures.0 c.if-is_same_key.true)

pub returns-in-Some : goal.returns-in-Some
returns-in-Some g c =
    let found : Bool = c.in-Some.fits.now in
    let is = c.self.invariant (record { low = c.args.value.now; high = c.args.place.now; found = found }) (c.in-Some.ensures found refl) in
    subst (λ (family : Family). IsTrue found ↔ Suits family c.args.value.now c.args.place.now)
    (ap g.P.Parents.family c.self.view_is) is
