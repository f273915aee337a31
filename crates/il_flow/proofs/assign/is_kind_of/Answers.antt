use Rattle.std.proofs.Common.{◌↔◌, inl, refl, IsTrue}
use Rattle.il_flow.specs.Families.{IsLed}
use Rattle.il_flow.specs.Assigning.{IsKindOf}
use Rattle.il_flow.proofs.Suiting.{if-ok, kind-by-leads}
use Rattle.il_flow.proofs.assign.is_kind_of.Goals as goal

pub returns-then-is_object : goal.returns-then-is_object
returns-then-is_object g c = (λ _. inl (c.is_object.ensures.object.0 c.if-is_object.true), λ _. refl)

pub returns : goal.returns
returns g c =
    let family = g.P.Parents.family c.args.parents.now in
    if-ok c.leads.result (λ is. IsTrue is ↔ IsLed family c.args.value.now c.args.place.now)
    (λ is. IsTrue is ↔ IsKindOf family c.args.value.now c.args.place.now)
    (kind-by-leads family c.args.value.now c.args.place.now
    (λ e. cc (c.if-is_object.false, c.is_object.ensures.object.1 e)))
    c.leads.ensures
