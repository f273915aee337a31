use Rattle.std.proofs.Common.{◌≡◌, ◌↔◌, true, sym, subst}
use Rattle.signatures.specs.SameKeys.{same_key}
use Rattle.il_flow.specs.Families.{object}
use Rattle.il_flow.proofs.classes.is_object.Goals as goal

pub returns-clause-object : goal.returns-clause-object
returns-clause-object c =
    let e : c.eq.result ≡ same_key c.args.key.now object =
    rw (c.as_slice.ensures, c.parts.ensures.parts, c.key.ensures.key) at c.eq.ensures in
    subst (λ b. (b ≡ true) ↔ (c.args.key.now ≡ object)) (sym e)
    (c.equal_keys_are_same.ensures c.args.key.now object)
