use Rattle.std.proofs.Common.{◌≡◌, ◌↔◌, true, sym, subst, Contains}
use Rattle.il_flow.proofs.Members.{among}
use Rattle.il_flow.proofs.classes.is_among.Goals as goal

pub returns-clause-among : goal.returns-clause-among
returns-clause-among c =
    subst (λ b. (b ≡ true) ↔ Contains c.args.keys.now c.args.key.now) (sym c.is_equal_to_any.ensures)
    (among c.equal_keys_are_same.ensures c.args.key.now c.args.keys.now)
