use Rattle.std.proofs.Common.{◌≡◌, ◌⊎◌, List, subst, sym, Contains}
use Rattle.il_flow.specs.Assigning.{AreJust}
use Rattle.il_flow.proofs.Order.{Key}
use Rattle.il_flow.proofs.Levels.{kept-there, put-there}
use Rattle.il_flow.proofs.level.add_key.Goals as goal

pub returns-then-is_among : goal.returns-then-is_among
returns-then-is_among c =
    kept-there c.args.keys.now.items c.args.key
    (subst (λ (ks : List Key). Contains ks c.args.key) c.deref.ensures.value (c.is_among.ensures.among.0 c.if-is_among.true))

pub returns : goal.returns
returns c =
    subst (λ (ks : List Key). AreJust ks (λ other. Contains c.args.keys.now.items other ⊎ (c.args.key ≡ other)))
    (sym c.in_ok-push.ensures.items) (put-there c.args.keys.now.items c.args.key)
