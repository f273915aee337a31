use Rattle.std.proofs.Common.{◌⊎◌, List, sym, ap, subst, ◌∙◌, Contains}
use Rattle.il_flow.specs.Families.{parent_of, interfaces_of, Names}
use Rattle.il_flow.specs.Assigning.{AreJust}
use Rattle.il_flow.proofs.Order.{Key}
use Rattle.il_flow.proofs.Levels.{both, alone, on-ok}
use Rattle.il_flow.proofs.level.add_above.Goals.{in-Some+in_ok-add_key, in_default}
use Rattle.il_flow.proofs.level.add_above.Goals as goal

pub returns : goal.returns
returns g c =
    let family = g.P.Parents.family c.args.parents.now in
    let key : Key = c.args.key.now in
    let new : List Key = c.add_interfaces.new.keys.items in
    let old : List Key = c.args.keys.now.items in
    on-ok c.add_interfaces.result
    (AreJust new (λ other. Contains c.match-branch-2.keys.items other ⊎ Contains (interfaces_of family key) other))
    (AreJust new (λ other. Contains old other ⊎ Names family key other))
    (λ second. elim c.match-branch-2.branch [
      | in-Some+in_ok-add_key w ↦
          both family key old w.add_key.new.keys.items new (interfaces_of family key) w.in-Some.parent
          (parent_of family key) (sym c.in_ok-parent.ensures ∙ w.in-Some.is)
          w.in_ok-add_key.ensures
          (subst (λ (keys : List Key). AreJust new (λ other. Contains keys other ⊎ Contains (interfaces_of family key) other))
          (ap (λ v. v.items) w.keys-is) second)
      | in_default w ↦
          alone old new (interfaces_of family key) (parent_of family key)
          (sym c.in_ok-parent.ensures ∙ w.in_default.is)
          (subst (λ (keys : List Key). AreJust new (λ other. Contains keys other ⊎ Contains (interfaces_of family key) other))
          (ap (λ v. v.items) w.keys-is) second)
    ])
    c.add_interfaces.ensures
