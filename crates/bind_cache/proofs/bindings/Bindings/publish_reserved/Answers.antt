use Rattle.std.proofs.Common.{◌≡◌, ◌<◌, ◌++◌, ◌∷◌, [], None, arith, rules, sym, subst}
use Rattle.std.proofs.lemmas.Grind.{common_steps}
use Rattle.bind_cache.specs.Bindings.{AreSingle, bound}
use Rattle.bind_cache.proofs.Bound.{AreSingle-added, one_more}
use Rattle.bind_cache.proofs.bindings.Bindings.publish_reserved.Goals as goal

pub invariant_of-self : goal.invariant_of-self
invariant_of-self c =
    let spare = subst (λ v. 0 < v.spare) (sym c.self.view_is) c.requires in
    let none : bound c.self.inside.bindings.items c.args.context c.args.name ≡ None = search rules in
    let new = one_more c.args.context c.args.name c.args.assembly in
    let pushed : c.push.new.self.items ≡ c.self.inside.bindings.items ++ new ∷ [] = search rules in
    record {
      single = subst AreSingle (sym pushed) (AreSingle-added c.self.inside.bindings.items new c.self.invariant.single none);
      room = grind (arith, common_steps);
    }
