use Rattle.std.proofs.Common.{◌≡◌, ◌<◌, ◌++◌, ◌∷◌, [], arith, rules, sym, subst}
use Rattle.std.proofs.lemmas.Grind.{common_steps}
use Rattle.std.specs.List.{AllByRecursion}
use Rattle.load_context.specs.Contexts.{IsTable, added}
use Rattle.load_context.proofs.Tables.{IsTable-added}
use Rattle.load_context.proofs.contexts.Contexts.add_reserved.Goals as goal

pub invariant_of-self : goal.invariant_of-self
invariant_of-self c =
    let greater = subst (λ v. AllByRecursion (λ other. other.number < c.args.context) v.list) (sym c.self.view_is) c.requires.greater in
    let spare = subst (λ v. 0 < v.spare) (sym c.self.view_is) c.requires.room in
    let table = IsTable-added _ (added c.args.context c.args.name c.args.collectible) c.self.invariant.table greater in
    let pushed : c.push.new.self.items ≡ c.self.inside.contexts.items ++ added c.args.context c.args.name c.args.collectible ∷ [] = search rules in
    record {
      table = subst IsTable (sym pushed) table;
      room = grind (arith, common_steps);
      counted = grind (arith, common_steps);
    }
