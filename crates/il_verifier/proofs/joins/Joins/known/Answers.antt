use Rattle.std.proofs.Common.{rules, inr, Option, Some, List, Contains, ap, subst}
use Rattle.il_verifier.specs.declared.joins.Join.{Join}
use Rattle.il_verifier.specs.Pools.{Noted}
use Rattle.il_verifier.proofs.joins.Joins.known.Goals as goal

pub returns-in-Some : goal.returns-in-Some
returns-in-Some c =
    let join : Join = record { pair = c.args.pair; both = c.in-Some.join.both } in
    inr (subst (λ (joins : List (Option Join)). Contains joins (Some join)) (ap (λ (n : Noted). n.joins) c.self.view_is) (search rules))
