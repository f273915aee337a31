use Rattle.std.proofs.Common.{◌≡◌, ◌∙◌, List, [], length, sym, subst, ap}
use Rattle.std.specs.Vec.{vec_capacity}
use Rattle.host_events.specs.Steps.{Step}
use Rattle.bind_flow.specs.declared.flow.At.{At}
use Rattle.bind_flow.specs.declared.turn.Wait.TheVariants as waits
use Rattle.bind_flow.specs.State.{Bind, CanWait, StandsAt, plan_of, steps_told}
use Rattle.bind_flow.proofs.FlowLemmas.{CanWait-first}
use Rattle.bind_flow.proofs.flow.BindFlow.begin.Goals as goal

pub returns-clause-can : goal.returns-clause-can
returns-clause-can c =
    let plan = plan_of c.self.inside.search in
    let empty : steps_told c.self.inside.told.items ≡ [] =
    subst (λ (at : At). StandsAt plan (steps_told c.self.inside.told.items) at (length c.self.inside.told.items) (vec_capacity c.self.inside.told)) (ap (λ (f : Bind). f.at) c.self.view_is ∙ c.requires) c.self.invariant.stands in
    subst (λ (trace : List Step). CanWait plan trace waits.Lookup) (sym empty) (CanWait-first plan)
