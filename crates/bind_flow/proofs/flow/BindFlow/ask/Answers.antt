use Rattle.std.proofs.Common.{List, sym, subst}
use Rattle.bind_flow.specs.declared.flow.Told.{Told}
use Rattle.bind_flow.specs.State.{Bind, CanWait, plan_of, steps_told}
use Rattle.bind_flow.proofs.FlowLemmas.{IsAsked-due}
use Rattle.bind_flow.proofs.flow.BindFlow.ask.Goals as goal

pub returns-clause-gives : goal.returns-clause-gives
returns-clause-gives c =
    let plan = plan_of c.self.inside.search in
    let can : CanWait plan (steps_told c.self.inside.told.items) c.args.wait =
    subst (λ (f : Bind). CanWait f.plan f.trace c.args.wait) (sym c.self.view_is) c.requires.can in
    IsAsked-due plan (steps_told c.reserve.new.self.items) c.args.wait c.in-Ok.order
    (subst (λ (told : List Told). CanWait plan (steps_told told) c.args.wait) (sym c.reserve.ensures.items) can)
    c.in-Ok.ensures.event c.in-Ok.ensures.order
