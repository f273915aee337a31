use Rattle.std.proofs.Common.{◌≡◌, ◌++◌, ◌∷◌, ◌∙◌, [], List, Some, IfOk, cond, length, refl, sym, subst, ap}
use Rattle.std.specs.List.{filter_map}
use Rattle.host_events.specs.Operations.{begun_operation}
use Rattle.std.specs.Result.{is_ok}
use Rattle.std.specs.Vec.{vec_capacity}
use Rattle.std.proofs.lemmas.List.{map-append}
use Rattle.host_events.specs.declared.order.Answer.{Answer}
use Rattle.host_events.specs.Flows.{IsResumable}
use Rattle.host_events.specs.Steps.{Step, without_codes}
use Rattle.bind_flow.specs.declared.flow.At.{At}
use Rattle.bind_flow.specs.declared.flow.Told.{Told}
use Rattle.bind_flow.specs.Flow.{CanCome}
use Rattle.bind_flow.specs.State.{Bind, CanGo, IsKeptUp, plan_of, stand_of, step_told, steps_told}
use Rattle.bind_flow.proofs.ComeLemmas.{came-now, waits-now}
use Rattle.bind_flow.proofs.FlowLemmas.{CanGo-made, quiet-came}
use Rattle.bind_flow.proofs.flow.BindFlow.take.Goals as goal

pub turn-turn-requires : goal.turn-turn-requires
turn-turn-requires c =
    let flow : Bind = record { plan = plan_of c.self.inside.search; trace = steps_told c.self.inside.told.items; at = c.self.inside.at } in
    came-now flow c.self.inside.at c.in-Waits.wait c.in-Waits.order c.args.answer (length c.self.inside.told.items) (vec_capacity c.self.inside.told)
    c.in-Waits.ensures.value refl c.self.invariant.stands
    (subst (λ (f : Bind). IsResumable (CanCome f.plan.images f.trace) (λ (a : Answer). a.reply) (λ (a : Answer). a.code) (stand_of f) (Some c.args.answer))
    (sym c.self.view_is) c.requires)

pub invariant_of-self : goal.invariant_of-self
invariant_of-self c =
    let flow : Bind = record { plan = plan_of c.self.inside.search; trace = steps_told c.self.inside.told.items; at = c.self.inside.at } in
    let came = came-now flow c.self.inside.at c.in-Waits.wait c.in-Waits.order c.args.answer (length c.self.inside.told.items) (vec_capacity c.self.inside.told)
    c.in-Waits.ensures.value refl c.self.invariant.stands
    (subst (λ (f : Bind). IsResumable (CanCome f.plan.images f.trace) (λ (a : Answer). a.reply) (λ (a : Answer). a.code) (stand_of f) (Some c.args.answer))
    (sym c.self.view_is) c.requires) in
    let one : Told = record { order = c.in-Waits.order; answer = c.args.answer } in
    let pushed : c.push.new.self.items ≡ c.self.inside.told.items ++ one ∷ [] =
    c.push.ensures.items ∙ ap (λ r. cond (is_ok r) (c.self.inside.told.items ++ one ∷ []) c.self.inside.told.items) c.unwrap.ensures in
    let steps : steps_told c.push.new.self.items ≡ flow.trace ++ step_told one ∷ [] = ap steps_told pushed ∙ map-append step_told c.self.inside.told.items (one ∷ []) in
    let quiet = quiet-came flow.plan flow.trace c.in-Waits.wait c.in-Waits.order.value.event c.args.answer.reply c.args.answer.code came c.self.invariant.quiet in
    subst (λ (at : At). IsKeptUp flow.plan (steps_told c.push.new.self.items) at (length c.push.new.self.items) (vec_capacity c.push.new.self)) (sym c.in-Waits.ensures.after)
    (record { quiet = subst (λ (trace : List Step). filter_map (λ step. begun_operation step.1) (without_codes trace) ≡ []) (sym steps) quiet; stands = tt })

pub returns-clause-can : goal.returns-clause-can
returns-clause-can c =
    let plan = plan_of c.self.inside.search in
    let trace = steps_told c.self.inside.told.items in
    let waiting = waits-now plan trace c.self.inside.at c.in-Waits.wait c.in-Waits.order (length c.self.inside.told.items) (vec_capacity c.self.inside.told)
    c.in-Waits.ensures.value c.self.invariant.stands in
    let one : Told = record { order = c.in-Waits.order; answer = c.args.answer } in
    let pushed : c.push.new.self.items ≡ c.self.inside.told.items ++ one ∷ [] =
    c.push.ensures.items ∙ ap (λ r. cond (is_ok r) (c.self.inside.told.items ++ one ∷ []) c.self.inside.told.items) c.unwrap.ensures in
    let steps : steps_told c.push.new.self.items ≡ trace ++ step_told one ∷ [] = ap steps_told pushed ∙ map-append step_told c.self.inside.told.items (one ∷ []) in
    subst (λ (t : List Step). IfOk c.turn-turn.result (CanGo plan t)) (sym steps)
    (CanGo-made plan trace c.in-Waits.wait c.in-Waits.order.value.event c.args.answer.reply c.args.answer.code c.turn-turn.result waiting.can waiting.asked c.turn-turn.ensures)
