use Rattle.std.proofs.Common.{◌≡◌, ◌++◌, ◌∷◌, ◌∙◌, [], ℕ, Option, Some, cond, length, refl, sym, subst, ap}
use Rattle.std.specs.Arc.{arc_value}
use Rattle.std.specs.Result.{is_ok}
use Rattle.std.specs.Vec.{vec_capacity}
use Rattle.host_events.specs.declared.order.Answer.{Answer}
use Rattle.host_events.specs.Flows.{IsResumable}
use Rattle.bind_flow.specs.Flow.{CanCome}
use Rattle.command_flow.specs.declared.run.At.{At}
use Rattle.command_flow.specs.declared.run.At.TheVariants as places
use Rattle.command_flow.specs.declared.run.Told.{Told}
use Rattle.command_flow.specs.Flow.{Plan}
use Rattle.command_flow.specs.State.{IsKeptUp, Running, stand_at, steps_told}
use Rattle.command_flow.proofs.FlowLemmas.{IsKeptUp-taken, can_turn, come-now, told-now, waits-now}
use Rattle.command_flow.proofs.run.Run.take.Goals as goal

pub turn-turn-requires : goal.turn-turn-requires
turn-turn-requires c =
    let inside = c.self.inside in
    let plan : Plan = record { commands = inside.commands.items; images = arc_value inside.images } in
    let trace = steps_told inside.told.items in
    let run : Running = record { plan = plan; trace = trace; ends = inside.ends.items; at = inside.at } in
    let taken = subst (λ (r : Running). IsResumable (CanCome r.plan.images r.trace) (λ (a : Answer). a.reply) (λ (a : Answer). a.code) (stand_at r.at) (Some c.args.answer))
    (sym c.self.view_is) c.requires in
    let waiting = waits-now plan trace inside.ends.items inside.at c.in-Waits.wait c.in-Waits.order (length inside.told.items) (vec_capacity inside.told) c.in-Waits.ensures.value c.self.invariant.stands in
    can_turn plan trace inside.ends.items c.in-Waits.wait c.in-Waits.order.value c.args.answer.reply c.args.answer.code waiting.0
    (come-now run inside.at c.in-Waits.wait c.in-Waits.order c.args.answer c.in-Waits.ensures.value refl taken)

pub invariant_of-self : goal.invariant_of-self
invariant_of-self c =
    let inside = c.self.inside in
    let plan : Plan = record { commands = inside.commands.items; images = arc_value inside.images } in
    let run : Running = record { plan = plan; trace = steps_told inside.told.items; ends = inside.ends.items; at = inside.at } in
    let one : Told = record { order = c.in-Waits.order; answer = c.of-told.result } in
    let pushed : c.push.new.self.items ≡ inside.told.items ++ one ∷ [] =
    c.push.ensures.items ∙ ap (λ r. cond (is_ok r) (inside.told.items ++ one ∷ []) inside.told.items) c.unwrap.ensures in
    let taken = subst (λ (r : Running). IsResumable (CanCome r.plan.images r.trace) (λ (a : Answer). a.reply) (λ (a : Answer). a.code) (stand_at r.at) (Some c.args.answer))
    (sym c.self.view_is) c.requires in
    let can = told-now run inside.at c.in-Waits.wait c.in-Waits.order c.of-told.result c.args.answer inside.told.items c.push.new.self.items c.turn-turn.result (length inside.told.items) (vec_capacity inside.told)
    c.in-Waits.ensures.value refl c.self.invariant.stands taken c.of-told.ensures refl pushed c.turn-turn.ensures in
    subst (λ (at : At). IsKeptUp plan (steps_told c.push.new.self.items) inside.ends.items c.open-self-inside.result at (length c.push.new.self.items) (vec_capacity c.push.new.self)) (sym c.in-Waits.ensures.after)
    (subst (λ (within : Option ℕ). IsKeptUp plan (steps_told c.push.new.self.items) inside.ends.items within places.WithoutMemory (length c.push.new.self.items) (vec_capacity c.push.new.self)) (sym c.open-self-inside.ensures)
    (IsKeptUp-taken plan (steps_told inside.told.items) (steps_told c.push.new.self.items) inside.ends.items inside.entered inside.at c.turn-turn.result (length inside.told.items) (vec_capacity inside.told) _ _ c.self.invariant can))

pub returns-clause-can : goal.returns-clause-can
returns-clause-can c =
    let inside = c.self.inside in
    let plan : Plan = record { commands = inside.commands.items; images = arc_value inside.images } in
    let run : Running = record { plan = plan; trace = steps_told inside.told.items; ends = inside.ends.items; at = inside.at } in
    let one : Told = record { order = c.in-Waits.order; answer = c.of-told.result } in
    let pushed : c.push.new.self.items ≡ inside.told.items ++ one ∷ [] =
    c.push.ensures.items ∙ ap (λ r. cond (is_ok r) (inside.told.items ++ one ∷ []) inside.told.items) c.unwrap.ensures in
    let taken = subst (λ (r : Running). IsResumable (CanCome r.plan.images r.trace) (λ (a : Answer). a.reply) (λ (a : Answer). a.code) (stand_at r.at) (Some c.args.answer))
    (sym c.self.view_is) c.requires in
    told-now run inside.at c.in-Waits.wait c.in-Waits.order c.of-told.result c.args.answer inside.told.items c.push.new.self.items c.turn-turn.result (length inside.told.items) (vec_capacity inside.told)
    c.in-Waits.ensures.value refl c.self.invariant.stands taken c.of-told.ensures refl pushed c.turn-turn.ensures
