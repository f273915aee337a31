use Rattle.std.proofs.Common.{◌≡◌, ◌∙◌, [], length, subst, ap}
use Rattle.std.specs.Arc.{arc_value}
use Rattle.std.specs.Vec.{vec_capacity}
use Rattle.command_flow.specs.declared.run.At.{At}
use Rattle.command_flow.specs.Flow.{Plan}
use Rattle.command_flow.specs.State.{IsBetween, Running, StandsAt, steps_told}
use Rattle.command_flow.proofs.StateLemmas.{between-fresh}
use Rattle.command_flow.proofs.run.Run.begin.Goals as goal

pub returns-clause-can : goal.returns-clause-can
returns-clause-can c =
    let inside = c.self.inside in
    let plan : Plan = record { commands = inside.commands.items; images = arc_value inside.images } in
    let trace = steps_told inside.told.items in
    let fresh : (trace ≡ []) × (inside.ends.items ≡ []) =
    subst (λ (at : At). StandsAt plan trace inside.ends.items at (length inside.told.items) (vec_capacity inside.told)) (ap (λ (run : Running). run.at) c.self.view_is ∙ c.requires) c.self.invariant.stands in
    subst (λ (run : Running). IsBetween run.plan run.trace run.ends) c.self.view_is (between-fresh plan trace inside.ends.items fresh.0 fresh.1)
