use Rattle.std.proofs.Common.{◌≡◌, ◌∙◌, length, Some, subst, arith}
use Rattle.std.specs.List.{slice_get}
use Rattle.command_flow.specs.State.{Running}
use Rattle.command_flow.proofs.MoveLemmas.{asked-starting, can_wait-first, command_at}
use Rattle.command_flow.proofs.run.Run.start.Goals as goal

pub ask-requires-clause-can : goal.ask-requires-clause-can
ask-requires-clause-can c =
    let inside = c.self.inside in
    let now = c.args.self.now in
    let command = c.in-Some.command.now in
    let h = c.in-Some.ensures.lookup in
    let at = command_at inside.commands.items c.deref.result.now c.len.result (length inside.ends.items) command c.deref.ensures.value (c.len.ensures ∙ inside.ends.ok.0) (omega (arith, h.3.0)) h.1 in
    let here = subst (λ (run : Running). slice_get run.plan.commands (length run.ends) ≡ Some command) c.self.view_is at in
    can_wait-first now.plan now.trace now.ends command c.first_wait-wait.result c.in-Ok.order c.requires.can here c.in-Ok.ensures.event c.first_wait-wait.ensures

pub ask-requires-clause-asked : goal.ask-requires-clause-asked
ask-requires-clause-asked c =
    let inside = c.self.inside in
    let now = c.args.self.now in
    let command = c.in-Some.command.now in
    let h = c.in-Some.ensures.lookup in
    let at = command_at inside.commands.items c.deref.result.now c.len.result (length inside.ends.items) command c.deref.ensures.value (c.len.ensures ∙ inside.ends.ok.0) (omega (arith, h.3.0)) h.1 in
    let here = subst (λ (run : Running). slice_get run.plan.commands (length run.ends) ≡ Some command) c.self.view_is at in
    asked-starting now.plan now.trace now.ends command c.in-Ok.order c.requires.can here c.in-Ok.ensures.event c.in-Ok.ensures.order
