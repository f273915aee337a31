use Rattle.std.proofs.Common.{◌≡◌, ◌∙◌, length, All, Some, subst, ap, arith}
use Rattle.std.specs.List.{slice_get}
use Rattle.bind_flow.specs.State.{fresh as fresh_bind}
use Rattle.command_flow.specs.Flow.{HasImage}
use Rattle.command_flow.specs.State.{Running}
use Rattle.command_flow.proofs.MoveLemmas.{command_at, image-there, inside-load, resume-first}
use Rattle.command_flow.proofs.run.Run.enter.Goals as goal

pub load-requires-clause-inside : goal.load-requires-clause-inside
load-requires-clause-inside c =
    let inside = c.self.inside in
    let now = c.args.self.now in
    let command = c.in-Some-Load.field-0.now in
    let h = c.in-Some-Load.ensures.lookup in
    let at = command_at inside.commands.items c.deref.result.now c.len.result (length inside.ends.items) command c.deref.ensures.value (c.len.ensures ∙ inside.ends.ok.0) (omega (arith, h.3.0)) h.1 in
    let here = subst (λ (run : Running). slice_get run.plan.commands (length run.ends) ≡ Some command) c.self.view_is at ∙ ap Some c.in-Some-Load.field-0-is in
    inside-load now.plan now.trace now.ends c.args.operation c.args.context c.in-Some-Load.image c.in-Some-Load.field-0-0 c.requires.can here

pub load-requires-clause-there : goal.load-requires-clause-there
load-requires-clause-there c =
    let inside = c.self.inside in
    let now = c.args.self.now in
    let command = c.in-Some-Load.field-0.now in
    let h = c.in-Some-Load.ensures.lookup in
    let at = command_at inside.commands.items c.deref.result.now c.len.result (length inside.ends.items) command c.deref.ensures.value (c.len.ensures ∙ inside.ends.ok.0) (omega (arith, h.3.0)) h.1 in
    let here = subst (λ (run : Running). slice_get run.plan.commands (length run.ends) ≡ Some command) c.self.view_is at ∙ ap Some c.in-Some-Load.field-0-is in
    image-there now.plan (length now.ends) c.in-Some-Load.image c.in-Some-Load.field-0-0
    (subst (λ (run : Running). All (HasImage run.plan.images) run.plan.commands) c.self.view_is c.self.invariant.there) here

pub bind-requires-clause-can : goal.bind-requires-clause-can
bind-requires-clause-can c =
    let inside = c.self.inside in
    let now = c.args.self.now in
    let command = c.in-Some-Bind.field-0.now in
    let h = c.in-Some-Bind.ensures.lookup in
    let at = command_at inside.commands.items c.deref.result.now c.len.result (length inside.ends.items) command c.deref.ensures.value (c.len.ensures ∙ inside.ends.ok.0) (omega (arith, h.3.0)) h.1 in
    let here = subst (λ (run : Running). slice_get run.plan.commands (length run.ends) ≡ Some command) c.self.view_is at ∙ ap Some c.in-Some-Bind.field-0-is in
    let name = c.in-Some-Bind.name in
    let version = c.in-Some-Bind.version in
    let fresh = c.in-Ok.ensures ∙ ap (λ (run : Running). fresh_bind (record { wanted = record { context = c.args.context; name = name; version = version }; images = run.plan.images })) c.self.view_is in
    resume-first now.plan now.trace now.ends c.args.operation c.args.context c.in-Some-Bind.field-0-0 name version c.in-Ok.flow c.requires.can here fresh
