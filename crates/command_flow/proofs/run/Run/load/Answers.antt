use Rattle.std.proofs.Common.{◌≡◌, ◌∙◌, List, Some, sym, subst, ap}
use Rattle.std.specs.Option.{option_map}
use Rattle.assembly_image.specs.Reading.{FileReading}
use Rattle.bind_flow.specs.Images.{reading_at}
use Rattle.command_flow.specs.State.{Running}
use Rattle.command_flow.specs.Turns.{IsLoad, refused}
use Rattle.command_flow.proofs.FlowLemmas.{asked-load}
use Rattle.command_flow.proofs.MoveLemmas.{leaving-refused}
use Rattle.command_flow.proofs.run.Run.load.Goals as goal

pub leave-requires-clause-can : goal.leave-requires-clause-can
leave-requires-clause-can c =
    let now = c.args.self.now in
    let images : c.deref.result.now ≡ now.plan.images = c.deref.ensures ∙ ap (λ (run : Running). run.plan.images) c.self.view_is in
    leaving-refused now.plan now.trace now.ends c.args.operation c.args.image c.args.context c.in-Some.failed c.requires.inside
    (ap (λ (files : List FileReading). option_map refused (reading_at files c.args.image)) (sym images) ∙ c.refused.ensures ∙ ap Some c.in-Some.is)

pub ask-requires-clause-asked : goal.ask-requires-clause-asked
ask-requires-clause-asked c =
    let now = c.args.self.now in
    let images : c.deref-2.result.now ≡ now.plan.images = c.deref-2.ensures ∙ ap (λ (run : Running). run.plan.images) c.self.view_is in
    asked-load now.plan now.trace now.ends c.args.operation c.in-Ok.order (record {
      context = c.args.context;
      image = c.args.image;
      inside = c.requires.inside;
      load = subst (λ (files : List FileReading). IsLoad files c.args.context c.args.image c.in-Ok.order) images c.in-Ok.ensures;
    })
