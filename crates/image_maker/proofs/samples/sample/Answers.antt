use Rattle.std.proofs.Common.{◌∙◌}
use Rattle.std.proofs.lemmas.Result.{IfOk-weaker}
use Rattle.image_maker.proofs.SampleLaws.{made_sound, made_within}
use Rattle.image_maker.proofs.samples.sample.Goals as goal

pub returns-clause-sound : goal.returns-clause-sound
returns-clause-sound c =
    made_sound c.args.which c.module.result
    (IfOk-weaker c.module.result _ _ (λ m same. same ∙ c.plan.ensures) c.module.ensures)

pub returns-clause-within : goal.returns-clause-within
returns-clause-within c =
    made_within c.args.which c.module.result
    (IfOk-weaker c.module.result _ _ (λ m same. same ∙ c.plan.ensures) c.module.ensures)
