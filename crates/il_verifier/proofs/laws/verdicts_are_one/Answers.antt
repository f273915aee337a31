use Rattle.il_verifier.proofs.Verdicts.{one-verdict}
use Rattle.il_verifier.proofs.laws.verdicts_are_one.Goals as goal

pub returns : goal.returns
returns c = λ family short facts.
    one-verdict c.boundaries_are_one_list.ensures family (c.typings_are_least.ensures family short) facts
