use Rattle.il_verifier.proofs.Order.{zip-anti}
use Rattle.il_verifier.proofs.laws.typings_are_least.Goals as goal

pub returns : goal.returns
returns c = λ family short max lines one other at depth first second reached.
    zip-anti family (c.merging_is_least.ensures.antisymmetric family short) (one at) (other at)
    (first.least other at depth second.closed reached)
    (second.least one at depth first.closed reached)
