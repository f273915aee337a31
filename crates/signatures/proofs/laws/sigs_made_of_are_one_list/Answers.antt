use Rattle.signatures.specs.Types.{arity}
use Rattle.signatures.proofs.Splits.{made-of-one-list}
use Rattle.signatures.proofs.laws.sigs_made_of_are_one_list.Goals as goal

pub returns : goal.returns
returns c = made-of-one-list arity
