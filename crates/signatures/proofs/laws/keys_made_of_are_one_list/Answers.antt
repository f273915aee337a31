use Rattle.signatures.specs.Keys.{key_arity}
use Rattle.signatures.proofs.Splits.{made-of-one-list}
use Rattle.signatures.proofs.laws.keys_made_of_are_one_list.Goals as goal

pub returns : goal.returns
returns c = made-of-one-list key_arity
