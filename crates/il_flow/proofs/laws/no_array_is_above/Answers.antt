use Rattle.il_flow.proofs.Ups.{on-plain}
use Rattle.il_flow.proofs.laws.no_array_is_above.Goals as goal

pub returns : goal.returns
returns c = λ family short low high on. on-plain family short on.0 low high on.1
