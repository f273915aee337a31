use Rattle.bind_flow.proofs.OrderLemmas.{one_bind_each}
use Rattle.bind_flow.proofs.laws.one_bind.Goals as goal

pub returns : goal.returns
returns c = one_bind_each
