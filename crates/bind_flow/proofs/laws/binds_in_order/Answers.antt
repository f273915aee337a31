use Rattle.bind_flow.proofs.OrderLemmas.{in_order_each}
use Rattle.bind_flow.proofs.laws.binds_in_order.Goals as goal

pub returns : goal.returns
returns c = in_order_each
