use Rattle.command_flow.proofs.OrderLemmas.{in_order_each}
use Rattle.command_flow.proofs.laws.commands_in_order.Goals as goal

pub returns : goal.returns
returns c = in_order_each
