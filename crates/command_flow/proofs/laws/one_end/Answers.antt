use Rattle.command_flow.proofs.OrderLemmas.{one_end_each}
use Rattle.command_flow.proofs.laws.one_end.Goals as goal

pub returns : goal.returns
returns c = one_end_each
