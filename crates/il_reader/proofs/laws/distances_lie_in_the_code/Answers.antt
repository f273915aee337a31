use Rattle.il_reader.proofs.Distances.{distances_lie}
use Rattle.il_reader.proofs.laws.distances_lie_in_the_code.Goals as goal

pub returns : goal.returns
returns c = distances_lie
