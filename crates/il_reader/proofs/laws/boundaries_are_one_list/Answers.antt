use Rattle.il_reader.proofs.Paths as paths
use Rattle.il_reader.proofs.laws.boundaries_are_one_list.Goals as goal

pub returns : goal.returns
returns c = paths.one_list
