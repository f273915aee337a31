use Rattle.il_reader.proofs.Paths as paths
use Rattle.il_reader.proofs.laws.not_broken.Goals as goal

pub returns : goal.returns
returns c = paths.not_broken
