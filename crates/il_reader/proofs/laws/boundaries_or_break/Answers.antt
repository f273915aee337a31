use Rattle.il_reader.proofs.Paths as paths
use Rattle.il_reader.proofs.laws.boundaries_or_break.Goals as goal

pub returns : goal.returns
returns c = paths.boundaries_or_break
