use Rattle.il_reader.proofs.Paths as paths
use Rattle.il_reader.proofs.laws.one_break.Goals as goal

pub returns : goal.returns
returns c = paths.one_break
