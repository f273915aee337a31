use Rattle.std.proofs.Common.{length}
use Rattle.il_reader.proofs.Paths as paths
use Rattle.il_reader.proofs.laws.boundaries_lie_in_the_code.Goals as goal

pub returns : goal.returns
returns c = λ code places all. paths.path_within code 0 places (length code) all
