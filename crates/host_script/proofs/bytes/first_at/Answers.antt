use Rattle.std.proofs.Common.{◌==◌}
use Rattle.host_script.proofs.ByteLemmas.{found_at, none_found}
use Rattle.host_script.proofs.bytes.first_at.Goals as goal

pub returns-in-Some-clause-place : goal.returns-in-Some-clause-place
returns-in-Some-clause-place c = found_at (λ b. b == c.args.byte) c.args.bytes.now c.in-Some.at c.in-Some.ensures

pub returns-in-None-clause-place : goal.returns-in-None-clause-place
returns-in-None-clause-place c = none_found (λ b. b == c.args.byte) c.args.bytes.now c.in-None.ensures
