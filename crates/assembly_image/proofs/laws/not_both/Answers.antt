use Rattle.std.proofs.Common.{◌≡◌, Option, Some, None}
use Rattle.cli_words.specs.declared.check.FailedCheck.{FailedCheck}
use Rattle.assembly_image.proofs.laws.not_both.Goals as goal

no_fault : (failed : FailedCheck) (o : Option FailedCheck) → o ≡ None → o ≡ Some failed → ⊥
no_fault failed None none some = cc
no_fault failed (Some other) none some = cc

pub returns : goal.returns
returns c = λ bytes m failed reads refused. no_fault failed _ reads.passes refused
