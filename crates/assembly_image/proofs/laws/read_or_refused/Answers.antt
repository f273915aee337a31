use Rattle.std.proofs.Common.{◌≡◌, ℕ, ◌⊎◌, List, Option, Some, None, refl, inl, inr}
use Rattle.cli_words.specs.Check.{first_fault}
use Rattle.cli_words.specs.declared.check.FailedCheck.{FailedCheck}
use Rattle.assembly_image.specs.Module.{Module}
use Rattle.assembly_image.specs.Reading.{Reads, IsRefused, image_checks, module_of}
use Rattle.assembly_image.proofs.laws.read_or_refused.Goals as goal

by_checks : (bytes : List ℕ) (o : Option FailedCheck) → first_fault (image_checks bytes) ≡ o
    → ((m : Module) × Reads bytes m) ⊎ ((failed : FailedCheck) × IsRefused bytes failed)
by_checks bytes None e = inl (module_of bytes, record { passes = e; holds = refl })
by_checks bytes (Some failed) e = inr (failed, e)

pub returns : goal.returns
returns c = λ bytes. by_checks bytes _ refl
