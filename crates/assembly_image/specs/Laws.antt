-- Laws over the reading of bytes (own).
use Rattle.std.specs.Prelude.{ℕ, ◌≡◌, ◌⊎◌, List}
use Rattle.cli_words.specs.declared.check.FailedCheck.{FailedCheck}
use Rattle.assembly_image.specs.Module.{Module}
use Rattle.assembly_image.specs.Reading.{Reads, IsRefused}

-- bytes are read or refused
abbrev pub IsReadOrRefused : Type 0
IsReadOrRefused =
    (bytes : List ℕ) →
    ((m : Module) × Reads bytes m) ⊎ ((failed : FailedCheck) × IsRefused bytes failed)

-- and not both
abbrev pub IsNotBoth : Type 0
IsNotBoth =
    (bytes : List ℕ) (m : Module) (failed : FailedCheck) → Reads bytes m → ¬ IsRefused bytes failed

-- they are read as one module
abbrev pub IsOneModule : Type 0
IsOneModule = (bytes : List ℕ) (m n : Module) → Reads bytes m → Reads bytes n → m ≡ n

-- and refused for one check at one place
abbrev pub IsOneFault : Type 0
IsOneFault =
    (bytes : List ℕ) (first second : FailedCheck) →
    IsRefused bytes first → IsRefused bytes second → first ≡ second
