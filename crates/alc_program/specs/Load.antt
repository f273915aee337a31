-- What a file holds as a script (own). What the files hold is pairs of a path and its content, where they
-- tell it.
use Rattle.std.specs.Prelude.{ℕ, ◌≡◌, ◌<◌, ◌≤◌, ◌⊎◌, List, [], length, Option, Some, None, IfSome}
use Rattle.plug_io.specs.Files.{held_at}
use Rattle.host_script.specs.declared.cause.LineCause.{LineCause}
use Rattle.host_script.specs.declared.cause.LineCause.TheVariants.{Absent, TooLong, NotBuilt}
use Rattle.host_script.specs.declared.script.Script.{Script}
use Rattle.host_script.specs.Script.{Accepts, Refuses}
use Rattle.alc_program.specs.declared.status.Status.{Status}
use Rattle.alc_program.specs.declared.status.Status.TheVariants as statuses
use Rattle.alc_program.specs.Unbuilt.{IsLeast, unbuilt_lines}

-- the most bytes of a script
abbrev pub script_limit : ℕ
script_limit = 1048576

-- The script is what some bytes say, which are the content of the file where the files tell it. All its lines
-- are run.
pub record HoldsScript (held : Option (List (List ℕ × List ℕ))) (file : List ℕ) (script : Script) : Type 0 where
  pub bytes : List ℕ
  pub found : IfSome held (λ entries. held_at entries file ≡ Some bytes)
  pub short : length bytes ≤ script_limit
  pub accepted : Accepts bytes script
  pub built : unbuilt_lines script ≡ []

-- the bytes spell a script whose first line that is not run is this one
pub record HasUnbuilt (bytes : List ℕ) (line : ℕ) : Type 0 where
  pub script : Script
  pub accepted : Accepts bytes script
  pub first : IsLeast (unbuilt_lines script) line

-- The bytes are refused at this line, for this cause: there are too many, or they are no script, or a line of the
-- script is not run.
abbrev pub RefusesBytes : List ℕ → ℕ → LineCause → Type 0
RefusesBytes bytes line cause =
    ((script_limit < length bytes) × (line ≡ 0) × (cause ≡ TooLong))
    ⊎ ((length bytes ≤ script_limit) × (Refuses bytes line cause ⊎ (HasUnbuilt bytes line × (cause ≡ NotBuilt))))

-- such a content, or none, is refused at this line, for this cause
abbrev pub RefusesContent : Option (List ℕ) → ℕ → LineCause → Type 0
RefusesContent None line cause = (line ≡ 0) × (cause ≡ Absent)
RefusesContent (Some bytes) line cause = RefusesBytes bytes line cause

-- the file holds no script that is run, for this cause at this line, where the files tell what it holds
abbrev pub RefusesFile : Option (List (List ℕ × List ℕ)) → List ℕ → ℕ → LineCause → Type 0
RefusesFile held file line cause = IfSome held (λ entries. RefusesContent (held_at entries file) line cause)

-- what bytes come to that are no script that is run
abbrev pub IsBytesStatus : List ℕ → Status → Type 0
IsBytesStatus bytes (statuses.Script line cause) =
    Refuses bytes line cause ⊎ (HasUnbuilt bytes line × (cause ≡ NotBuilt))
IsBytesStatus bytes statuses.OutOfMemory = Unit {0}
IsBytesStatus bytes _ = ⊥
