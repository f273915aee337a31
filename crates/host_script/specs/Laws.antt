-- Laws over the definitions of this crate (own).
use Rattle.std.specs.Prelude.{ℕ, ◌≡◌, ◌≤◌, ◌⊎◌, List, Some, length, sum_by}
use Rattle.std.specs.List.{AllByRecursion}
use Rattle.host_script.specs.FirstWord.{first_word, spelling}
use Rattle.host_script.specs.Script.{Accepts, Refuses}
use Rattle.host_script.specs.Worded.{AreWorded}
use Rattle.host_script.specs.declared.cause.LineCause.{LineCause}
use Rattle.host_script.specs.declared.first_word.FirstWord.{FirstWord}
use Rattle.host_script.specs.declared.script.Script.{Script}

abbrev pub IsAccepted : List ℕ → Type 0
IsAccepted bytes = (script : Script) × Accepts bytes script

abbrev pub IsRefused : List ℕ → Type 0
IsRefused bytes = (line : ℕ) × ((cause : LineCause) × Refuses bytes line cause)

-- exactly one of the two holds
abbrev pub IsRefusedOrAccepted : Type 0
IsRefusedOrAccepted =
    (bytes : List ℕ) → (IsAccepted bytes ⊎ IsRefused bytes) × (IsAccepted bytes → ¬ IsRefused bytes)

-- bytes have one script
abbrev pub HasOneScript : Type 0
HasOneScript =
    (bytes : List ℕ) (first second : Script) → Accepts bytes first → Accepts bytes second → first ≡ second

-- bytes are refused at one line, for one cause
abbrev pub HasOneRefusal : Type 0
HasOneRefusal =
    (bytes : List ℕ) (line other : ℕ) (cause another : LineCause) →
    Refuses bytes line cause → Refuses bytes other another → (line ≡ other) × (cause ≡ another)

-- at least one thread, and no more threads, commands and images than a script may have
pub record IsSmall (script : Script) : Type 0 where
  pub some : 1 ≤ length script.threads
  pub threads : length script.threads ≤ 8
  pub commands : sum_by length script.threads ≤ 1024
  pub images : length script.images ≤ 256

abbrev pub AcceptedIsSmall : Type 0
AcceptedIsSmall = (bytes : List ℕ) (script : Script) → Accepts bytes script → IsSmall script

-- the names of an accepted script's commands are names, their texts are units, and their images are the script's
abbrev pub AcceptedIsWorded : Type 0
AcceptedIsWorded =
    (bytes : List ℕ) (script : Script) → Accepts bytes script →
    AllByRecursion (AreWorded (length script.images)) script.threads

-- each word with which a line can begin is read where it is spelled
abbrev pub EachFirstWordIsRead : Type 0
EachFirstWordIsRead = (first : FirstWord) → first_word (spelling first) ≡ Some first
