-- What the words of the command line ask for (own).
use Rattle.std.specs.Prelude.{ℕ, ◌≡◌, List, [], ◌∷◌, codes}
use Rattle.host_threads.specs.Turns.{IsSchedule}

-- what can be asked for
pub data Request : Type 0 where
  -- the script of the file is run on one thread, in the turns of the schedule
  steps : (file schedule : List ℕ) → Request
  -- the file is read as an image
  inspect : (file : List ℕ) → Request

-- the words `steps F N` and `inspect F` ask for it
abbrev pub Asks : List (List ℕ) → Request → Type 0
Asks words (steps file schedule) = (words ≡ codes "steps" ∷ file ∷ schedule ∷ []) × IsSchedule schedule
Asks words (inspect file) = words ≡ codes "inspect" ∷ file ∷ []
