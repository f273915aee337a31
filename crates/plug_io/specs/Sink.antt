-- What a sink takes and has taken (own).
use Rattle.std.specs.Prelude.{◌≡◌, ℕ, ◌≤◌, ◌<◌, List, ◌++◌, length, Option}
use Rattle.std.specs.Option.{option_map}

-- at most the piece is taken, and something of a piece that is not empty
abbrev pub IsTaken : List ℕ → ℕ → Type 0
IsTaken piece n = (n ≤ length piece) × (0 < length piece → 0 < n)

-- where what was written is told, it has these bytes more
abbrev pub HasAppended : Option (List ℕ) → Option (List ℕ) → List ℕ → Type 0
HasAppended old new bytes = new ≡ option_map (λ written. written ++ bytes) old
