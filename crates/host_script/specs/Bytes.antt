-- Words on lists of bytes (own).
use Rattle.std.specs.Prelude.{ℕ, Bool, true, false, ◌==◌, List, [], ◌∷◌}

-- nothing is there
abbrev pub is_empty : List ℕ → Bool
is_empty [] = true
is_empty (b ∷ bs) = false

-- the first byte is this one
abbrev pub begins_with : ℕ → List ℕ → Bool
begins_with b [] = false
begins_with b (x ∷ xs) = x == b

-- the byte put in front of the first piece
abbrev pub put : ℕ → List (List ℕ) → List (List ℕ)
put b [] = (b ∷ []) ∷ []
put b (piece ∷ pieces) = (b ∷ piece) ∷ pieces
