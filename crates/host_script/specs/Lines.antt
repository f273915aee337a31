-- The lines of a script (own): they end with a line feed, and a carriage return right before it is no part of them.
use Rattle.std.specs.Prelude.{ℕ, Bool, true, ◌&&◌, ◌==◌, List, [], ◌∷◌, if◌then◌else◌}
use Rattle.host_script.specs.Bytes.{begins_with, put}

-- the lines of the bytes; a last piece that no line feed ends is a line where it isn't empty
abbrev pub lines : List ℕ → List (List ℕ)
lines [] = []
lines (b ∷ bs) =
    if b == 10 then [] ∷ lines bs
    else (if b == 13 && begins_with 10 bs then lines bs else put b (lines bs))

-- the bytes without the one carriage return that may stand at their end
abbrev pub without_cr : List ℕ → List ℕ
without_cr [] = []
without_cr (b ∷ []) = if b == 13 then [] else b ∷ []
without_cr (b ∷ c ∷ bs) = b ∷ without_cr (c ∷ bs)

-- there are no characters but spaces, or the first that is none is `#`
abbrev pub is_passed_over : List ℕ → Bool
is_passed_over [] = true
is_passed_over (b ∷ bs) = if b == 32 then is_passed_over bs else b == 35
