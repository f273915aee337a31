-- The first character that UTF-16 units spell (Unicode 3.9).
use Rattle.std.specs.Prelude.{ℕ, ◌≡◌, ◌<◌, ◌≤◌, ◌&&◌, Bool, nat_le, List, ◌∷◌, drop, length, slice_index, Option}
use Rattle.std.specs.Char.Utf16.{utf16_chars, is_high_surrogate, is_low_surrogate}

-- a surrogate pair comes first
abbrev pub begins_with_pair : List ℕ → Bool
begins_with_pair units =
    nat_le 2 (length units)
    && (is_high_surrogate (slice_index units 0) && is_low_surrogate (slice_index units 1))

-- the first character, `None` for a lone surrogate, and how many units spell it
pub record IsFirst (units : List ℕ) (first : Option ℕ × ℕ) : Type 0 where
  pub spelled : utf16_chars units ≡ first.0 ∷ utf16_chars (drop first.1 units)
  pub some : 0 < first.1
  pub within : first.1 ≤ length units
  pub few : first.1 ≤ 2
