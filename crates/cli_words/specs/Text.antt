-- Texts in UTF-16 (ECMA-335 II.24.2.3, II.24.2.4; Unicode 3.9).
use Rattle.std.specs.Prelude.{ℕ, ◌+◌, ◌*◌, ◌^◌, ◌<◌, Bool, List, [], ◌∷◌, All, map, encode_utf8_all, chars}
use Rattle.std.specs.List.{flat_map}
use Rattle.std.specs.Str.{bytes_eq}
use Rattle.std.specs.Char.{to_ascii_lowercase}
use Rattle.std.specs.Char.Escape.{encode_utf16}
use Rattle.std.specs.Char.Utf16.{utf16_lossy_chars}

-- each is a unit of two bytes
abbrev pub AreUnits : List ℕ → Type 0
AreUnits units = All (λ unit. unit < 2 ^ 16) units

-- the units that stand in the bytes, two bytes each and the lower first; a last odd byte is none
abbrev pub units_in : List ℕ → List ℕ
units_in (low ∷ high ∷ rest) = (low + high * 0x100) ∷ units_in rest
units_in _ = []

-- the units of the text that the bytes are in UTF-8
abbrev pub units_of : List ℕ → List ℕ
units_of bytes = flat_map encode_utf16 (chars bytes)

-- the bytes in UTF-8 of the text that the units are, with U+FFFD for each surrogate in no pair
abbrev pub bytes_of : List ℕ → List ℕ
bytes_of units = encode_utf8_all (utf16_lossy_chars units)

-- the units with the letters `A` to `Z` as `a` to `z`
abbrev pub ascii_lowercase : List ℕ → List ℕ
ascii_lowercase units = map to_ascii_lowercase units

-- two texts are the same without regard to ASCII case
abbrev pub are_alike : List ℕ → List ℕ → Bool
are_alike a b = bytes_eq (ascii_lowercase a) (ascii_lowercase b)
