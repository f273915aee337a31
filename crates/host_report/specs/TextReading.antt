-- What the reader takes from the front of a text where a text in quotes begins (own: the reader's view).
use Rattle.std.specs.Prelude.{ℕ, zero, suc, ◌+◌, ◌-◌, ◌*◌, ◌%◌, ◌&&◌, ◌==◌, nat_le, nat_lt, List, [], ◌∷◌, ◌++◌, drop, Option, Some, None, if◌then◌else◌}
use Rattle.std.specs.Char.Escape.{encode_utf16}
use Rattle.std.specs.Option.{option_map, option_and_then}
use Rattle.host_report.specs.FieldReading.{four_digits_read}

-- the unit that a backslash and this byte spell
abbrev pub escaped_unit : ℕ → Option ℕ
escaped_unit byte =
    if byte == 34 then Some 34 else if byte == 92 then Some 92 else if byte == 110 then Some 10 else None

-- the unit of the four digits behind `\u`, and how many bytes it takes with these two
abbrev pub digits_read : List ℕ → Option (ℕ × ℕ)
digits_read (a ∷ b ∷ c ∷ d ∷ _) = option_map (λ unit. (unit, 6)) (four_digits_read a b c d)
digits_read _ = None

-- the same of what stands behind a backslash
abbrev pub escape_read : List ℕ → Option (ℕ × ℕ)
escape_read [] = None
escape_read (byte ∷ rest) =
    if byte == 117 then digits_read rest else option_map (λ unit. (unit, 2)) (escaped_unit byte)

-- a character of two bytes, of three and of four, of which the first byte is given
abbrev pub two_read : ℕ → List ℕ → Option (ℕ × ℕ)
two_read a [] = None
two_read a (b ∷ _) = Some (a % 32 * 64 + b % 64, 2)

abbrev pub three_read : ℕ → List ℕ → Option (ℕ × ℕ)
three_read a (b ∷ c ∷ _) = Some (a % 16 * 4096 + b % 64 * 64 + c % 64, 3)
three_read a _ = None

abbrev pub four_code : ℕ → ℕ → ℕ → ℕ → ℕ
four_code a b c d = (a % 8 * 64 + b % 64) * 4096 + (c % 64 * 64 + d % 64)

-- such a character stands beyond the first plane
abbrev pub four_read : ℕ → List ℕ → Option (ℕ × ℕ)
four_read a (b ∷ c ∷ d ∷ _) =
    if nat_le 0x1_0000 (four_code a b c d) && nat_lt (four_code a b c d) 0x11_0000
    then Some (four_code a b c d, 4) else None
four_read a _ = None

-- the character or the lone unit that stands first, and how many bytes spell it
abbrev pub first_read : List ℕ → Option (ℕ × ℕ)
first_read [] = None
first_read (a ∷ rest) =
    if a == 92 then escape_read rest
    else if nat_lt a 0x80 then Some (a, 1)
    else if nat_lt a 0xe0 then two_read a rest
    else if nat_lt a 0xf0 then three_read a rest
    else four_read a rest

-- units before those that are read
abbrev pub prefixed : List ℕ → Option (List ℕ × List ℕ) → Option (List ℕ × List ℕ)
prefixed before there = option_map (λ read. (before ++ read.0, read.1)) there

-- the units that stand up to the next quote, and what stands behind the space that follows it; so many
-- bytes are passed over first, since what they spell is told already
abbrev pub within_read : ℕ → List ℕ → Option (List ℕ × List ℕ)
within_read passed [] = None
within_read (suc passed) (byte ∷ rest) = within_read passed rest
within_read zero (byte ∷ rest) =
    if byte == 34 then Some ([], drop 1 rest)
    else option_and_then
    (λ first. prefixed (encode_utf16 first.0) (within_read (first.1 - 1) rest))
    (first_read (byte ∷ rest))

-- the units of a text in quotes
abbrev pub units_read : List ℕ → Option (List ℕ × List ℕ)
units_read [] = None
units_read (byte ∷ rest) = if byte == 34 then within_read 0 rest else None
