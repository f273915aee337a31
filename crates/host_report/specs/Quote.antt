-- Texts in quotes, as reports and inspections print them (own).
use Rattle.std.specs.Prelude.{ℕ, ◌≡◌, ◌/◌, ◌%◌, Bool, true, ◌&&◌, ◌||◌, ◌==◌, List, [], ◌∷◌, ◌++◌, codes, encode_utf8, nat_le, nat_lt, if◌then◌else◌}
use Rattle.std.specs.Char.Utf16.{is_high_surrogate, is_low_surrogate, surrogate_pair_char}
use Rattle.std.specs.Fmt.{digit_glyph}

abbrev pub is_surrogate : ℕ → Bool
is_surrogate unit = nat_le 0xD800 unit && nat_lt unit 0xE000

abbrev pub is_pair : ℕ → ℕ → Bool
is_pair high low = is_high_surrogate high && is_low_surrogate low

-- `\u` and four hexadecimal digits
abbrev pub escape_text : ℕ → List ℕ
escape_text unit =
    codes "\\u" ++ digit_glyph true (unit / 4096) ∷ digit_glyph true (unit / 256 % 16)
    ∷ digit_glyph true (unit / 16 % 16) ∷ digit_glyph true (unit % 16) ∷ []

-- a unit that is in no pair of surrogates
abbrev pub unit_text : ℕ → List ℕ
unit_text unit =
    if unit == 34 then codes "\\\""
    else if unit == 92 then codes "\\\\"
    else if unit == 10 then codes "\\n"
    else if nat_lt unit 32 || unit == 127 || is_surrogate unit then escape_text unit
    else encode_utf8 unit

-- the units of a text, a pair of surrogates as the character that it spells
abbrev pub units_text : List ℕ → List ℕ
units_text [] = []
units_text (unit ∷ []) = unit_text unit
units_text (unit ∷ next ∷ units) =
    if is_pair unit next then encode_utf8 (surrogate_pair_char unit next) ++ units_text units
    else unit_text unit ++ units_text (next ∷ units)

-- the first character of a text
abbrev pub first_text : List ℕ → List ℕ
first_text [] = []
first_text (unit ∷ []) = unit_text unit
first_text (unit ∷ next ∷ units) =
    if is_pair unit next then encode_utf8 (surrogate_pair_char unit next) else unit_text unit

-- how many units spell it
abbrev pub first_length : List ℕ → ℕ
first_length [] = 0
first_length (unit ∷ []) = 1
first_length (unit ∷ next ∷ units) = if is_pair unit next then 2 else 1

abbrev pub quoted : List ℕ → List ℕ
quoted units = codes "\"" ++ units_text units ++ codes "\""

-- a byte that is not spelled as itself: a control character of ASCII, a quote or a backslash
abbrev pub is_escaped : ℕ → Bool
is_escaped byte = nat_lt byte 32 || (byte == 34 || (byte == 92 || byte == 127))

-- the text of a byte of UTF-8, in which each byte of a character beyond ASCII is spelled as itself
abbrev pub byte_text : ℕ → List ℕ
byte_text byte = if is_escaped byte then unit_text byte else byte ∷ []

-- whatever follows, the units are spelled as they are alone: they do not end within a pair
abbrev pub IsApart : List ℕ → Type 0
IsApart units = (rest : List ℕ) → units_text (units ++ rest) ≡ units_text units ++ units_text rest
