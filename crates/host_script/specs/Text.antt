-- Texts (own): characters between two quotes, with the escapes `\"`, `\\`, `\n` and `\u` with four hexadecimal digits.
use Rattle.std.specs.Prelude.{ℕ, ◌+◌, ◌-◌, ◌*◌, ◌%◌, Bool, true, false, ◌&&◌, ◌==◌, nat_le, List, [], ◌∷◌, ◌++◌, Option, Some, None, if◌then◌else◌, chars}
use Rattle.std.specs.Str.{is_utf8}
use Rattle.std.specs.Char.Escape.{encode_utf16}
use Rattle.host_script.specs.declared.text.TextPlace.{TextPlace}
use Rattle.host_script.specs.declared.text.TextPlace.TheVariants.{Opening, Open, Escape, Digit, Closed, Bad}

-- the value of a hexadecimal digit, of either case
abbrev pub hex_digit : ℕ → Option ℕ
hex_digit c =
    if nat_le 48 c && nat_le c 57 then Some (c - 48)
    else (if nat_le 65 c && nat_le c 70 then Some (c - 65 + 10)
    else (if nat_le 97 c && nat_le c 102 then Some (c - 97 + 10)
    else None))

-- the value of hexadecimal digits with one more; a unit has four
abbrev pub unit_with : ℕ → ℕ → ℕ
unit_with value digit = value % 0x1000 * 16 + digit

-- what is due after the character that follows a backslash
abbrev pub after_escape : ℕ → TextPlace
after_escape c =
    if c == 34 then Open
    else (if c == 92 then Open
    else (if c == 110 then Open
    else (if c == 117 then Digit 3 0 else Bad)))

-- what is due after a character that is to be a digit, so many more being due
abbrev pub place_after_digit : ℕ → ℕ → Option ℕ → TextPlace
place_after_digit more value None = Bad
place_after_digit more value (Some digit) = if more == 0 then Open else Digit (more - 1) (unit_with value digit)

abbrev pub after_digit : ℕ → ℕ → ℕ → TextPlace
after_digit more value c = place_after_digit more value (hex_digit c)

-- what is due after a character
abbrev pub place_after : TextPlace → ℕ → TextPlace
place_after Opening c = if c == 34 then Open else Bad
place_after Open c = if c == 34 then Closed else (if c == 92 then Escape else Open)
place_after Escape c = after_escape c
place_after (Digit more value) c = after_digit more value c
place_after Closed c = Bad
place_after Bad c = Bad

-- the unit that the character after a backslash spells
abbrev pub escaped : ℕ → List ℕ
escaped c = if c == 34 then 34 ∷ [] else (if c == 92 then 92 ∷ [] else (if c == 110 then 10 ∷ [] else []))

-- the unit that digits spell, the last of which is this one
abbrev pub unit_of_digits : ℕ → Option ℕ → List ℕ
unit_of_digits value None = []
unit_of_digits value (Some digit) = unit_with value digit ∷ []

abbrev pub last_digit : ℕ → ℕ → List ℕ
last_digit value c = unit_of_digits value (hex_digit c)

-- the units that a character spells where it stands
abbrev pub spelled : TextPlace → ℕ → List ℕ
spelled Opening c = []
spelled Open c = if c == 34 then [] else (if c == 92 then [] else encode_utf16 c)
spelled Escape c = escaped c
spelled (Digit more value) c = if more == 0 then last_digit value c else []
spelled Closed c = []
spelled Bad c = []

-- what is due after all characters, and what they spell
abbrev pub end_place : TextPlace → List ℕ → TextPlace
end_place place [] = place
end_place place (c ∷ cs) = end_place (place_after place c) cs

abbrev pub units_from : TextPlace → List ℕ → List ℕ
units_from place [] = []
units_from place (c ∷ cs) = spelled place c ++ units_from (place_after place c) cs

abbrev pub is_closed : TextPlace → Bool
is_closed Closed = true
is_closed Opening = false
is_closed Open = false
is_closed Escape = false
is_closed (Digit more value) = false
is_closed Bad = false

-- the units of the text that the bytes are in UTF-8: the last character closes it
abbrev pub text_in : List ℕ → Option (List ℕ)
text_in bytes =
    if is_closed (end_place Opening (chars bytes)) then Some (units_from Opening (chars bytes)) else None

-- the units of the text that a word is
abbrev pub text_of : List ℕ → Option (List ℕ)
text_of word = if is_utf8 word then text_in word else None
