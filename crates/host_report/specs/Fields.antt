-- The language of reports: a line is a list of fields, each after one space but the first (own). Each field
-- ends where it ends, since only a quoted text has spaces, and it ends with a quote that is not escaped.
use Rattle.std.specs.Prelude.{ℕ, ℤ, ◌^◌, ◌<◌, ◌/◌, ◌%◌, true, List, [], ◌∷◌, ◌++◌, drop, codes, decimal, FitsSigned}
use Rattle.std.specs.Fmt.{signed_decimal, digit_glyph}
use Rattle.std.specs.Int.{Width}
use Rattle.std.specs.List.{flat_map, AllByRecursion}
use Rattle.assembly_name.specs.declared.version.Version.{Version}
use Rattle.cli_words.specs.Name.{IsName}
use Rattle.cli_words.specs.Text.{AreUnits}
use Rattle.signatures.specs.declared.key.KeyPart.{KeyPart}
use Rattle.signatures.specs.Keys.{IsTypeKey}
use Rattle.host_report.specs.KeyText.{key_text, AreKeyNumbers}
use Rattle.host_report.specs.Quote.{quoted}

pub data Field : Type 0 where
  -- these bytes, always
  Word : List ℕ → Field
  -- a number of 32 bits in decimal digits
  Number : ℕ → Field
  -- any count of numbers, each after one space
  Numbers : List ℕ → Field
  -- a signed number of the width in decimal digits
  Signed : Width → ℤ → Field
  -- a name of a context or of a handle
  Named : List ℕ → Field
  -- a text of any UTF-16 units
  Quoted : List ℕ → Field
  Versioned : Version → Field
  -- a closed type
  Key : List KeyPart → Field
  -- a token in eight hexadecimal digits
  Token : ℕ → Field

-- four numbers parted by dots
abbrev pub version_text : Version → List ℕ
version_text v =
    decimal v.major ++ codes "." ++ decimal v.minor ++ codes "." ++ decimal v.build ++ codes "."
    ++ decimal v.revision

-- two upper-case hexadecimal digits
abbrev pub byte_digits : ℕ → List ℕ
byte_digits byte = digit_glyph true (byte / 16) ∷ digit_glyph true (byte % 16) ∷ []

-- eight upper-case hexadecimal digits
abbrev pub token_text : ℕ → List ℕ
token_text token =
    byte_digits (token / 2 ^ 24) ++ byte_digits (token / 2 ^ 16 % 256) ++ byte_digits (token / 2 ^ 8 % 256)
    ++ byte_digits (token % 256)

-- a text after one space
abbrev pub spaced : List ℕ → List ℕ
spaced text = codes " " ++ text

-- a field, with the space before it
abbrev pub field_text : Field → List ℕ
field_text (Field.Word word) = spaced word
field_text (Field.Number number) = spaced (decimal number)
field_text (Field.Numbers numbers) = flat_map (λ number. spaced (decimal number)) numbers
field_text (Field.Signed width number) = spaced (signed_decimal number)
field_text (Field.Named name) = spaced name
field_text (Field.Quoted units) = spaced (quoted units)
field_text (Field.Versioned version) = spaced (version_text version)
field_text (Field.Key key) = spaced (key_text key)
field_text (Field.Token token) = spaced (token_text token)

-- fields, each with the space before it
abbrev pub fields_text : List Field → List ℕ
fields_text [] = []
fields_text (field ∷ fields) = field_text field ++ fields_text fields

-- the fields of a line, which begins with no space
abbrev pub front_text : List Field → List ℕ
front_text fields = drop 1 (fields_text fields)

abbrev pub line_text : List Field → List ℕ
line_text fields = front_text fields ++ codes "\n"

-- a value that a field can have
abbrev pub IsField : Field → Type 0
IsField (Field.Word word) = Unit {0}
IsField (Field.Number number) = number < 2 ^ 32
IsField (Field.Numbers numbers) = AllByRecursion (λ number. number < 2 ^ 32) numbers
IsField (Field.Signed width number) = FitsSigned width number
IsField (Field.Named name) = IsName name
IsField (Field.Quoted units) = AreUnits units
IsField (Field.Versioned version) =
    (version.major < 2 ^ 16) × (version.minor < 2 ^ 16) × (version.build < 2 ^ 16)
    × (version.revision < 2 ^ 16)
IsField (Field.Key key) = IsTypeKey key × AreKeyNumbers key
IsField (Field.Token token) = token < 2 ^ 32

abbrev pub AreFields : List Field → Type 0
AreFields fields = AllByRecursion IsField fields
