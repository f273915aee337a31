-- What the reader takes from the front of a text where a field of one word begins (own: the reader's view).
-- Each gives the value, and what stands behind the one space that follows.
use Rattle.std.specs.Prelude.{ℕ, ℤ, ◌+◌, ◌-◌, ◌*◌, ◌^◌, Bool, ◌&&◌, ◌==◌, nat_le, nat_lt, List, [], ◌∷◌, length, Option, Some, None, if◌then◌else◌}
use Rattle.std.specs.Char.{digit_value}
use Rattle.std.specs.Int.{Width, w32, w64}
use Rattle.std.specs.Int.Signed.{mag}
use Rattle.std.specs.List.{before_first, after_first, list_all}
use Rattle.std.specs.Option.{option_map}
use Rattle.std.specs.Str.{is_utf8}
use Rattle.std.specs.Str.Parse.{without_leading_plus, without_leading_sign, digits_value, signed_digits_value}
use mir.Val.{hbits}
use Rattle.assembly_name.specs.declared.version.Version.{Version}
use Rattle.cli_words.specs.Name.{is_name}
use Rattle.host_report.specs.Reading.{then_read}

-- what stands before the first such byte, and behind it; where there is none: all, and nothing
abbrev pub cut_read : ℕ → List ℕ → List ℕ × List ℕ
cut_read byte text = (before_first (λ other. other == byte) text, after_first (λ other. other == byte) text)

-- the same of the first space
abbrev pub word_read : List ℕ → List ℕ × List ℕ
word_read text = cut_read 32 text

-- the value that a word has, with what stands behind it
abbrev pub valued : {V : Type 0} → (List ℕ → Option V) → List ℕ × List ℕ → Option (V × List ℕ)
valued value parts = option_map (λ read. (read, parts.1)) (value parts.0)

-- one decimal digit or more, and nothing else
abbrev pub is_numeral : List ℕ → Bool
is_numeral digits = nat_lt 0 (length digits) && list_all (λ byte. nat_lt (digit_value byte) 10) digits

-- the number of at most so many bits whose digits these are, maybe after a plus
abbrev pub parsed : ℕ → List ℕ → Option ℕ
parsed bits text =
    if is_utf8 text && (is_numeral (without_leading_plus text)
    && nat_lt (digits_value 10 (without_leading_plus text)) (2 ^ bits))
    then Some (digits_value 10 (without_leading_plus text)) else None

-- the signed number of the width whose digits these are, maybe after a sign
abbrev pub signed_parsed : Width → List ℕ → Option ℤ
signed_parsed width text =
    if is_utf8 text && (is_numeral (without_leading_sign text)
    && nat_lt (mag (signed_digits_value 10 text)) (2 ^ hbits width))
    then Some (signed_digits_value 10 text) else None

abbrev pub number_read : List ℕ → Option (ℕ × List ℕ)
number_read text = valued (parsed 32) (word_read text)

abbrev pub signed_read : Width → List ℕ → Option (ℤ × List ℕ)
signed_read width text = valued (signed_parsed width) (word_read text)

abbrev pub int_read : List ℕ → Option (ℤ × List ℕ)
int_read text = signed_read w32 text

abbrev pub long_read : List ℕ → Option (ℤ × List ℕ)
long_read text = signed_read w64 text

abbrev pub named_by : List ℕ → Option (List ℕ)
named_by bytes = if is_name bytes then Some bytes else None

-- a name is its bytes
abbrev pub name_read : List ℕ → Option (List ℕ × List ℕ)
name_read text = valued named_by (word_read text)

-- a part of a version, which a dot ends
abbrev pub part_read : List ℕ → Option (ℕ × List ℕ)
part_read text = valued (parsed 16) (cut_read 46 text)

-- the version that a word tells, whatever follows its fourth part
abbrev pub version_of : List ℕ → Option Version
version_of text =
    then_read (part_read text) (λ major text.
    then_read (part_read text) (λ minor text.
    then_read (part_read text) (λ build text.
    then_read (part_read text) (λ revision text.
    Some (record { major = major; minor = minor; build = build; revision = revision })))))

abbrev pub version_read : List ℕ → Option (Version × List ℕ)
version_read text = valued version_of (word_read text)

-- two readings in one
abbrev pub both : {A B C : Type 0} → (A → B → C) → Option A → Option B → Option C
both join (Some a) (Some b) = Some (join a b)
both join _ _ = None

-- an upper-case hexadecimal digit
abbrev pub digit_read : ℕ → Option ℕ
digit_read byte =
    if nat_le 48 byte && nat_le byte 57 then Some (byte - 48)
    else if nat_le 65 byte && nat_le byte 70 then Some (byte - 55)
    else None

abbrev pub two_digits : ℕ → ℕ → Option ℕ
two_digits a b = both (λ high low. high * 16 + low) (digit_read a) (digit_read b)

abbrev pub four_digits_read : ℕ → ℕ → ℕ → ℕ → Option ℕ
four_digits_read a b c d = both (λ high low. high * 256 + low) (two_digits a b) (two_digits c d)

abbrev pub token_of : List ℕ → Option ℕ
token_of (a ∷ b ∷ c ∷ d ∷ e ∷ f ∷ g ∷ h ∷ []) =
    both (λ high low. high * 0x1_0000 + low) (four_digits_read a b c d) (four_digits_read e f g h)
token_of _ = None

abbrev pub token_read : List ℕ → Option (ℕ × List ℕ)
token_read text = valued token_of (word_read text)
