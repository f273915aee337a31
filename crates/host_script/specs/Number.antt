-- Versions and numbers (own).
use Rattle.std.specs.Prelude.{ℕ, ◌+◌, ◌-◌, ◌*◌, ◌^◌, Bool, not, ◌&&◌, ◌==◌, nat_le, List, [], ◌∷◌, length, take, drop, slice_index, Option, Some, None, if◌then◌else◌, fold, ℤ, pos, negsuc}
use Rattle.std.specs.Char.{is_ascii_digit}
use Rattle.std.specs.List.{list_all, slice_split}
use Rattle.assembly_name.specs.declared.version.Version.{Version}
use Rattle.host_script.specs.Bytes.{is_empty, begins_with}
use Rattle.host_script.specs.declared.command.Argument.{Argument}
use Rattle.host_script.specs.declared.command.Argument.TheVariants.{I4, I8}

-- some digits, and nothing else
abbrev pub are_digits : List ℕ → Bool
are_digits bytes = not (is_empty bytes) && list_all is_ascii_digit bytes

-- the number that decimal digits write
abbrev pub digits_value : List ℕ → ℕ
digits_value digits = fold (λ value b. value * 10 + (b - 48)) 0 digits

-- a part of a version: a number of 16 bits, with any count of leading zeros
abbrev pub part_of : List ℕ → Option ℕ
part_of digits =
    if are_digits digits && nat_le (digits_value digits) 65535 then Some (digits_value digits) else None

abbrev pub version : Option ℕ → Option ℕ → Option ℕ → Option ℕ → Option Version
version (Some major) (Some minor) (Some build) (Some revision) =
    Some (record { major = major; minor = minor; build = build; revision = revision })
version _ _ _ _ = None

abbrev pub version_in : List (List ℕ) → Option Version
version_in (a ∷ b ∷ c ∷ d ∷ []) = version (part_of a) (part_of b) (part_of c) (part_of d)
version_in _ = None

-- four numbers parted by dots
abbrev pub version_of : List ℕ → Option Version
version_of word = version_in (slice_split (λ b. b == 46) word)

-- what follows the minus that may stand first
abbrev pub unsigned_part : List ℕ → List ℕ
unsigned_part word = if begins_with 45 word then drop 1 word else word

-- the last byte is `L`
abbrev pub is_wide : List ℕ → Bool
is_wide word = slice_index word (length word - 1) == 76

abbrev pub digits_of : List ℕ → List ℕ
digits_of word = if is_wide word then take (length word - 1) word else word

-- the greatest number that the digits can write: int64 with a last `L`, else int32, one more after a minus
abbrev pub greatest : Bool → Bool → ℕ
greatest minus wide =
    (if wide then 2 ^ 63 - 1 else 2 ^ 31 - 1) + (if minus then 1 else 0)

abbrev pub signed : Bool → ℕ → ℤ
signed minus value = if minus && nat_le 1 value then negsuc (value - 1) else pos value

abbrev pub integer : Bool → Bool → ℕ → Argument
integer minus wide value = if wide then I8 (signed minus value) else I4 (signed minus value)

abbrev pub integer_from : Bool → Bool → List ℕ → Option Argument
integer_from minus wide digits =
    if are_digits digits && nat_le (length digits) 19 && nat_le (digits_value digits) (greatest minus wide)
    then Some (integer minus wide (digits_value digits))
    else None

-- a minus or none, 1 to 19 digits, and a last `L` or none, in range
abbrev pub integer_of : List ℕ → Option Argument
integer_of word =
    integer_from (begins_with 45 word) (is_wide (unsigned_part word)) (digits_of (unsigned_part word))
