-- The checks on a PE file, in order. The headers and their fields are ECMA-335's; that 20B is taken
-- beside 10B, that 15 directories are enough, and the names, places and order of the checks are own.
use Rattle.std.specs.Prelude.{ℕ, ◌+◌, ◌*◌, ◌==◌, ◌||◌, nat_le, nat_eq, not, bit_and, codes, List, [], ◌∷◌, ◌++◌, length, drop, Option, is_some}
use Rattle.std.specs.List.{starts_with}
use Rattle.std.specs.Int.{w16, w32}
use Rattle.cli_words.specs.Check.{check}
use Rattle.cli_words.specs.declared.check.FailedCheck.{FailedCheck}
use Rattle.cli_words.specs.declared.check.CheckCode.TheVariants as CheckCode
use Rattle.cli_words.specs.Number.{number_at}
use Rattle.pe_image.specs.Section.{section_count, sections_place}
use Rattle.pe_image.specs.Layout.{signature_place, optional_place, optional_length, magic, directory_count_place, directory_place, cli_header, cli_place, metadata}

-- the file goes on to a place; else it is cut, which is told at its end
abbrev pub goes_to : List ℕ → ℕ → Option FailedCheck
goes_to bytes end = check (nat_le end (length bytes)) CheckCode.Cut (length bytes)

-- `MZ`, and `PE` with two zeros where the word at 3C says (II.25.2.1, II.25.2.2)
unfoldable pub header_checks : List ℕ → List (Option FailedCheck)
header_checks bytes =
    let signature = signature_place bytes in
    goes_to bytes 2
    ∷ check (starts_with nat_eq bytes (codes "MZ")) CheckCode.NoMz 0
    ∷ goes_to bytes 0x40
    ∷ goes_to bytes (signature + 24)
    ∷ check (starts_with nat_eq (drop signature bytes) (0x50 ∷ 0x45 ∷ 0 ∷ 0 ∷ [])) CheckCode.NoPe signature
    ∷ []

-- an optional header of either form, with a directory 14 whose RVA is not 0 (II.25.2.3)
unfoldable pub optional_checks : List ℕ → ℕ → List (Option FailedCheck)
optional_checks bytes signature =
    let optional = optional_place signature in
    let form = magic bytes signature in
    let count = directory_count_place bytes signature in
    let directory = directory_place bytes signature in
    let optional_size = number_at w16 bytes (signature + 20) in
    goes_to bytes (optional + 2)
    ∷ check ((form == 0x10B) || (form == 0x20B)) CheckCode.Magic optional
    ∷ check (nat_le (optional_length bytes signature) optional_size) CheckCode.NoCli (signature + 20)
    ∷ goes_to bytes (optional + optional_length bytes signature)
    ∷ check (nat_le 15 (number_at w32 bytes count)) CheckCode.NoCli count
    ∷ check (not (number_at w32 bytes directory == 0)) CheckCode.NoCli directory
    ∷ []

-- all section headers, and a section that holds the CLI header (II.25.3)
unfoldable pub cli_checks : List ℕ → ℕ → ℕ → ℕ → List (Option FailedCheck)
cli_checks bytes first count directory =
    goes_to bytes (first + 40 * count)
    ∷ check (is_some (cli_header bytes first count directory)) CheckCode.Outside directory
    ∷ []

-- a CLI header whose lowest flag says that all code is IL, and a section that holds the metadata
-- (II.25.3.3, II.25.3.3.1)
unfoldable pub metadata_checks : List ℕ → ℕ → ℕ → ℕ → List (Option FailedCheck)
metadata_checks bytes first count cli =
    goes_to bytes (cli + 24)
    ∷ check (bit_and (number_at w32 bytes (cli + 16)) 1 == 1) CheckCode.NotIlOnly (cli + 16)
    ∷ check (is_some (metadata bytes first count cli)) CheckCode.Outside (cli + 8)
    ∷ []

-- all checks on a file, down to the place of its metadata
abbrev pub pe_checks : List ℕ → List (Option FailedCheck)
pe_checks bytes =
    let signature = signature_place bytes in
    let directory = directory_place bytes signature in
    let first = sections_place bytes signature in
    let count = section_count bytes signature in
    let cli = cli_place bytes first count directory in
    header_checks bytes ++ (optional_checks bytes signature
    ++ (cli_checks bytes first count directory ++ metadata_checks bytes first count cli))
