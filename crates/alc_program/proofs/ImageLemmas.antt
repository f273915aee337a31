-- What a report can tell of the images that files read as.
use Rattle.std.proofs.Common.{◌≡◌, ◌⊎◌, ◌∙◌, ℕ, zero, suc, ◌+◌, ◌-◌, ◌/◌, ◌%◌, ◌<◌, ◌≤◌, ◌^◌, ◌&&◌, Bool, true, false, cond, List, [], ◌∷◌, length, Option, Some, None, refl, sym, ap, subst, inl, inr, arith}
use Rattle.std.specs.Prelude.{nat_le, nat_lt}
use Rattle.std.specs.Char.{IsScalar}
use Rattle.std.specs.Char.Escape.{encode_utf16}
use Rattle.std.specs.List.{AllByRecursion, flat_map, slice_get}
use Rattle.std.specs.Str.{chars}
use Rattle.std.proofs.Math.Utf8.{scalar, scalar_cases, scalars}
use Rattle.std.proofs.lemmas.Bool.{and_parts, cond_both, eqb-true, ltb-true}
use Rattle.std.proofs.lemmas.List.Elements.{All-append, All-cons, All-nil}
use Rattle.std.proofs.lemmas.Str.{scalars-chars}
use Rattle.cli_words.specs.Check.{check, first_fault}
use Rattle.cli_words.specs.declared.check.CheckCode.{CheckCode}
use Rattle.cli_words.specs.declared.check.CheckCode.TheVariants as code
use Rattle.cli_words.specs.declared.check.FailedCheck.{FailedCheck}
use Rattle.cli_words.specs.Text.{AreUnits}
use Rattle.cli_words.proofs.FirstFault.{both_none}
use Rattle.metadata_tables.specs.Columns.{column_of, columns_of}
use Rattle.metadata_tables.specs.declared.schema.Column.TheVariants.{Strings}
use Rattle.metadata_tables.specs.Layout.{count_of}
use Rattle.metadata_tables.specs.Tables as tables
use Rattle.assembly_image.specs.Checks.{all_rows_checks, has_assembly}
use Rattle.assembly_image.specs.Module.{Module, has_row}
use Rattle.assembly_image.specs.Names.{assembly_name, assembly_version}
use Rattle.assembly_image.specs.Reading.{FileReading, Reads, file_reading, heaps_of, image_checks, image_limit, reading_by, tables_of}
use Rattle.assembly_image.specs.Reading.FileReading.{Absent, TooLong, Refused as NoImage, Good}
use Rattle.assembly_image.proofs.Facts.{content_passes, same_count, text_inside}
use Rattle.host_script.specs.declared.images.ImageLine.{ImageLine}
use Rattle.host_script.specs.Worded.{IsWordedVersion}
use Rattle.alc_program.specs.Images.{AreRead}
use Rattle.alc_program.proofs.PlaceLemmas.{place_told}

-- what a report can tell of an image that reads so
abbrev pub IsToldReading : FileReading → Type 0
IsToldReading Absent = Unit {0}
IsToldReading TooLong = Unit {0}
IsToldReading (NoImage failed) = failed.at < 2 ^ 32
IsToldReading (Good m) = AreUnits (assembly_name m) × IsWordedVersion (assembly_version m)

abbrev IsUnit : ℕ → Type 0
IsUnit n = n < 2 ^ 16

top : (c : ℕ) → (c < 0xD800) ⊎ ((0xE000 ≤ c) × (c < 0x11_0000)) → c < 0x11_0000
top c (inl below) = omega arith
top c (inr within) = within.1

-- the units of a character
character_units : (c : ℕ) → IsScalar c → AreUnits (encode_utf16 c)
character_units c is_scalar =
    let range = top c (scalar_cases c is_scalar) in
    cond_both (nat_lt c 0x1_0000) _ _ AreUnits
    (λ low. All-cons IsUnit c [] (omega (arith, ltb-true c 0x1_0000 low)) (All-nil IsUnit))
    (λ beyond. All-cons IsUnit (0xD800 + (c - 0x1_0000) / 0x400) ((0xDC00 + (c - 0x1_0000) % 0x400) ∷ [])
    (omega (arith, range)) (All-cons IsUnit (0xDC00 + (c - 0x1_0000) % 0x400) [] (omega arith) (All-nil IsUnit)))

text_units : (cs : List ℕ) → scalars cs ≡ true → AreUnits (flat_map encode_utf16 cs)
text_units [] are = All-nil IsUnit
text_units (c ∷ cs) are =
    let parts = and_parts (scalar c) (scalars cs) are in
    All-append IsUnit (encode_utf16 c) (flat_map encode_utf16 cs) (character_units c parts.0) (text_units cs parts.1)

-- a check that passes, alone
passes : (b : Bool) (failed : CheckCode) (at : ℕ) → first_fault (check b failed at ∷ []) ≡ None → b ≡ true
passes true failed at is = refl
passes false failed at is = cc is

name_within : tables.assembly_name < length (columns_of tables.assembly)
unfolding columns_of
name_within = omega arith

name_strings : column_of tables.assembly tables.assembly_name ≡ Strings
unfolding columns_of
name_strings = refl

-- an image has one Assembly row
assembly_there : (bytes : List ℕ) (m : Module) → Reads bytes m → has_row m tables.assembly 1 ≡ true
assembly_there bytes m reads =
    let content = content_passes bytes m reads in
    let last = (both_none (all_rows_checks bytes (heaps_of bytes) (tables_of bytes)) _ content).1 in
    let has = passes (has_assembly bytes (heaps_of bytes) (tables_of bytes)) code.NoAssembly (heaps_of bytes).tables.at last in
    let one : count_of (tables_of bytes) tables.assembly ≡ 1 = eqb-true (count_of (tables_of bytes) tables.assembly) 1 (and_parts _ _ has).0 in
    ap (λ rows. nat_le 1 1 && nat_le 1 rows) (same_count bytes m reads tables.assembly (omega arith) ∙ one)

-- the name of an image is of units
name_told : (bytes : List ℕ) (m : Module) → Reads bytes m → AreUnits (assembly_name m)
name_told bytes m reads =
    let found = text_inside bytes m reads tables.assembly 1 tables.assembly_name (assembly_there bytes m reads) name_within name_strings in
    subst AreUnits (sym found.3) (text_units (chars found.0) (scalars-chars found.0 found.1))

-- a file that reads as a module has bytes that do
good_reads : (content : Option (List ℕ)) (m : Module) → Good m ≡ file_reading content → (bytes : List ℕ) × Reads bytes m
good_reads None m is = cc is
good_reads (Some bytes) m is = (bytes, at (nat_lt image_limit (length bytes)) is)
  where
    by_fault : (o : Option FailedCheck) → first_fault (image_checks bytes) ≡ o → Good m ≡ reading_by bytes o → Reads bytes m
    by_fault None passed is = record { passes = passed; holds = cc is }
    by_fault (Some failed) passed is = cc is

    at : (long : Bool) → Good m ≡ cond long TooLong (reading_by bytes (first_fault (image_checks bytes))) → Reads bytes m
    at true is = cc is
    at false is = by_fault (first_fault (image_checks bytes)) refl is

line_there : (lines : List (List ℕ × ImageLine)) (i : ℕ) → i < length lines → (line : List ℕ × ImageLine) × (slice_get lines i ≡ Some line)
line_there [] i within = absurd (omega arith)
line_there (line ∷ lines) zero within = (line, refl)
line_there (line ∷ lines) (suc i) within = line_there lines i (omega arith)

-- what is found at each place holds of each
each_found : {X : Type 0} (P : X → Type 0) (xs : List X) → ((i : ℕ) (x : X) → i < length xs → slice_get xs i ≡ Some x → P x) → AllByRecursion P xs
each_found P [] each = tt
each_found P (x ∷ xs) each = (each 0 x (omega arith) refl, each_found P xs (λ i y within found. each (suc i) y (omega (arith, within)) found))

-- What files read as is told.
pub images_told : (held : Option (List (List ℕ × List ℕ))) (lines : List (List ℕ × ImageLine)) (images : List FileReading) → AreRead held lines images →
    AllByRecursion IsToldReading images
images_told held lines images read = each_found IsToldReading images (λ i reading within found. at i within reading found)
  where
    reads : (i : ℕ) → i < length images → (reading : FileReading) → slice_get images i ≡ Some reading → (content : Option (List ℕ)) × (reading ≡ file_reading content)
    reads i within reading found =
        let line = line_there lines i (omega (arith, within, read.count)) in
        let read_as = read.each i line.0 reading line.1 found in
        (read_as.content, read_as.read)

    at : (i : ℕ) → i < length images → (reading : FileReading) → slice_get images i ≡ Some reading → IsToldReading reading
    at i within Absent found = tt
    at i within TooLong found = tt
    at i within (NoImage failed) found = let of = reads i within (NoImage failed) found in place_told of.0 failed of.1
    at i within (Good m) found =
        let of = reads i within (Good m) found in
        let bytes = good_reads of.0 m of.1 in
        (name_told bytes.0 m bytes.1, read.versions i m found)
