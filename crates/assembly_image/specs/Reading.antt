-- The reading of an image: the module that bytes are, or the first check that they fail (ECMA-335 II.22 to
-- II.25).
use Rattle.std.specs.Prelude.{ℕ, ◌≡◌, List, ◌++◌, map, length, nat_lt, Option, Some, None, if◌then◌else◌}
use Rattle.std.specs.List.{range_with_len}
use Rattle.cli_words.specs.declared.check.FailedCheck.{FailedCheck}
use Rattle.cli_words.specs.Check.{first_fault}
use Rattle.cli_words.specs.declared.span.Span.{Span}
use Rattle.pe_image.specs.Checks.{pe_checks}
use Rattle.pe_image.specs.Reading.{pe_of}
use Rattle.meta_heaps.specs.declared.heap.Root.{Root}
use Rattle.cli_words.specs.Span.{cut}
use Rattle.meta_heaps.specs.Reading.{root_checks, root_of}
use Rattle.metadata_tables.specs.declared.layout.Layout.{Layout}
use Rattle.metadata_tables.specs.Reading.{layout_of, checks as stream_checks}
use Rattle.assembly_image.specs.Module.{Module}
use Rattle.assembly_image.specs.Cells.{rows_of}
use Rattle.assembly_image.specs.Checks.{content_checks}

-- where the metadata lies
unfoldable pub metadata_of : List ℕ → Span
metadata_of bytes = record { at = (pe_of bytes).root_at; len = (pe_of bytes).root_len }

-- its streams
unfoldable pub heaps_of : List ℕ → Root
heaps_of bytes = root_of bytes (metadata_of bytes)

-- its tables
unfoldable pub tables_of : List ℕ → Layout
tables_of bytes = layout_of bytes (heaps_of bytes).tables.at

-- all checks, in their order: each speaks of places that those before it have shown to be there
abbrev pub image_checks : List ℕ → List (Option FailedCheck)
image_checks bytes =
    pe_checks bytes
    ++ (root_checks bytes (metadata_of bytes)
    ++ (stream_checks bytes (heaps_of bytes).tables
    ++ content_checks bytes (heaps_of bytes) (tables_of bytes)))

-- what the bytes hold
abbrev pub module_in : List ℕ → Root → Layout → Module
module_in bytes root layout = record {
  tables = map (rows_of bytes root layout) (range_with_len 0 45);
  user_strings = cut bytes root.user_strings;
  guids = cut bytes root.guids;
}

unfoldable pub module_of : List ℕ → Module
module_of bytes = module_in bytes (heaps_of bytes) (tables_of bytes)

-- the bytes pass every check, and this is the module that they hold
pub record Reads (bytes : List ℕ) (m : Module) : Type 0 where
  pub passes : first_fault (image_checks bytes) ≡ None
  pub holds : m ≡ module_of bytes

-- this is the first check that the bytes fail
abbrev pub IsRefused : List ℕ → FailedCheck → Type 0
IsRefused bytes failed = first_fault (image_checks bytes) ≡ Some failed

-- the reading of a file that is to be an image: there is none, it is too long, it is refused, or it is a
-- module
pub data FileReading : Type 0 where
  Absent : FileReading
  TooLong : FileReading
  Refused : FailedCheck → FileReading
  Good : Module → FileReading

-- the most bytes of an image (own)
abbrev pub image_limit : ℕ
image_limit = 4194304

abbrev pub reading_by : List ℕ → Option FailedCheck → FileReading
reading_by bytes None = Good (module_of bytes)
reading_by bytes (Some failed) = Refused failed

-- the reading of bytes, and of a file by the bytes that it holds, if there is such a file
abbrev pub reading_of : List ℕ → FileReading
reading_of bytes =
    if nat_lt image_limit (length bytes) then TooLong else reading_by bytes (first_fault (image_checks bytes))

abbrev pub file_reading : Option (List ℕ) → FileReading
file_reading None = Absent
file_reading (Some bytes) = reading_of bytes
