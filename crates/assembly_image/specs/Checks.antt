-- The checks on the rows of an image, in order: over the tables in rising order, in each over its rows, in
-- each row over its columns from the left (ECMA-335 II.22, II.24.2; the codes and their order are own).
use Rattle.std.specs.Prelude.{ℕ, ◌+◌, ◌-◌, ◌*◌, Bool, true, false, not, ◌&&◌, ◌==◌, nat_lt, nat_le, List, [], ◌∷◌, ◌++◌, length, Option, Some, None, is_some, if◌then◌else◌}
use Rattle.std.specs.List.{flat_map, range_with_len}
use Rattle.std.specs.Str.{is_utf8}
use Rattle.cli_words.specs.declared.check.FailedCheck.{FailedCheck}
use Rattle.cli_words.specs.Check.{check}
use Rattle.cli_words.specs.declared.check.CheckCode.{CheckCode}
use Rattle.cli_words.specs.declared.check.CheckCode.TheVariants as code
use Rattle.cli_words.specs.declared.span.Span.{Span}
use Rattle.meta_heaps.specs.declared.heap.Root.{Root}
use Rattle.cli_words.specs.Span.{cut}
use Rattle.meta_heaps.specs.Heaps.{string_at, blob_at}
use Rattle.metadata_tables.specs.declared.layout.Layout.{Layout}
use Rattle.metadata_tables.specs.declared.schema.Column.{Column}
use Rattle.metadata_tables.specs.declared.schema.Column.TheVariants.{U8, U16, U32, Strings, Guid, Blob, Table, List as ListColumn, Coded}
use Rattle.metadata_tables.specs.Columns.{columns_of, target_of, column_of}
use Rattle.metadata_tables.specs.Tables as tables
use Rattle.metadata_tables.specs.Layout.{count_of, column_at}
use Rattle.assembly_image.specs.Cells.{bytes_in, value_at}

-- how many bytes the longest string has, without its zero (own)
abbrev pub longest_string : ℕ
longest_string = 1023

-- the row that a coded index names is 0 or one of its table's
abbrev pub has_target : Layout → Option (ℕ × ℕ) → Bool
has_target layout None = false
has_target layout (Some target) = nat_le target.1 (count_of layout target.0)

-- an index is in its heap, and its blob is whole; a row is one of its table's or 0; a tag is in use
abbrev pub is_inside : List ℕ → Root → Layout → Column → ℕ → Bool
is_inside bytes root layout U8 value = true
is_inside bytes root layout U16 value = true
is_inside bytes root layout U32 value = true
is_inside bytes root layout Strings index = nat_lt index root.strings.len
is_inside bytes root layout Guid index = nat_le (16 * index) root.guids.len
is_inside bytes root layout Blob index = is_some (blob_at bytes root.blobs index)
is_inside bytes root layout (Table table) row = nat_le row (count_of layout table)
is_inside bytes root layout (ListColumn table) row = true
is_inside bytes root layout (Coded index) value = has_target layout (target_of index value)

-- a list begins at a row of its table or right after the last, and not before the list of the row before
abbrev pub is_in_order : Layout → Column → ℕ → ℕ → Bool
is_in_order layout (ListColumn table) before row =
    nat_le 1 row && (nat_le row (count_of layout table + 1) && nat_le before row)
is_in_order layout U8 before value = true
is_in_order layout U16 before value = true
is_in_order layout U32 before value = true
is_in_order layout Strings before value = true
is_in_order layout Guid before value = true
is_in_order layout Blob before value = true
is_in_order layout (Table table) before value = true
is_in_order layout (Coded index) before value = true

-- a string ends with a zero, is not too long, and is UTF-8
abbrev pub is_string : List ℕ → Option Span → Bool
is_string bytes None = false
is_string bytes (Some span) = nat_le span.len longest_string && is_utf8 (cut bytes span)

abbrev pub is_text : List ℕ → Root → Column → ℕ → Bool
is_text bytes root Strings index = is_string bytes (string_at bytes root.strings index)
is_text bytes root U8 value = true
is_text bytes root U16 value = true
is_text bytes root U32 value = true
is_text bytes root Guid value = true
is_text bytes root Blob value = true
is_text bytes root (Table table) value = true
is_text bytes root (ListColumn table) value = true
is_text bytes root (Coded index) value = true

-- what stands in a column of the row before; for the first row 0
abbrev pub value_before : List ℕ → Layout → ℕ → ℕ → ℕ → ℕ
value_before bytes layout table n k = if n == 1 then 0 else value_at bytes layout table (n - 1) k

-- a check that fails at a place
abbrev pub failed_at : ℕ → CheckCode → FailedCheck
failed_at at failed = record { code = failed; at = at }

-- the checks of what stands in a column, with the place of which they speak
abbrev pub value_checks : List ℕ → Root → Layout → Column → ℕ → ℕ → ℕ → List (Option FailedCheck)
value_checks bytes root layout column before value at =
    check (is_inside bytes root layout column value) code.Index at
    ∷ check (is_in_order layout column before value) code.List at
    ∷ check (is_text bytes root column value) code.Text at
    ∷ []

abbrev pub column_checks : List ℕ → Root → Layout → ℕ → ℕ → ℕ → List (Option FailedCheck)
column_checks bytes root layout table n k =
    value_checks bytes root layout (column_of table k)
    (value_before bytes layout table n k) (value_at bytes layout table n k) (column_at layout table n k)

abbrev pub row_checks : List ℕ → Root → Layout → ℕ → ℕ → List (Option FailedCheck)
row_checks bytes root layout table n =
    flat_map (column_checks bytes root layout table n) (range_with_len 0 (length (columns_of table)))

abbrev pub table_checks : List ℕ → Root → Layout → ℕ → List (Option FailedCheck)
table_checks bytes root layout table =
    flat_map (row_checks bytes root layout table) (range_with_len 1 (count_of layout table))

abbrev pub all_rows_checks : List ℕ → Root → Layout → List (Option FailedCheck)
all_rows_checks bytes root layout = flat_map (table_checks bytes root layout) (range_with_len 0 45)

-- the bytes of the assembly's name (II.22.2)
abbrev pub name_bytes : List ℕ → Root → Layout → List ℕ
name_bytes bytes root layout = bytes_in bytes (string_at bytes root.strings
    (value_at bytes layout tables.assembly 1 tables.assembly_name))

-- one Assembly row with a name that is not empty, a Module row and a TypeDef row (II.22.2, II.22.30,
-- II.22.37; that a file without an Assembly row is refused, and one with more Module rows taken, is own)
abbrev pub has_assembly : List ℕ → Root → Layout → Bool
has_assembly bytes root layout =
    count_of layout tables.assembly == 1
    && (not (length (name_bytes bytes root layout) == 0)
    && (nat_le 1 (count_of layout tables.«module») && nat_le 1 (count_of layout tables.type_def)))

-- all checks of the rows, and then that there is an assembly, at the stream of the tables
abbrev pub content_checks : List ℕ → Root → Layout → List (Option FailedCheck)
content_checks bytes root layout =
    all_rows_checks bytes root layout ++ check (has_assembly bytes root layout) code.NoAssembly root.tables.at ∷ []
