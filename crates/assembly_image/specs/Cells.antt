-- The rows of a module as the bytes hold them: each is cut from the tables, and its texts and blobs from
-- the heaps (ECMA-335 II.24.2.3, II.24.2.4, II.24.2.6).
use Rattle.std.specs.Prelude.{ℕ, Bool, true, false, List, [], length, map, slice_index, Option, Some, None}
use Rattle.std.specs.List.{range_with_len}
use Rattle.cli_words.specs.Text.{units_of}
use Rattle.cli_words.specs.declared.span.Span.{Span}
use Rattle.meta_heaps.specs.declared.heap.Root.{Root}
use Rattle.cli_words.specs.Span.{cut}
use Rattle.meta_heaps.specs.Heaps.{string_at, blob_at}
use Rattle.metadata_tables.specs.declared.layout.Layout.{Layout}
use Rattle.metadata_tables.specs.declared.schema.Column.{Column}
use Rattle.metadata_tables.specs.declared.schema.Column.TheVariants.{U8, U16, U32, Strings, Guid, Blob, Table, List as ListColumn, Coded}
use Rattle.metadata_tables.specs.Columns.{columns_of, column_of}
use Rattle.metadata_tables.specs.Layout.{count_of, row_at, value_of}
use Rattle.assembly_image.specs.Module.{Cell}
use Rattle.assembly_image.specs.Module.Cell.{Number, Text, Bytes}

-- the bytes of an entry, where there is one
abbrev pub bytes_in : List ℕ → Option Span → List ℕ
bytes_in bytes None = []
bytes_in bytes (Some span) = cut bytes span

-- what a column of this kind holds by the number that stands in it
abbrev pub cell_of : List ℕ → Root → Column → ℕ → Cell
cell_of bytes root Strings index = Text (units_of (bytes_in bytes (string_at bytes root.strings index)))
cell_of bytes root Blob index = Bytes (bytes_in bytes (blob_at bytes root.blobs index))
cell_of bytes root U8 value = Number value
cell_of bytes root U16 value = Number value
cell_of bytes root U32 value = Number value
cell_of bytes root Guid index = Number index
cell_of bytes root (Table table) row = Number row
cell_of bytes root (ListColumn table) row = Number row
cell_of bytes root (Coded index) value = Number value

-- a column of this kind holds a number
abbrev pub holds_number : Column → Bool
holds_number Strings = false
holds_number Blob = false
holds_number U8 = true
holds_number U16 = true
holds_number U32 = true
holds_number Guid = true
holds_number (Table table) = true
holds_number (ListColumn table) = true
holds_number (Coded index) = true

-- a column of this kind holds a text
abbrev pub holds_text : Column → Bool
holds_text Strings = true
holds_text Blob = false
holds_text U8 = false
holds_text U16 = false
holds_text U32 = false
holds_text Guid = false
holds_text (Table table) = false
holds_text (ListColumn table) = false
holds_text (Coded index) = false

-- a column of this kind holds a blob
abbrev pub holds_blob : Column → Bool
holds_blob Blob = true
holds_blob Strings = false
holds_blob U8 = false
holds_blob U16 = false
holds_blob U32 = false
holds_blob Guid = false
holds_blob (Table table) = false
holds_blob (ListColumn table) = false
holds_blob (Coded index) = false

-- the number that stands in a column of a row
abbrev pub value_at : List ℕ → Layout → ℕ → ℕ → ℕ → ℕ
value_at bytes layout table n k = value_of bytes layout table (row_at layout table n) k

abbrev pub cell_at : List ℕ → Root → Layout → ℕ → ℕ → ℕ → Cell
cell_at bytes root layout table n k = cell_of bytes root (column_of table k) (value_at bytes layout table n k)

-- the columns of a row, from the left
abbrev pub cells_of : List ℕ → Root → Layout → ℕ → ℕ → List Cell
cells_of bytes root layout table n =
    map (cell_at bytes root layout table n) (range_with_len 0 (length (columns_of table)))

-- the rows of a table, which are counted from 1
abbrev pub rows_of : List ℕ → Root → Layout → ℕ → List (List Cell)
rows_of bytes root layout table =
    map (cells_of bytes root layout table) (range_with_len 1 (count_of layout table))

-- the number in a column of a row that is there; 0 where there is none
abbrev pub value_in : Option (List ℕ) → ℕ → ℕ
value_in None k = 0
value_in (Some row) k = slice_index row k
