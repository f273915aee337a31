-- How the cells of rows are written: a heap of strings, a heap of blobs, and the rows, whose columns say
-- where their texts and blobs stand in the heaps (ECMA-335 II.24.2.3, II.24.2.4, II.24.2.6). That each
-- text and each blob is written anew for its cell, and that empty ones stand at 0, is own.
use Rattle.std.specs.Prelude.{ℕ, ◌+◌, ◌/◌, ◌%◌, ◌≡◌, ◌&&◌, ◌^◌, Bool, true, false, nat_lt, nat_le, List, [], ◌∷◌, ◌++◌, length, if◌then◌else◌}
use Rattle.std.specs.Int.{w16, w32, to_le_bytes}
use Rattle.std.specs.List.{flat_map, list_all, range_with_len, zip}
use Rattle.std.specs.Str.{is_utf8}
use Rattle.metadata_tables.specs.declared.layout.Layout.{Layout}
use Rattle.metadata_tables.specs.declared.layout.Width.{Width}
use Rattle.metadata_tables.specs.declared.layout.Width.TheVariants.{One, Two, Four}
use Rattle.metadata_tables.specs.declared.schema.Column.{Column}
use Rattle.metadata_tables.specs.declared.schema.Column.TheVariants.{U8, U16, U32, Strings, Guid, Blob, Table, List as ListColumn, Coded}
use Rattle.metadata_tables.specs.Columns.{columns_of}
use Rattle.metadata_tables.specs.Layout.{width_of}
use Rattle.image_maker.specs.declared.module.Cell.{Cell}
use Rattle.image_maker.specs.declared.module.MethodRow.{MethodRow}
use Rattle.image_maker.specs.declared.writer.Writer.{Writer}
use Rattle.image_maker.specs.File.{bodies_bytes}
use Rattle.image_maker.specs.Sound.{has_no_zero}
use Rattle.image_maker.specs.Size.{name_limit}
use Rattle.image_maker.specs.declared.module.Cell.TheVariants.{Number, Text, Bytes}

-- cells in the order in which they are written, each with its column
abbrev pub Cells : Type 0
Cells = List (Column × Cell)

-- the cells of a row of a table
abbrev pub row_cells : ℕ → List Cell → Cells
row_cells table row = zip (columns_of table) row

-- those of the rows of a table
abbrev pub table_cells : ℕ → List (List Cell) → Cells
table_cells table rows = flat_map (row_cells table) rows

-- those of the tables below one
abbrev pub cells_below : (ℕ → List (List Cell)) → ℕ → Cells
cells_below rows end = flat_map (λ table. table_cells table (rows table)) (range_with_len 0 end)

-- the shortest spelling of a length below 2^29 (II.23.2)
abbrev pub compressed : ℕ → List ℕ
compressed n =
    if nat_lt n 0x80 then n ∷ []
    else (if nat_lt n 0x4000 then (0x80 + n / 0x100) ∷ n % 0x100 ∷ []
    else (0xC0 + n / 0x1000000) % 0x100 ∷ n / 0x10000 % 0x100 ∷ n / 0x100 % 0x100 ∷ n % 0x100 ∷ [])

-- what a cell adds to the heap of strings: a text and its zero, nothing where it is empty
abbrev pub string_part : Column × Cell → List ℕ
string_part (column, Text []) = []
string_part (column, Text (b ∷ bytes)) = (b ∷ bytes) ++ 0 ∷ []
string_part (column, Number value) = []
string_part (column, Bytes bytes) = []

-- what a cell adds to the heap of blobs: its length and its bytes, nothing where it is empty
abbrev pub blob_part : Column × Cell → List ℕ
blob_part (column, Bytes []) = []
blob_part (column, Bytes (b ∷ bytes)) = compressed (length (b ∷ bytes)) ++ b ∷ bytes
blob_part (column, Number value) = []
blob_part (column, Text bytes) = []

-- the heaps of cells: at 0 stands the empty text, and the empty blob
abbrev pub strings_of : Cells → List ℕ
strings_of cells = 0 ∷ flat_map string_part cells

abbrev pub blobs_of : Cells → List ℕ
blobs_of cells = 0 ∷ flat_map blob_part cells

-- the number that stands in the column of a cell that comes after others
abbrev pub value_after : Cells → Cell → ℕ
value_after before (Number value) = value
value_after before (Text []) = 0
value_after before (Text (b ∷ bytes)) = length (strings_of before)
value_after before (Bytes []) = 0
value_after before (Bytes (b ∷ bytes)) = length (blobs_of before)

-- the lowest bytes of a number, as many as the width has
abbrev pub word : Width → ℕ → List ℕ
word One value = value % 0x100 ∷ []
word Two value = to_le_bytes w16 (value % 2 ^ 16)
word Four value = to_le_bytes w32 (value % 2 ^ 32)

-- the rows of cells that come after others
abbrev pub rows_after : Layout → Cells → Cells → List ℕ
rows_after layout before [] = []
rows_after layout before ((column, cell) ∷ cells) =
    word (width_of layout column) (value_after before cell)
    ++ rows_after layout (before ++ (column, cell) ∷ []) cells

abbrev pub rows_bytes : Layout → Cells → List ℕ
rows_bytes layout cells = rows_after layout [] cells

-- the cell is of the kind that stands in its column, its number is not too great for its type, and its text is UTF-8
abbrev pub is_kept : Column × Cell → Bool
is_kept (U8, Number value) = nat_lt value (2 ^ 8)
is_kept (U16, Number value) = nat_lt value (2 ^ 16)
is_kept (U32, Number value) = nat_lt value (2 ^ 32)
is_kept (Guid, Number value) = nat_lt value (2 ^ 32)
is_kept (Table table, Number value) = nat_lt value (2 ^ 32)
is_kept (ListColumn table, Number value) = nat_lt value (2 ^ 32)
is_kept (Coded index, Number value) = nat_lt value (2 ^ 32)
is_kept (Strings, Text bytes) = is_utf8 bytes
is_kept (Blob, Bytes bytes) = true
is_kept (column, cell) = false

-- a text has no zero, and at most 1,023 bytes
abbrev pub is_named : Column × Cell → Bool
is_named (column, Text bytes) = has_no_zero bytes && nat_le (length bytes) name_limit
is_named (column, Number value) = true
is_named (column, Bytes bytes) = true

-- what is written of cells
pub record IsWritten (layout : Layout) (cells : Cells) (rows strings blobs : List ℕ) : Type 0 where
  pub rows_written : rows ≡ rows_bytes layout cells
  pub strings_written : strings ≡ strings_of cells
  pub blobs_written : blobs ≡ blobs_of cells
  pub kept : list_all is_kept cells ≡ true

-- what the writer holds, unless it lacked memory: these cells, and the bodies of these methods
abbrev pub Holds : Cells → List MethodRow → Writer → Type 0
Holds cells methods writer =
    writer.failed ≡ false
    → IsWritten writer.layout cells writer.rows.items writer.strings.items writer.blobs.items
    × (writer.bodies.items ≡ bodies_bytes methods)

-- the writer holds these cells after what it held
abbrev pub Puts : Cells → Writer → Writer → Type 0
Puts these old new =
    (new.layout ≡ old.layout)
    × ((cells : Cells) (methods : List MethodRow) → Holds cells methods old → Holds (cells ++ these) methods new)
