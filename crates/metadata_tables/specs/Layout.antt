-- How wide columns are, where rows stand, and what stands in them (ECMA-335 II.24.2.6).
use Rattle.std.specs.Prelude.{ℕ, ◌+◌, ◌-◌, ◌*◌, ◌^◌, Bool, not, ◌&&◌, ◌==◌, nat_lt, nat_le, bit_and, List, map, take, length, slice_index, Option, Some, None, option_map, if◌then◌else◌}
use Rattle.std.specs.List.{list_all, range_with_len, sum_by}
use Rattle.std.specs.Int.{w16, w32}
use Rattle.cli_words.specs.Number.{number_at}
use Rattle.metadata_tables.specs.declared.schema.Column.{Column}
use Rattle.metadata_tables.specs.declared.schema.Column.TheVariants.{U8, U16, U32, Strings, Guid, Blob, Table, List as ListColumn, Coded}
use Rattle.metadata_tables.specs.declared.layout.Layout.{Layout}
use Rattle.metadata_tables.specs.declared.layout.Width.{Width}
use Rattle.metadata_tables.specs.declared.layout.Width.TheVariants.{One, Two, Four}
use Rattle.metadata_tables.specs.Tables.{table_count}
use Rattle.metadata_tables.specs.Columns.{columns_of, column_of, tag_bits_of, tables_of}

-- a bit of a number is 1
abbrev pub is_set : ℕ → ℕ → Bool
is_set number bit = not (bit_and number (2 ^ bit) == 0)

-- how many rows a table has
abbrev pub count_of : Layout → ℕ → ℕ
count_of layout table = slice_index layout.counts table

-- the table has fewer rows than the bits that a tag leaves of two bytes can tell apart
abbrev pub is_narrow : Layout → ℕ → ℕ → Bool
is_narrow layout tag_bits table = nat_lt (count_of layout table) (2 ^ (16 - tag_bits))

-- an index has two bytes where these are enough, else four
abbrev pub index_width : Bool → Width
index_width fits = if fits then Two else Four

-- how wide an index into the heap of a bit of HeapSizes is
abbrev pub heap_width : Layout → ℕ → Width
heap_width layout bit = index_width (not (is_set layout.heap_sizes bit))

-- how wide a column is
abbrev pub width_of : Layout → Column → Width
width_of layout U8 = One
width_of layout U16 = Two
width_of layout U32 = Four
width_of layout Strings = heap_width layout 0
width_of layout Guid = heap_width layout 1
width_of layout Blob = heap_width layout 2
width_of layout (Table table) = index_width (is_narrow layout 0 table)
width_of layout (ListColumn table) = index_width (is_narrow layout 0 table)
width_of layout (Coded index) =
    index_width (list_all (is_narrow layout (tag_bits_of index)) (tables_of index))

-- how many bytes a width is
abbrev pub len_of : Width → ℕ
len_of One = 1
len_of Two = 2
len_of Four = 4

-- the number of a width from a place on
abbrev pub number_of : Width → List ℕ → ℕ → ℕ
number_of One bytes at = slice_index bytes at
number_of Two bytes at = number_at w16 bytes at
number_of Four bytes at = number_at w32 bytes at

-- the numbers of a width are below this one
abbrev pub limit_of : Width → ℕ
limit_of One = 2 ^ 8
limit_of Two = 2 ^ 16
limit_of Four = 2 ^ 32

-- how many bytes a column takes
abbrev pub size_of : Layout → Column → ℕ
size_of layout column = len_of (width_of layout column)

-- how many bytes a row takes
abbrev pub row_size_of : Layout → ℕ → ℕ
row_size_of layout table = sum_by (size_of layout) (columns_of table)

-- how many bytes a table takes
abbrev pub table_size_of : Layout → ℕ → ℕ
table_size_of layout table = count_of layout table * row_size_of layout table

-- the place of a table: the tables stand one after the other
unfoldable pub table_at : Layout → ℕ → ℕ
table_at layout table = layout.rows_at + sum_by (table_size_of layout) (range_with_len 0 table)

-- the place after the last table
abbrev pub rows_end : Layout → ℕ
rows_end layout = table_at layout table_count

-- the place of a row, which is counted from 1
abbrev pub row_at : Layout → ℕ → ℕ → ℕ
row_at layout table n = table_at layout table + (n - 1) * row_size_of layout table

-- how many bytes of a row stand before a column, which is counted from 0
abbrev pub offset_of : Layout → ℕ → ℕ → ℕ
offset_of layout table k = sum_by (size_of layout) (take k (columns_of table))

-- the place of a column of a row
abbrev pub column_at : Layout → ℕ → ℕ → ℕ → ℕ
column_at layout table n k = row_at layout table n + offset_of layout table k

-- the number that stands in a column of the row at a place
abbrev pub value_of : List ℕ → Layout → ℕ → ℕ → ℕ → ℕ
value_of bytes layout table at k =
    number_of (width_of layout (column_of table k)) bytes (at + offset_of layout table k)

-- the table has the row
abbrev pub has_row : Layout → ℕ → ℕ → Bool
has_row layout table n = nat_le 1 n && nat_le n (count_of layout table)

-- what stands in the columns of the row at a place, from the left
abbrev pub values_of : List ℕ → Layout → ℕ → ℕ → List ℕ
values_of bytes layout table at =
    map (value_of bytes layout table at) (range_with_len 0 (length (columns_of table)))

-- the place of a row, where the table has it
abbrev pub row_place_of : Layout → ℕ → ℕ → Option ℕ
row_place_of layout table n = if has_row layout table n then Some (row_at layout table n) else None

-- a row of a table, where the table has it
abbrev pub row_of : List ℕ → Layout → ℕ → ℕ → Option (List ℕ)
row_of bytes layout table n =
    option_map (values_of bytes layout table) (row_place_of layout table n)

-- the table has the row, and the rows have the column
abbrev pub has_place : Layout → ℕ → ℕ → ℕ → Bool
has_place layout table n k = has_row layout table n && nat_lt k (length (columns_of table))

-- the place of a column of a row, where the table has both
abbrev pub place_of : Layout → ℕ → ℕ → ℕ → Option ℕ
place_of layout table n k =
    if has_place layout table n k then Some (column_at layout table n k) else None

-- the number that stands in a column of a row, where the table has both
abbrev pub number_in_row : List ℕ → Layout → ℕ → ℕ → ℕ → Option ℕ
number_in_row bytes layout table n k =
    if has_place layout table n k then Some (value_of bytes layout table (row_at layout table n) k)
    else None
