-- Which modules are sound: those that an image can stand for, but for the lengths of their names, the counts
-- of their rows and their size (own).
use Rattle.std.specs.Prelude.{ℕ, ◌==◌, ◌&&◌, ◌^◌, Bool, true, false, not, nat_le, nat_lt, List, [], ◌∷◌, ◌++◌, map, length, slice_index_or, codes}
use Rattle.std.specs.List.{flat_map, list_all, list_any, range_with_len}
use Rattle.std.specs.Option.{is_some}
use Rattle.std.specs.Str.{bytes_eq}
use Rattle.std.specs.Char.Utf16.{utf16_chars}
use Rattle.cli_words.specs.declared.span.Span.{Span}
use Rattle.cli_words.specs.Text.{bytes_of}
use Rattle.meta_heaps.specs.declared.heap.Root.{Root}
use Rattle.metadata_tables.specs.declared.layout.Layout.{Layout}
use Rattle.metadata_tables.specs.declared.schema.Column.{Column}
use Rattle.metadata_tables.specs.declared.schema.Column.TheVariants.{U8, U16, U32, Strings, Guid, Blob, Table, List as ListColumn, Coded}
use Rattle.metadata_tables.specs.Columns.{columns_of}
use Rattle.metadata_tables.specs.Columns.{column_of}
use Rattle.assembly_image.specs.Checks.{is_inside, is_in_order}
use Rattle.image_maker.specs.declared.module.Module.{Module}
use Rattle.image_maker.specs.declared.module.Cell.{Cell}
use Rattle.image_maker.specs.declared.module.Cell.TheVariants.{Number, Text, Bytes}
use Rattle.image_maker.specs.Rows.{rows_of, all_fields, all_methods}

-- a cell is of the kind that stands in the column, and not too great for a column of one or two bytes
abbrev pub fits : Column → Cell → Bool
fits U8 (Number value) = nat_lt value (2 ^ 8)
fits U16 (Number value) = nat_lt value (2 ^ 16)
fits U32 (Number value) = true
fits Guid (Number value) = true
fits (Table table) (Number value) = true
fits (ListColumn table) (Number value) = true
fits (Coded index) (Number value) = true
fits Strings (Text bytes) = true
fits Blob (Bytes bytes) = true
fits column cell = false

abbrev pub number_in : Cell → ℕ
number_in (Number value) = value
number_in (Text bytes) = 0
number_in (Bytes bytes) = 0

-- the number in a column of a row; 0 where there is none
abbrev pub number_at : List Cell → ℕ → ℕ
number_at row k = number_in (slice_index_or row k (Number 0))

-- heaps of which but the length of the GUIDs matters
abbrev pub heaps_with : ℕ → Root
heaps_with guids =
    let none : Span = record { at = 0; len = 0 } in
    record { tables = none; strings = none; user_strings = none; guids = record { at = 0; len = guids }; blobs = none }

-- a number in a column names a row or an entry that is there, and a list is in order; a text or a blob that
-- is given stands in its heap
abbrev pub is_value_sound : Layout → ℕ → Column → ℕ → Cell → Bool
is_value_sound layout guids column before (Number value) =
    is_inside [] (heaps_with guids) layout column value && is_in_order layout column before value
is_value_sound layout guids column before (Text bytes) = true
is_value_sound layout guids column before (Bytes bytes) = true

-- what stands in a column of a row, after the row before it
abbrev pub is_cell_sound : Layout → ℕ → ℕ → List Cell → List Cell → ℕ → Bool
is_cell_sound layout guids table before row k =
    is_value_sound layout guids (column_of table k) (number_at before k) (slice_index_or row k (Number 0))

-- a row has a cell for each column of its table, each of them sound
abbrev pub is_row_sound : Layout → ℕ → ℕ → List Cell → List Cell → Bool
is_row_sound layout guids table before row =
    (length row == length (columns_of table))
    && list_all (is_cell_sound layout guids table before row) (range_with_len 0 (length row))

-- the rows of a table that come after a row
abbrev pub are_rows_sound : Layout → ℕ → ℕ → List Cell → List (List Cell) → Bool
are_rows_sound layout guids table before [] = true
are_rows_sound layout guids table before (row ∷ rows) =
    is_row_sound layout guids table before row && are_rows_sound layout guids table row rows

-- how many rows a table has
abbrev pub count : Module → ℕ → ℕ
count m table = length (rows_of m (λ n. 0) table)

-- the counts of all tables, whose rows begin at a place, and whose indexes into heaps have four bytes
abbrev pub layout_at : Module → ℕ → Layout
layout_at m place =
    record { rows_at = place; heap_sizes = 7; counts = map (count m) (range_with_len 0 45) }

-- the image that the module stands for passes the checks 13 to 15, but for the texts
abbrev pub is_table_sound : Module → ℕ → Bool
is_table_sound m table =
    are_rows_sound (layout_at m 0) (length m.guids) table [] (rows_of m (λ n. 0) table)

-- the tables whose rows have fields of a module
abbrev pub is_own : ℕ → Bool
is_own table = list_any (λ own. own == table)
    (0x00 ∷ 0x01 ∷ 0x02 ∷ 0x04 ∷ 0x06 ∷ 0x0A ∷ 0x1B ∷ 0x20 ∷ 0x23 ∷ [])

-- a table that is read, and whose rows a module gives as cells
abbrev pub is_given : ℕ → Bool
is_given table = nat_lt 0 (length (columns_of table)) && not (is_own table)

-- rows of such tables, none of a lower table than the row before it
abbrev pub are_rising : ℕ → List (ℕ × List Cell) → Bool
are_rising least [] = true
are_rising least (row ∷ rows) = is_given row.0 && (nat_le least row.0 && are_rising row.0 rows)

-- a row that a module gives has a cell for each column of its table, and each cell fits
abbrev pub has_fitting : ℕ × List Cell → Bool
has_fitting row =
    (length row.1 == length (columns_of row.0))
    && list_all (λ k. fits (column_of row.0 k) (slice_index_or row.1 k (Number 0)))
    (range_with_len 0 (length row.1))

-- all texts of a row
abbrev pub texts_in : List Cell → List (List ℕ)
texts_in [] = []
texts_in (Text bytes ∷ cells) = bytes ∷ texts_in cells
texts_in (Number value ∷ cells) = texts_in cells
texts_in (Bytes bytes ∷ cells) = texts_in cells

-- all texts of a module: its names, and the cells that are texts
abbrev pub all_texts : Module → List (List ℕ)
all_texts m =
    m.name ∷ (map (λ r. bytes_of r.name) m.refs
    ++ (flat_map (λ t. t.name ∷ t.space ∷ []) m.type_refs
    ++ (flat_map (λ t. t.name ∷ t.space ∷ []) m.types
    ++ (map (λ f. f.name) (all_fields m)
    ++ (map (λ f. f.name) (all_methods m)
    ++ (map (λ r. r.name) m.members
    ++ flat_map (λ r. texts_in r.1) m.rows))))))

-- no character of the text is 0
abbrev pub has_no_zero : List ℕ → Bool
has_no_zero bytes = list_all (λ b. not (b == 0)) bytes

-- no unit is a surrogate without its partner
abbrev pub is_whole : List ℕ → Bool
is_whole units = list_all is_some (utf16_chars units)

-- the names that a further stream may not have
abbrev pub known_streams : List (List ℕ)
known_streams =
    codes "#~" ∷ codes "#-" ∷ codes "#Strings" ∷ codes "#US" ∷ codes "#GUID" ∷ codes "#Blob" ∷ []

-- the name of a further stream: 1 to 31 ASCII bytes, none of them 0, and no name that the reader looks for
abbrev pub is_stream_name : List ℕ → Bool
is_stream_name name =
    nat_le 1 (length name) && (nat_le (length name) 31
    && (list_all (λ b. nat_lt 0 b && nat_lt b 128) name
    && not (list_any (bytes_eq name) known_streams)))

-- a module that an image can stand for
abbrev pub is_sound : Module → Bool
is_sound m =
    nat_lt 0 (length m.name) && (nat_lt 0 (length m.types)
    && (are_rising 0 m.rows && list_all has_fitting m.rows
    && (list_all (is_table_sound m) (range_with_len 0 45)
    && (list_all has_no_zero (all_texts m)
    && (list_all (λ r. is_whole r.name) m.refs
    && list_all (λ s. is_stream_name s.0) m.streams)))))
