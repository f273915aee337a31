-- Bounds on what rows take where they are written, with their texts and blobs in the heaps.
use Rattle.std.proofs.Common.{ℕ, ◌+◌, ◌*◌, ◌≤◌, List, [], ◌∷◌, ◌++◌, length, sym, subst, arith, length-append, nat_lt, zip}
use Rattle.std.specs.List.{flat_map, range_with_len, sum_by}
use Rattle.std.proofs.lemmas.List.Sums.{sum_by-cons, sum_by-le-sum_by}
use Rattle.std.proofs.lemmas.Bool.{cond_both}
use Rattle.metadata_tables.specs.declared.layout.Layout.{Layout}
use Rattle.metadata_tables.specs.declared.layout.Width.{Width}
use Rattle.metadata_tables.specs.declared.layout.Width.TheVariants.{One, Two, Four}
use Rattle.metadata_tables.specs.declared.schema.Column.{Column}
use Rattle.metadata_tables.specs.Columns.{columns_of}
use Rattle.metadata_tables.specs.Layout.{width_of}
use Rattle.metadata_tables.proofs.SchemaLemmas.{short}
use Rattle.image_maker.specs.declared.module.Cell.{Cell}
use Rattle.image_maker.specs.declared.module.Cell.TheVariants.{Number, Text, Bytes}
use Rattle.image_maker.specs.Written.{Cells, row_cells, table_cells, cells_below, compressed, string_part, blob_part, word, value_after, rows_after}
use Rattle.image_maker.proofs.ListSums.{sum_by-flat_map, sum_by-add, sum_by-times, sum_by-each}

-- what a cell adds to the heaps at most
abbrev pub heap_part : Cell → ℕ
heap_part (Number value) = 0
heap_part (Text []) = 0
heap_part (Text (b ∷ bytes)) = length (b ∷ bytes) + 1
heap_part (Bytes []) = 0
heap_part (Bytes (b ∷ bytes)) = length (b ∷ bytes) + 4

-- and a row
abbrev pub row_part : List Cell → ℕ
row_part row = sum_by heap_part row

pub text_part : (bytes : List ℕ) → heap_part (Text bytes) ≤ length bytes + 1
text_part [] = omega arith
text_part (b ∷ bytes) = omega arith

pub bytes_part : (bytes : List ℕ) → heap_part (Bytes bytes) ≤ length bytes + 4
bytes_part [] = omega arith
bytes_part (b ∷ bytes) = omega arith

compressed_short : (n : ℕ) → length (compressed n) ≤ 4
compressed_short n =
    cond_both (nat_lt n 0x80) _ _ (λ xs. length xs ≤ 4) (λ _. omega arith)
    (λ _. cond_both (nat_lt n 0x4000) _ _ (λ xs. length xs ≤ 4) (λ _. omega arith) (λ _. omega arith))

word_short : (width : Width) (value : ℕ) → length (word width value) ≤ 4
word_short One value = omega arith
word_short Two value = omega arith
word_short Four value = omega arith

parts_short : (column : Column) (cell : Cell)
    → length (string_part (column, cell)) + length (blob_part (column, cell)) ≤ heap_part cell
parts_short column (Number value) = omega arith
parts_short column (Text []) = omega arith
parts_short column (Text (b ∷ bytes)) = let long = length-append (b ∷ bytes) (0 ∷ []) in omega arith
parts_short column (Bytes []) = omega arith
parts_short column (Bytes (b ∷ bytes)) =
    let long = length-append (compressed (length (b ∷ bytes))) (b ∷ bytes) in
    let short = compressed_short (length (b ∷ bytes)) in
    omega arith

-- what a cell takes at most
abbrev pub cell_len : Column × Cell → ℕ
cell_len c = 4 + heap_part c.1

-- what cells take
pub written-le : (layout : Layout) (before cells : Cells)
    → length (rows_after layout before cells)
    + length (flat_map string_part cells) + length (flat_map blob_part cells) ≤ sum_by cell_len cells
written-le layout before [] = omega arith
written-le layout before ((column, cell) ∷ cells) =
    let later = before ++ (column, cell) ∷ [] in
    let w = word (width_of layout column) (value_after before cell) in
    let short = word_short (width_of layout column) (value_after before cell) in
    let rows = length-append w (rows_after layout later cells) in
    let strings = length-append (string_part (column, cell)) (flat_map string_part cells) in
    let blobs = length-append (blob_part (column, cell)) (flat_map blob_part cells) in
    let parts = parts_short column cell in
    let rest = written-le layout later cells in
    subst (λ s. length (rows_after layout before ((column, cell) ∷ cells))
    + length (flat_map string_part ((column, cell) ∷ cells))
    + length (flat_map blob_part ((column, cell) ∷ cells)) ≤ s)
    (sym (sum_by-cons cell_len (column, cell) cells)) (omega arith)

zipped-le : (columns : List Column) (row : List Cell)
    → sum_by cell_len (zip columns row) ≤ 4 * length columns + row_part row
zipped-le [] row = omega arith
zipped-le (column ∷ columns) [] = omega arith
zipped-le (column ∷ columns) (cell ∷ row) =
    let rest = zipped-le columns row in
    let first = sum_by-cons cell_len (column, cell) (zip columns row) in
    let parts = sum_by-cons heap_part cell row in
    subst (λ s. s ≤ 4 * length (column ∷ columns) + row_part (cell ∷ row)) (sym first)
    (subst (λ s. cell_len (column, cell) + sum_by cell_len (zip columns row) ≤ 4 * length (column ∷ columns) + s)
    (sym parts) (omega arith))

row-le : (table : ℕ) (row : List Cell) → sum_by cell_len (row_cells table row) ≤ row_part row + 36
row-le table row =
    let cells = zipped-le (columns_of table) row in
    let few = short table in
    omega arith

table-le : (table : ℕ) (rows : List (List Cell))
    → sum_by cell_len (table_cells table rows) ≤ 36 * length rows + sum_by row_part rows
table-le table rows =
    let cells = sum_by-flat_map cell_len (row_cells table) rows in
    let each = sum_by-le-sum_by (λ row. sum_by cell_len (row_cells table row)) (λ row. row_part row + 36) rows
    (row-le table) in
    let apart = sum_by-each row_part 36 rows in
    omega arith

-- what the rows of all tables take
pub cells-le : (rows : ℕ → List (List Cell)) (end : ℕ) → sum_by cell_len (cells_below rows end)
    ≤ 36 * sum_by (λ table. length (rows table)) (range_with_len 0 end)
    + sum_by (λ table. sum_by row_part (rows table)) (range_with_len 0 end)
cells-le rows end =
    let range = range_with_len 0 end in
    let cells = sum_by-flat_map cell_len (λ table. table_cells table (rows table)) range in
    let each = sum_by-le-sum_by (λ table. sum_by cell_len (table_cells table (rows table)))
    (λ table. 36 * length (rows table) + sum_by row_part (rows table)) range
    (λ table. table-le table (rows table)) in
    let apart = sum_by-add (λ table. 36 * length (rows table)) (λ table. sum_by row_part (rows table)) range in
    let scaled = sum_by-times 36 (λ table. length (rows table)) range in
    omega arith
