-- What does not depend on where the rows of a layout stand: which rows are sound, and their bytes.
use Rattle.std.proofs.Common.{◌≡◌, ℕ, ◌+◌, ◌&&◌, ◌==◌, List, [], ◌∷◌, ◌++◌, length, get_or, Option, Some, None, refl, ap, ◌∙◌}
use Rattle.std.specs.Prelude.{nat_le, slice_index}
use Rattle.std.specs.List.{list_all, range_with_len}
use Rattle.metadata_tables.specs.declared.layout.Layout.{Layout}
use Rattle.metadata_tables.specs.declared.schema.Column.{Column}
use Rattle.metadata_tables.specs.declared.schema.Column.TheVariants.{U8, U16, U32, Strings, Guid, Blob, Table, List as ListColumn, Coded}
use Rattle.metadata_tables.specs.Columns.{columns_of, target_of}
use Rattle.metadata_tables.specs.Layout.{width_of}
use Rattle.metadata_tables.specs.Columns.{column_of}
use Rattle.assembly_image.specs.Checks.{is_inside, is_in_order, has_target}
use Rattle.image_maker.specs.declared.module.Module.{Module}
use Rattle.image_maker.specs.declared.module.Cell.{Cell}
use Rattle.image_maker.specs.declared.module.Cell.TheVariants.{Number, Text, Bytes}
use Rattle.image_maker.specs.Sound.{layout_at, heaps_with, is_value_sound, is_cell_sound, is_row_sound, are_rows_sound, number_at}
use Rattle.image_maker.specs.Written.{Cells, rows_after, rows_bytes, word, value_after}

-- what is sound by the counts of rows alone
module _ (a b : Layout) (guids : ℕ) (same : a.counts ≡ b.counts) where
  same_target : (target : Option (ℕ × ℕ)) → has_target a target ≡ has_target b target
  same_target None = refl
  same_target (Some target) = ap (λ counts. nat_le target.1 (slice_index counts target.0)) same

  same_inside : (column : Column) (value : ℕ)
      → is_inside [] (heaps_with guids) a column value ≡ is_inside [] (heaps_with guids) b column value
  same_inside U8 value = refl
  same_inside U16 value = refl
  same_inside U32 value = refl
  same_inside Strings value = refl
  same_inside Guid value = refl
  same_inside Blob value = refl
  same_inside (Table table) value = ap (λ counts. nat_le value (slice_index counts table)) same
  same_inside (ListColumn table) value = refl
  same_inside (Coded index) value = same_target (target_of index value)

  same_order : (column : Column) (before value : ℕ)
      → is_in_order a column before value ≡ is_in_order b column before value
  same_order U8 before value = refl
  same_order U16 before value = refl
  same_order U32 before value = refl
  same_order Strings before value = refl
  same_order Guid before value = refl
  same_order Blob before value = refl
  same_order (Table table) before value = refl
  same_order (ListColumn table) before value = ap
      (λ counts. nat_le 1 value && (nat_le value (slice_index counts table + 1) && nat_le before value)) same
  same_order (Coded index) before value = refl

  same_value : (column : Column) (before : ℕ) (cell : Cell)
      → is_value_sound a guids column before cell ≡ is_value_sound b guids column before cell
  same_value column before (Number value) =
      ap (λ x. x && is_in_order a column before value) (same_inside column value)
      ∙ ap (λ x. is_inside [] (heaps_with guids) b column value && x) (same_order column before value)
  same_value column before (Text bytes) = refl
  same_value column before (Bytes bytes) = refl

  same_cells : (table : ℕ) (before row : List Cell) (ks : List ℕ)
      → list_all (is_cell_sound a guids table before row) ks ≡ list_all (is_cell_sound b guids table before row) ks
  same_cells table before row [] = refl
  same_cells table before row (k ∷ ks) =
      ap (λ x. x && list_all (is_cell_sound a guids table before row) ks)
      (same_value (column_of table k) (number_at before k) (get_or row k (Number 0)))
      ∙ ap (λ x. is_cell_sound b guids table before row k && x) (same_cells table before row ks)

  pub same_rows : (table : ℕ) (before : List Cell) (rows : List (List Cell))
      → are_rows_sound a guids table before rows ≡ are_rows_sound b guids table before rows
  same_rows table before [] = refl
  same_rows table before (row ∷ rows) =
      ap (λ x. (length row == length (columns_of table)) && x && are_rows_sound a guids table row rows)
      (same_cells table before row (range_with_len 0 (length row)))
      ∙ ap (λ x. is_row_sound b guids table before row && x) (same_rows table row rows)

-- how wide columns are does not depend on where the rows stand
pub same_width : (m : Module) (a b : ℕ) (column : Column)
    → width_of (layout_at m a) column ≡ width_of (layout_at m b) column
same_width m a b U8 = refl
same_width m a b U16 = refl
same_width m a b U32 = refl
same_width m a b Strings = refl
same_width m a b Guid = refl
same_width m a b Blob = refl
same_width m a b (Table table) = refl
same_width m a b (ListColumn table) = refl
same_width m a b (Coded index) = refl

same_rows_after : (m : Module) (a b : ℕ) (before cells : Cells)
    → rows_after (layout_at m a) before cells ≡ rows_after (layout_at m b) before cells
same_rows_after m a b before [] = refl
same_rows_after m a b before ((column, cell) ∷ cells) =
    let later = same_rows_after m a b (before ++ (column, cell) ∷ []) cells in
    let wide = same_width m a b column in
    ap (λ (w : List ℕ). w ++ rows_after (layout_at m a) (before ++ (column, cell) ∷ []) cells)
    (ap (λ w. word w (value_after before cell)) wide)
    ∙ ap (λ (rest : List ℕ). word (width_of (layout_at m b) column) (value_after before cell) ++ rest) later

pub same_bytes : (m : Module) (a b : ℕ) (cells : Cells)
    → rows_bytes (layout_at m a) cells ≡ rows_bytes (layout_at m b) cells
same_bytes m a b cells = same_rows_after m a b [] cells
