-- What is kept of where rows and their columns stand, so that it is worked out once (own).
use Rattle.std.specs.Prelude.{◌≡◌, ℕ, ◌<◌, length, slice_index_or}
use Rattle.metadata_tables.specs.declared.layout.Layout.{Layout}
use Rattle.metadata_tables.specs.declared.place.ColumnPlace.{ColumnPlace}
use Rattle.metadata_tables.specs.declared.place.TablePlace.{TablePlace}
use Rattle.metadata_tables.specs.declared.place.Places.{Places}
use Rattle.metadata_tables.specs.Tables.{table_count}
use Rattle.metadata_tables.specs.Columns.{columns_of, column_of}
use Rattle.metadata_tables.specs.Layout.{width_of, offset_of, row_size_of, table_at, rows_end}

-- where a column stands in a row
abbrev pub column_place : Layout → ℕ → ℕ → ColumnPlace
column_place layout table k = record {
  offset = offset_of layout table k;
  width = width_of layout (column_of table k);
}

-- the places are those of a table's rows and columns
pub record IsPlaced (layout : Layout) (table : ℕ) (place : TablePlace) : Type 0 where
  pub start : place.start ≡ table_at layout table
  pub row_size : place.row_size ≡ row_size_of layout table
  pub columns : (k : ℕ) → k < length (columns_of table) → (d : ColumnPlace)
      → slice_index_or place.columns k d ≡ column_place layout table k

-- the places are those of all tables
pub record ArePlaced (layout : Layout) (places : Places) : Type 0 where
  pub tables : (table : ℕ) → table < table_count → (d : TablePlace)
      → IsPlaced layout table (slice_index_or places.tables table d)
  pub end : places.end ≡ rows_end layout
