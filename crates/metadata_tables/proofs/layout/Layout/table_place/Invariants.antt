use Rattle.std.proofs.Common.{◌≡◌, ℕ, ◌*◌, ◌<◌, ◌≤◌, get_or, length}
use Rattle.metadata_tables.specs.declared.place.ColumnPlace.{ColumnPlace}
use Rattle.metadata_tables.specs.Layout.{offset_of}
use Rattle.metadata_tables.specs.Places.{column_place}
use Rattle.metadata_tables.proofs.layout.Layout.table_place.Given as goal

abbrev pub invariant-loop-k : goal.invariant-loop-k
invariant-loop-k l = record {
  size : l.size ≡ offset_of l.self l.table l.k;
  small : l.size ≤ 4 * l.k;
  placed : (k : ℕ) → k < l.k → (d : ColumnPlace)
      → get_or l.places k d ≡ column_place l.self l.table k;
  long : length l.places ≡ 9;
}
