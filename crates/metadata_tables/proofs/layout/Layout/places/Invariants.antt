use Rattle.std.proofs.Common.{◌≡◌, ℕ, ◌+◌, ◌*◌, ◌^◌, ◌<◌, ◌≤◌, get_or, length}
use Rattle.metadata_tables.specs.declared.place.TablePlace.{TablePlace}
use Rattle.metadata_tables.specs.Layout.{table_at}
use Rattle.metadata_tables.specs.Places.{IsPlaced}
use Rattle.metadata_tables.proofs.layout.Layout.places.Given as goal

abbrev pub invariant-loop-table : goal.invariant-loop-table
invariant-loop-table l = record {
  placed : (t : ℕ) → t < l.table → (d : TablePlace) → IsPlaced l.self t (get_or l.tables t d);
  end : l.end ≡ table_at l.self l.table;
  small : l.end ≤ 2 ^ 33 + 36 * 2 ^ 32 * l.table;
  long : length l.tables ≡ 45;
}
