use Rattle.std.proofs.Common.{◌≡◌, ℕ, ◌+◌, ◌<◌, get_or, length}
use Rattle.metadata_tables.specs.Reading.{count_at}
use Rattle.metadata_tables.proofs.reading.count_places.Given as goal

abbrev pub invariant-loop-table : goal.invariant-loop-table
invariant-loop-table l = record {
  filled : (k : ℕ) → k < l.table + 1 → get_or l.places k 0 ≡ count_at l.bytes l.at k;
  long : length l.places ≡ 65;
}
