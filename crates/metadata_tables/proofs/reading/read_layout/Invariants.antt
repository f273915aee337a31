use Rattle.std.proofs.Common.{◌≡◌, ℕ, ◌<◌, get_or, length}
use Rattle.metadata_tables.specs.Reading.{count_in}
use Rattle.metadata_tables.proofs.reading.read_layout.Given as goal

abbrev pub invariant-loop-table : goal.invariant-loop-table
invariant-loop-table l = record {
  filled : (k : ℕ) → k < l.table → get_or l.counts k 0 ≡ count_in l.bytes l.at k;
  long : length l.counts ≡ 45;
}
