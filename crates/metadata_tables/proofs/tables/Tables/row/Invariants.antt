use Rattle.std.proofs.Common.{◌≡◌, map}
use Rattle.std.specs.List.{range_with_len}
use Rattle.metadata_tables.specs.Layout.{value_of}
use Rattle.metadata_tables.proofs.tables.Tables.row.Given as goal

abbrev pub invariant-loop-k : goal.invariant-loop-k
invariant-loop-k l = l.row ≡ map (value_of l.bytes l.self l.table l.at) (range_with_len 0 l.k)
