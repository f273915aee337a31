use Rattle.std.proofs.Common.{◌≡◌, true}
use Rattle.std.specs.List.{list_all, range_with_len}
use Rattle.metadata_tables.specs.Reading.{is_allowed}
use Rattle.metadata_tables.proofs.reading.are_allowed.Given as goal

abbrev pub invariant-loop-table : goal.invariant-loop-table
invariant-loop-table l =
    list_all (is_allowed l.bytes l.stream) (range_with_len 0 l.table) ≡ true
