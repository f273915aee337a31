use Rattle.std.proofs.Common.{◌≡◌, None}
use Rattle.std.specs.List.{flat_map, range_with_len}
use Rattle.cli_words.specs.Check.{first_fault}
use Rattle.assembly_image.specs.Checks.{table_checks}
use Rattle.assembly_image.proofs.checks.first_failed.Given as goal

abbrev pub invariant-loop-table : goal.invariant-loop-table
invariant-loop-table l =
    first_fault (flat_map (table_checks l.bytes l.root l.tables) (range_with_len 0 l.table)) ≡ None
