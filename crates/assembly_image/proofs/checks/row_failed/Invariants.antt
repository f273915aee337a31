use Rattle.std.proofs.Common.{◌≡◌, None}
use Rattle.std.specs.List.{flat_map, range_with_len}
use Rattle.cli_words.specs.Check.{first_fault}
use Rattle.assembly_image.specs.Checks.{column_checks}
use Rattle.assembly_image.proofs.checks.row_failed.Given as goal

abbrev pub invariant-loop-k : goal.invariant-loop-k
invariant-loop-k l =
    first_fault (flat_map (column_checks l.bytes l.root l.tables l.table l.n) (range_with_len 0 l.k)) ≡ None
