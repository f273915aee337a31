use Rattle.std.proofs.Common.{◌≡◌, None}
use Rattle.std.specs.List.{flat_map, range_with_len}
use Rattle.cli_words.specs.Check.{first_fault}
use Rattle.metadata_tables.specs.Layout.{row_of}
use Rattle.assembly_image.specs.Checks.{row_checks}
use Rattle.assembly_image.proofs.checks.table_failed.Given as goal

abbrev pub invariant-loop-n : goal.invariant-loop-n
invariant-loop-n l = record {
  pass : first_fault (flat_map (row_checks l.bytes l.root l.tables l.table) (range_with_len 1 l.n)) ≡ None;
  reached : l.before ≡ row_of l.bytes l.tables l.table l.n;
}
