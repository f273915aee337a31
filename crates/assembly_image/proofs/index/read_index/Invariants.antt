use Rattle.std.proofs.Common.{◌+◌}
use Rattle.metadata_tables.specs.Tables as tables
use Rattle.assembly_image.specs.Index.{IsIndex, table_by, value_by, value_in_row}
use Rattle.assembly_image.specs.Module.{count}
use Rattle.assembly_image.specs.Reading.{module_of}
use Rattle.assembly_image.proofs.index.read_index.Given as goal

abbrev pub invariant-loop-after : goal.invariant-loop-after
invariant-loop-after l =
    let m = module_of l.bytes in
    IsIndex (value_in_row m l.by) (value_by l.by (count m tables.type_def) + 1) (count m (table_by l.by)) l.after l.first.items l.next.items
