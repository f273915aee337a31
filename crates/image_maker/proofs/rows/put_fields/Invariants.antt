use Rattle.std.proofs.Common.{drop, map}
use Rattle.std.specs.List.{flat_map}
use Rattle.image_maker.specs.Rows.{field_row}
use Rattle.image_maker.specs.Written.{table_cells}
use Rattle.image_maker.proofs.RowPuts.{Left}
use Rattle.image_maker.proofs.rows.put_fields.Given as goal

abbrev pub invariant-loop-row : goal.invariant-loop-row
invariant-loop-row l =
    Left (table_cells 0x04 (map field_row (flat_map (λ t. t.fields) l.types)))
    (table_cells 0x04 (map field_row (flat_map (λ t. t.fields) (drop l.row-index l.types)))) l.fn.writer l.writer
