use Rattle.std.proofs.Common.{◌≡◌, ◌+◌, drop, length}
use Rattle.std.specs.List.{flat_map}
use Rattle.image_maker.specs.Rows.{type_rows}
use Rattle.image_maker.specs.Written.{table_cells}
use Rattle.image_maker.proofs.RowPuts.{Left}
use Rattle.image_maker.proofs.rows.put_types.Given as goal

abbrev pub invariant-loop-row : goal.invariant-loop-row
invariant-loop-row l = record {
  cells : Left (table_cells 0x02 (type_rows 1 1 l.types))
      (table_cells 0x02 (type_rows l.field l.method (drop l.row-index l.types))) l.fn.writer l.writer;
  fields : l.field + length (flat_map (λ t. t.fields) (drop l.row-index l.types))
      ≡ 1 + length (flat_map (λ t. t.fields) l.types);
  methods : l.method + length (flat_map (λ t. t.methods) (drop l.row-index l.types))
      ≡ 1 + length (flat_map (λ t. t.methods) l.types);
}
