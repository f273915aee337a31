use Rattle.std.proofs.Common.{map, ap, subst}
use Rattle.std.proofs.lemmas.List.{drop_all}
use Rattle.std.specs.List.{flat_map}
use Rattle.image_maker.specs.Rows.{field_row}
use Rattle.image_maker.specs.Written.{Puts, table_cells}
use Rattle.image_maker.proofs.RowPuts.{left_all, left_none, lists_next}
use Rattle.image_maker.proofs.rows.put_fields.Goals as goal

pub loop-row-init : goal.loop-row-init
loop-row-init c = left_all _ c.args.writer.now

pub loop-row-preserved : goal.loop-row-preserved
loop-row-preserved c =
    lists_next 0x04 field_row (λ t. t.fields) _ c.args.types.now c.loop-row.row-index c.row-item.result
    c.args.writer.now
    c.loop-row.writer c.put_all.new.writer c.loop-row-test.true c.row-item.is c.loop-row.invariant
    (subst (λ fields. Puts (table_cells 0x04 (map field_row fields)) c.loop-row.writer c.put_all.new.writer)
    c.items.ensures c.put_all.ensures)

pub returns : goal.returns
returns c =
    left_none _ _ c.args.writer.now c.loop-row.writer
    (ap (λ types. table_cells 0x04 (map field_row (flat_map (λ t. t.fields) types)))
    (drop_all c.loop-row.row-index c.args.types.now c.loop-row-test.false)) c.loop-row.invariant
