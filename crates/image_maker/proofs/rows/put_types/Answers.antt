use Rattle.std.proofs.Common.{ap, subst, sym, ◌≡◌, ◌+◌, length, drop, refl}
use Rattle.std.proofs.lemmas.List.{drop_all}
use Rattle.std.specs.List.{flat_map}
use Rattle.image_maker.specs.Rows.{type_rows}
use Rattle.image_maker.specs.Written.{table_cells}
use Rattle.image_maker.proofs.RowPuts.{left_all, left_none, types_next, lengths_next}
use Rattle.image_maker.proofs.rows.put_types.Goals as goal

pub loop-row-init : goal.loop-row-init
loop-row-init c = record { cells = left_all _ c.args.writer.now; fields = refl; methods = refl }

pub loop-row-preserved : goal.loop-row-preserved
loop-row-preserved c =
    let types = c.args.types.now in
    let i = c.loop-row.row-index in
    record {
      cells = types_next _ types i c.row-item.result c.loop-row.field c.loop-row.method c.args.writer.now
          c.loop-row.writer
          c.put_type.new.writer c.loop-row-test.true c.row-item.is c.loop-row.invariant.cells c.put_type.ensures _ _
          (ap (λ fields. c.loop-row.field + length fields) c.items.ensures)
          (ap (λ methods. c.loop-row.method + length methods) c.items-in-loop-row.ensures);
      fields = subst (λ fields. c.loop-row.field + length fields + length
          (flat_map (λ t. t.fields) (drop (i + 1) types))
          ≡ 1 + length (flat_map (λ t. t.fields) types)) (sym c.items.ensures)
          (lengths_next (λ t. t.fields) types i c.row-item.result c.loop-row.field _ c.loop-row-test.true
          c.row-item.is
          c.loop-row.invariant.fields);
      methods = subst (λ methods. c.loop-row.method + length methods + length
          (flat_map (λ t. t.methods) (drop (i + 1) types))
          ≡ 1 + length (flat_map (λ t. t.methods) types)) (sym c.items-in-loop-row.ensures)
          (lengths_next (λ t. t.methods) types i c.row-item.result c.loop-row.method _ c.loop-row-test.true
          c.row-item.is
          c.loop-row.invariant.methods);
    }

pub returns : goal.returns
returns c =
    left_none _ _ c.args.writer.now c.loop-row.writer
    (ap (λ types. table_cells 0x02 (type_rows c.loop-row.field c.loop-row.method types))
    (drop_all c.loop-row.row-index c.args.types.now c.loop-row-test.false)) c.loop-row.invariant.cells
