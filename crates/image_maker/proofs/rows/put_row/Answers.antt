use Rattle.std.proofs.Common.{◌<◌, ◌≤◌, length, map, get_or, subst, sym, ap, ◌∙◌, arith}
use Rattle.std.proofs.lemmas.List.{drop_all, get_or_default, get_or-map, length-map}
use Rattle.std.proofs.lemmas.Slice.Zip.{length-zip}
use Rattle.std.specs.List.{zip}
use Rattle.metadata_tables.specs.declared.schema.Column.TheVariants.{U8}
use Rattle.metadata_tables.specs.Columns.{columns_of}
use Rattle.image_maker.specs.Held.{cell_of}
use Rattle.image_maker.specs.Written.{row_cells}
use Rattle.image_maker.proofs.RowPuts.{left_all, left_none, cells_next, fitting_length, fitting_held}
use Rattle.image_maker.proofs.rows.put_row.Goals as goal

pub bounds-columns-k : goal.bounds-columns-k
bounds-columns-k c =
    let same = fitting_length (columns_of c.args.table) c.args.cells.now c.requires in
    let long = ap length c.columns-columns.ensures.value in
    omega (arith, same, long, c.loop-k-test.true)

pub put_cell-requires : goal.put_cell-requires
put_cell-requires c =
    let columns = columns_of c.args.table in
    let same = fitting_length columns c.args.cells.now c.requires in
    let within : c.loop-k.k < length columns = omega (arith, same, c.loop-k-test.true) in
    fitting_held columns c.args.cells.now c.loop-k.k _ c.index-cells-k.result c.requires c.loop-k-test.true
    (ap (λ cs. get_or cs c.loop-k.k U8) c.columns-columns.ensures.value
    ∙ get_or_default columns c.loop-k.k U8 _ within) c.index-cells-k.is

pub loop-k-init : goal.loop-k-init
loop-k-init c = left_all _ c.args.writer.now

pub loop-k-preserved : goal.loop-k-preserved
loop-k-preserved c =
    let columns = columns_of c.args.table in
    let held = c.args.cells.now in
    let k = c.loop-k.k in
    let same = fitting_length columns held c.requires in
    let within : k < length columns = omega (arith, same, c.loop-k-test.true) in
    let inside : k < length (map cell_of held) =
    subst (λ n. k < n) (sym (length-map held cell_of)) c.loop-k-test.true in
    cells_next columns (map cell_of held) _ k _ (cell_of c.index-cells-k.result) c.args.writer.now c.loop-k.writer
    c.put_cell.new.writer within inside
    (ap (λ cs. get_or cs k U8) c.columns-columns.ensures.value ∙ get_or_default columns k U8 _ within)
    (ap cell_of c.index-cells-k.is ∙ sym (get_or-map cell_of held k c.index-cells-k.result
    (cell_of c.index-cells-k.result) c.loop-k-test.true)) c.loop-k.invariant c.put_cell.ensures

pub returns : goal.returns
returns c =
    let columns = columns_of c.args.table in
    let held = c.args.cells.now in
    let short : length (zip columns (map cell_of held)) ≤ c.loop-k.k =
    omega (arith, length-zip columns (map cell_of held), length-map held cell_of, c.loop-k-test.false) in
    left_none _ _ c.args.writer.now c.loop-k.writer
    (drop_all c.loop-k.k (row_cells c.args.table (map cell_of held)) short) c.loop-k.invariant
