use Rattle.std.proofs.Common.{[], ◌∷◌, ◌<◌, ◌≤◌, length, get_or, subst, ap, ◌∙◌, arith}
use Rattle.std.proofs.lemmas.List.{drop_all, get_or_default}
use Rattle.metadata_tables.specs.declared.schema.Column.TheVariants.{U8}
use Rattle.std.proofs.lemmas.Slice.Zip.{length-zip}
use Rattle.std.specs.List.{zip}
use Rattle.metadata_tables.specs.Columns.{columns_of}
use Rattle.image_maker.specs.Written.{Puts, row_cells}
use Rattle.image_maker.proofs.RowPuts.{left_all, left_none, cells_next, fitting_len, fitting_cell}
use Rattle.image_maker.proofs.rows.put_given_row.Goals as goal

pub loop-k-init : goal.loop-k-init
loop-k-init c = left_all _ c.args.writer.now

pub loop-k-preserved : goal.loop-k-preserved
loop-k-preserved c =
    let columns = columns_of c.args.table in
    let cells = c.args.cells.now in
    let k = c.loop-k.k in
    let within : k < length columns =
    subst (λ n. k < n) (fitting_len c.args.table cells c.requires) c.loop-k-test.true in
    cells_next columns cells _ k _ c.index-cells-k.result c.args.writer.now c.loop-k.writer
    c.put_cell.new.writer within c.loop-k-test.true
    (ap (λ cs. get_or cs k U8) c.columns-columns.ensures.value ∙ get_or_default columns k U8 _ within)
    c.index-cells-k.is c.loop-k.invariant
    (subst (λ cell. Puts ((get_or c.columns-columns.result.now k U8, cell) ∷ []) c.loop-k.writer
    c.put_cell.new.writer) c.of.ensures.is c.put_cell.ensures)

pub put_cell-requires : goal.put_cell-requires
put_cell-requires c =
    let columns = columns_of c.args.table in
    let within : c.loop-k.k < length columns =
    subst (λ n. c.loop-k.k < n) (fitting_len c.args.table c.args.cells.now c.requires) c.loop-k-test.true in
    c.of.ensures.fits _ (fitting_cell c.args.table c.args.cells.now c.loop-k.k _ c.index-cells-k.result c.requires
    c.loop-k-test.true
    (ap (λ cs. get_or cs c.loop-k.k U8) c.columns-columns.ensures.value
    ∙ get_or_default columns c.loop-k.k U8 _ within)
    c.index-cells-k.is)

pub returns : goal.returns
returns c =
    let columns = columns_of c.args.table in
    let cells = c.args.cells.now in
    let short : length (zip columns cells) ≤ c.loop-k.k =
    omega (arith, length-zip columns cells, c.loop-k-test.false) in
    left_none _ _ c.args.writer.now c.loop-k.writer (drop_all c.loop-k.k (row_cells c.args.table cells) short)
    c.loop-k.invariant
