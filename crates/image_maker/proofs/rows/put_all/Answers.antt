use Rattle.image_maker.proofs.RowPuts.{left_all, rows_done, rows_next}
use Rattle.image_maker.proofs.rows.put_all.Goals as goal

pub loop-row-init : goal.loop-row-init
loop-row-init g c = left_all _ c.args.writer.now

pub loop-row-preserved : goal.loop-row-preserved
loop-row-preserved g c =
    rows_next g.R.Row.table g.R.Row.cells _ c.args.rows.now c.loop-row.row-index _ c.args.writer.now c.loop-row.writer
    c.put.new.writer c.loop-row-test.true c.row-item.is c.loop-row.invariant c.put.ensures

pub returns : goal.returns
returns g c =
    rows_done g.R.Row.table g.R.Row.cells _ c.args.rows.now c.loop-row.row-index c.args.writer.now c.loop-row.writer
    c.loop-row-test.false c.loop-row.invariant
