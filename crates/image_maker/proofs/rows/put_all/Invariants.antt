use Rattle.std.proofs.Common.{drop, map}
use Rattle.image_maker.specs.Written.{table_cells}
use Rattle.image_maker.proofs.RowPuts.{Left}
use Rattle.image_maker.proofs.rows.put_all.Given as goal

abbrev pub invariant-loop-row : goal.invariant-loop-row
invariant-loop-row g l =
    Left (table_cells g.R.Row.table (map g.R.Row.cells l.rows)) (table_cells g.R.Row.table
    (map g.R.Row.cells (drop l.row-index l.rows)))
    l.fn.writer l.writer
