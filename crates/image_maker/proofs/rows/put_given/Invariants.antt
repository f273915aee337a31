use Rattle.std.proofs.Common.{drop}
use Rattle.image_maker.specs.Rows.{given_rows}
use Rattle.image_maker.specs.Written.{table_cells}
use Rattle.image_maker.proofs.RowPuts.{Left}
use Rattle.image_maker.proofs.rows.put_given.Given as goal

abbrev pub invariant-loop-row : goal.invariant-loop-row
invariant-loop-row l =
    Left (table_cells l.table (given_rows l.table l.given)) (table_cells l.table
    (given_rows l.table (drop l.row-index l.given)))
    l.fn.writer l.writer
