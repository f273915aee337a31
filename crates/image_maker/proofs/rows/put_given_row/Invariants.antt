use Rattle.std.proofs.Common.{drop}
use Rattle.image_maker.specs.Written.{row_cells}
use Rattle.image_maker.proofs.RowPuts.{Left}
use Rattle.image_maker.proofs.rows.put_given_row.Given as goal

abbrev pub invariant-loop-k : goal.invariant-loop-k
invariant-loop-k l =
    Left (row_cells l.table l.cells) (drop l.k (row_cells l.table l.cells)) l.fn.writer l.writer
