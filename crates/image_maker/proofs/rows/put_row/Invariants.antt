use Rattle.std.proofs.Common.{drop, map}
use Rattle.image_maker.specs.Held.{cell_of}
use Rattle.image_maker.specs.Written.{row_cells}
use Rattle.image_maker.proofs.RowPuts.{Left}
use Rattle.image_maker.proofs.rows.put_row.Given as goal

abbrev pub invariant-loop-k : goal.invariant-loop-k
invariant-loop-k l =
    Left (row_cells l.table (map cell_of l.cells)) (drop l.k (row_cells l.table (map cell_of l.cells)))
    l.fn.writer l.writer
