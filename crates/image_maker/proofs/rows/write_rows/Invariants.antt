use Rattle.std.proofs.Common.{◌≡◌, []}
use Rattle.image_maker.specs.File.{rva_of}
use Rattle.image_maker.specs.Rows.{all_methods, rows_of}
use Rattle.image_maker.specs.Written.{Holds, cells_below}
use Rattle.image_maker.proofs.rows.write_rows.Given as goal

abbrev pub invariant-loop-table : goal.invariant-loop-table
invariant-loop-table l = record {
  layout : l.writer.layout ≡ l.fn.layout;
  holds : Holds (cells_below (rows_of l.source (rva_of (all_methods l.source))) l.table) [] l.writer;
}

abbrev pub invariant-loop-table-2 : goal.invariant-loop-table-2
invariant-loop-table-2 l = record {
  layout : l.writer.layout ≡ l.fn.layout;
  holds : Holds (cells_below (rows_of l.source (rva_of (all_methods l.source))) l.table)
      (all_methods l.source) l.writer;
}
