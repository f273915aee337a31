use Rattle.std.proofs.Common.{◌≡◌, ◌+◌, drop}
use Rattle.image_maker.specs.MethodsPut.{Starts}
use Rattle.image_maker.proofs.RowPutsMethods.{MethodsLeft}
use Rattle.image_maker.proofs.ParamRows.{params_of}
use Rattle.image_maker.proofs.rows.put_methods_of.Given as goal

abbrev pub invariant-loop-row : goal.invariant-loop-row
invariant-loop-row l = record {
  left : MethodsLeft l.first l.methods l.param (drop l.row-index l.methods) l.fn.writer l.writer;
  starts : Starts l.param (drop l.row-index l.methods);
  sum : l.param + params_of (drop l.row-index l.methods) ≡ l.first + params_of l.methods;
}
