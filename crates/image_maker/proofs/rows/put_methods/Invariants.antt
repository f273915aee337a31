use Rattle.std.proofs.Common.{drop}
use Rattle.std.specs.List.{flat_map}
use Rattle.image_maker.specs.MethodsPut.{Starts}
use Rattle.image_maker.proofs.RowPutsMethods.{MethodsLeft}
use Rattle.image_maker.proofs.rows.put_methods.Given as goal

abbrev pub invariant-loop-row : goal.invariant-loop-row
invariant-loop-row l = record {
  left : MethodsLeft 1 (flat_map (λ t. t.methods) l.types) l.param
      (flat_map (λ t. t.methods) (drop l.row-index l.types))
      l.fn.writer l.writer;
  starts : Starts l.param (flat_map (λ t. t.methods) (drop l.row-index l.types));
}
