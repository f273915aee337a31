use Rattle.std.proofs.Common.{◌≡◌, true}
use Rattle.std.specs.Prelude.{slice_index_or}
use Rattle.std.specs.List.{list_all, range_with_len}
use Rattle.metadata_tables.specs.declared.schema.Column.TheVariants.{U8}
use Rattle.image_maker.specs.declared.module.Cell.TheVariants.{Number}
use Rattle.image_maker.specs.Sound as spec
use Rattle.image_maker.proofs.sound.are_cells_fitting.Given as goal

abbrev pub invariant-loop-k : goal.invariant-loop-k
invariant-loop-k l =
    list_all (λ k. spec.fits (slice_index_or l.columns k U8) (slice_index_or l.row k (Number 0)))
    (range_with_len 0 l.k) ≡ true
