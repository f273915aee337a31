use Rattle.std.proofs.Common.{◌≡◌, true}
use Rattle.std.specs.Prelude.{slice_index_or, length}
use Rattle.image_maker.specs.Tally.{layout_of}
use Rattle.std.specs.List.{list_all, range_with_len}
use Rattle.metadata_tables.specs.declared.schema.Column.TheVariants.{U8}
use Rattle.image_maker.specs.declared.module.Cell.TheVariants.{Number}
use Rattle.image_maker.specs.Sound as spec
use Rattle.image_maker.proofs.module.Module.are_cells_sound.Given as goal

abbrev pub invariant-loop-k : goal.invariant-loop-k
invariant-loop-k l =
    list_all (λ k. spec.is_value_sound (layout_of l.self) (length l.self.guids) (slice_index_or l.columns k U8)
    (spec.number_at l.before k)
    (slice_index_or l.row k (Number 0))) (range_with_len 0 l.k) ≡ true
