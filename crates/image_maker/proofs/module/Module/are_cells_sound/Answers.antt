use Rattle.std.proofs.Common.{length, sym, ◌∙◌, ap}
use Rattle.std.specs.Prelude.{slice_index_or}
use Rattle.metadata_tables.specs.declared.schema.Column.TheVariants.{U8}
use Rattle.image_maker.specs.declared.module.Cell.TheVariants.{Number}
use Rattle.image_maker.specs.Sound as spec
use Rattle.image_maker.specs.Tally.{layout_of}
use Rattle.image_maker.proofs.ListSteps.{same_read}
use Rattle.image_maker.proofs.RangeLemmas.{all_next, all_stops}
use Rattle.image_maker.proofs.module.Module.are_cells_sound.Goals as goal

pub returns-then-not-is_cell_sound : goal.returns-then-not-is_cell_sound
returns-then-not-is_cell_sound c =
    let m = c.args.self.now in
    let column = slice_index_or c.args.columns.now c.loop-k.k U8 in
    let row = c.args.row.now in
    let before = c.args.before.now in
    let here = c.is_cell_sound.ensures
    ∙ ap (λ b. spec.is_value_sound (layout_of m) (length m.guids) column b c.index-row-k.result) c.number_at.ensures
    ∙ ap (spec.is_value_sound (layout_of m) (length m.guids) column (spec.number_at before c.loop-k.k))
    (same_read row c.loop-k.k c.index-row-k.result c.loop-k-test.true c.index-row-k.is (Number 0)) in
    sym (all_stops (λ k. spec.is_value_sound (layout_of m) (length m.guids) (slice_index_or c.args.columns.now k U8)
    (spec.number_at before k)
    (slice_index_or row k (Number 0))) c.loop-k.k _ c.loop-k-test.true (sym here ∙ c.if-not-is_cell_sound.true))

pub loop-k-preserved : goal.loop-k-preserved
loop-k-preserved c =
    let m = c.args.self.now in
    let column = slice_index_or c.args.columns.now c.loop-k.k U8 in
    let row = c.args.row.now in
    let before = c.args.before.now in
    let here = c.is_cell_sound.ensures
    ∙ ap (λ b. spec.is_value_sound (layout_of m) (length m.guids) column b c.index-row-k.result) c.number_at.ensures
    ∙ ap (spec.is_value_sound (layout_of m) (length m.guids) column (spec.number_at before c.loop-k.k))
    (same_read row c.loop-k.k c.index-row-k.result c.loop-k-test.true c.index-row-k.is (Number 0)) in
    all_next (λ k. spec.is_value_sound (layout_of m) (length m.guids) (slice_index_or c.args.columns.now k U8)
    (spec.number_at before k)
    (slice_index_or row k (Number 0))) c.loop-k.k c.loop-k.invariant (sym here ∙ c.if-not-is_cell_sound.false)
