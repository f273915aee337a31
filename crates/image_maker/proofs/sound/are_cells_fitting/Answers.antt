use Rattle.std.proofs.Common.{sym, ap, ◌∙◌}
use Rattle.std.specs.Prelude.{slice_index_or}
use Rattle.metadata_tables.specs.declared.schema.Column.TheVariants.{U8}
use Rattle.image_maker.specs.declared.module.Cell.TheVariants.{Number}
use Rattle.image_maker.specs.Sound as spec
use Rattle.image_maker.proofs.ListSteps.{same_read}
use Rattle.image_maker.proofs.RangeLemmas.{all_next, all_stops}
use Rattle.image_maker.proofs.sound.are_cells_fitting.Goals as goal

pub returns-then-not-fits : goal.returns-then-not-fits
returns-then-not-fits c =
    let columns = c.args.columns.now in
    let row = c.args.row.now in
    let here = c.fits.ensures ∙ ap (spec.fits (slice_index_or columns c.loop-k.k U8))
    (same_read row c.loop-k.k c.index-row-k.result c.loop-k-test.true c.index-row-k.is (Number 0)) in
    sym (all_stops (λ k. spec.fits (slice_index_or columns k U8) (slice_index_or row k (Number 0))) c.loop-k.k _
    c.loop-k-test.true
    (sym here ∙ c.if-not-fits.true))

pub loop-k-preserved : goal.loop-k-preserved
loop-k-preserved c =
    let columns = c.args.columns.now in
    let row = c.args.row.now in
    let here = c.fits.ensures ∙ ap (spec.fits (slice_index_or columns c.loop-k.k U8))
    (same_read row c.loop-k.k c.index-row-k.result c.loop-k-test.true c.index-row-k.is (Number 0)) in
    all_next (λ k. spec.fits (slice_index_or columns k U8) (slice_index_or row k (Number 0))) c.loop-k.k
    c.loop-k.invariant
    (sym here ∙ c.if-not-fits.false)
