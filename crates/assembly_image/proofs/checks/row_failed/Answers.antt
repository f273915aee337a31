use Rattle.std.proofs.Common.{◌<◌, length, Some, sym, ap, subst, ◌∙◌, zero-add}
use Rattle.std.specs.Option.{option_map}
use Rattle.metadata_tables.specs.Columns.{columns_of}
use Rattle.metadata_tables.specs.Layout.{column_at}
use Rattle.assembly_image.specs.Checks.{column_checks}
use Rattle.assembly_image.specs.Checks.{failed_at}
use Rattle.assembly_image.proofs.RowLemmas.{column_read, goes_on, stops}
use Rattle.assembly_image.proofs.checks.row_failed.Goals as goal

pub returns-in-Some : goal.returns-in-Some
returns-in-Some c =
    let layout = c.args.tables.now in
    let k = c.loop-k.k in
    let within : k < length (columns_of c.args.table) = subst (λ xs. k < length xs) c.columns-columns.ensures.value c.loop-k-test.true in
    let told = column_read c.args.bytes.now c.args.root.now layout c.args.table c.args.n k c.requires.has_row
    _ c.columns-columns.ensures.value c.loop-k-test.true _ _ _ c.requires.before c.requires.row
    _ _ c.value_in-least.ensures c.value_in-value.ensures _ c.value_failed.ensures in
    sym (stops (column_checks c.args.bytes.now c.args.root.now layout c.args.table c.args.n) 0 k k _ c.failed_at.result c.loop-k.invariant
    (told ∙ ap (option_map (failed_at (column_at layout c.args.table c.args.n k))) c.in-Some.is ∙ ap Some (sym c.failed_at.ensures))
    (sym (zero-add k)) within)

pub loop-k-preserved : goal.loop-k-preserved
loop-k-preserved c =
    let layout = c.args.tables.now in
    let k = c.loop-k.k in
    let told = column_read c.args.bytes.now c.args.root.now layout c.args.table c.args.n k c.requires.has_row
    _ c.columns-columns.ensures.value c.loop-k-test.true _ _ _ c.requires.before c.requires.row
    _ _ c.value_in-least.ensures c.value_in-value.ensures _ c.value_failed.ensures in
    goes_on (column_checks c.args.bytes.now c.args.root.now layout c.args.table c.args.n) 0 k k c.loop-k.invariant
    (told ∙ ap (option_map (failed_at (column_at layout c.args.table c.args.n k))) c.in_default.is) (sym (zero-add k))
