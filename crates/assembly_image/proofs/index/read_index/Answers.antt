use Rattle.std.proofs.Common.{◌≡◌, ◌+◌, ◌-◌, ◌<◌, ℕ, length, replicate, ap, subst, ◌∙◌, arith}
use Rattle.std.proofs.lemmas.List.{length-replicate}
use Rattle.std.specs.Option.{unwrap_or}
use Rattle.metadata_tables.specs.declared.layout.Layout.{Layout}
use Rattle.metadata_tables.specs.Layout.{count_of, row_of}
use Rattle.metadata_tables.specs.Tables as tables
use Rattle.assembly_image.specs.Cells.{value_in}
use Rattle.assembly_image.specs.Index.{IsIndex, IsLinked, table_by, column_by, value_by, value_in_row}
use Rattle.assembly_image.specs.Module.{count}
use Rattle.assembly_image.specs.Reading.{module_of}
use Rattle.assembly_image.proofs.ImageLemmas.{count_as, number_is}
use Rattle.assembly_image.proofs.IndexLemmas.{table_known, column_known, index_first, index_next}
use Rattle.assembly_image.proofs.RowLemmas.{number_or}
use Rattle.assembly_image.proofs.index.read_index.Goals as goal

pub loop-after-init : goal.loop-after-init
loop-after-init c =
    let bytes = c.args.bytes.now in
    let m = module_of bytes in
    let by = c.args.by in
    let layout = c.args.tables.now in
    let rows : c.count-rows.result ≡ count m (table_by by) =
    c.count-rows.ensures ∙ ap (count_of layout) c.table_of.ensures ∙ ap (λ (t : Layout). count_of t (table_by by)) c.requires.tables
    ∙ count_as bytes (table_by by) (table_known by) in
    let types : c.count.result ≡ count m tables.type_def =
    c.count.ensures ∙ ap (λ (t : Layout). count_of t tables.type_def) c.requires.tables ∙ count_as bytes tables.type_def (omega arith) in
    let limit : c.value_of-limit.result + 1 ≡ value_by by (count m tables.type_def) + 1 =
    ap (λ (v : ℕ). v + 1) (c.value_of-limit.ensures ∙ ap (value_by by) types) in
    let zeros = c.in_ok-first.ensures.items_if_clones_equal (λ y same. same) ∙ ap (λ (n : ℕ). replicate n 0) limit in
    let nexts = c.in_ok-next.ensures.items_if_clones_equal (λ y same. same) in
    index_first (value_in_row m by) (value_by by (count m tables.type_def) + 1) (count m (table_by by)) _ _ zeros
    (ap length zeros ∙ length-replicate (value_by by (count m tables.type_def) + 1) 0)
    (ap length nexts ∙ length-replicate c.count-rows.result 0 ∙ rows)

pub loop-after-preserved : goal.loop-after-preserved
loop-after-preserved c =
    let bytes = c.args.bytes.now in
    let m = module_of bytes in
    let by = c.args.by in
    let layout = c.args.tables.now in
    let after = c.loop-after.after in
    let rows : c.count-rows.result ≡ count m (table_by by) =
    c.count-rows.ensures ∙ ap (count_of layout) c.table_of.ensures ∙ ap (λ (t : Layout). count_of t (table_by by)) c.requires.tables
    ∙ count_as bytes (table_by by) (table_known by) in
    let n = c.count-rows.result - after in
    let column = column_known by in
    let value = c.unwrap_or-value.result in
    let read : value ≡ value_in_row m by n =
    c.unwrap_or-value.ensures ∙ ap (λ o. unwrap_or o 0) c.number.ensures.row
    ∙ number_or (row_of bytes layout c.table_of-in-loop-after.result n) c.column_of.result
    ∙ ap (λ (t : ℕ). value_in (row_of bytes layout t n) c.column_of.result) c.table_of-in-loop-after.ensures
    ∙ ap (λ (k : ℕ). value_in (row_of bytes layout (table_by by) n) k) c.column_of.ensures
    ∙ ap (λ (t : Layout). value_in (row_of bytes t (table_by by) n) (column_by by)) c.requires.tables
    ∙ number_is bytes (table_by by) n (column_by by) column.0 column.1 in
    let h : after < count m (table_by by) = subst (λ (r : ℕ). after < r) rows c.loop-after-test.true in
    let step : IsLinked c.loop-after.first.items c.link.new.first.items c.loop-after.next.items c.link.new.next.items (count m (table_by by) - after) value =
    subst (λ (r : ℕ). IsLinked c.loop-after.first.items c.link.new.first.items c.loop-after.next.items c.link.new.next.items (r - after) value) rows c.link.ensures in
    index_next (value_in_row m by) (value_by by (count m tables.type_def) + 1) (count m (table_by by)) after value
    _ _ _ _ h (read ∙ ap (λ (r : ℕ). value_in_row m by (r - after)) rows) c.loop-after.invariant step

pub returns : goal.returns
returns c =
    let bytes = c.args.bytes.now in
    let m = module_of bytes in
    let by = c.args.by in
    let layout = c.args.tables.now in
    let rows : c.count-rows.result ≡ count m (table_by by) =
    c.count-rows.ensures ∙ ap (count_of layout) c.table_of.ensures ∙ ap (λ (t : Layout). count_of t (table_by by)) c.requires.tables
    ∙ count_as bytes (table_by by) (table_known by) in
    let end : c.loop-after.after ≡ c.count-rows.result = omega arith in
    subst (λ (a : ℕ). IsIndex (value_in_row m by) (value_by by (count m tables.type_def) + 1) (count m (table_by by)) a c.loop-after.first.items c.loop-after.next.items)
    (end ∙ rows) c.loop-after.invariant
