use Rattle.std.proofs.Common.{◌≡◌, ◌-◌, length, sym, subst, ap, ◌∙◌, arith}
use Rattle.std.proofs.lemmas.List.{length-replicate}
use Rattle.assembly_image.specs.Cells.{value_in}
use Rattle.assembly_image.specs.Image.{AreOuter}
use Rattle.assembly_image.specs.Reading.{module_of}
use Rattle.assembly_image.proofs.ImageLemmas.{counted, number_told}
use Rattle.assembly_image.proofs.EncloserLemmas.{are_outer_first, are_outer_next, rows_next, are_all, nested_columns}
use Rattle.assembly_image.proofs.reading.read_enclosers.Goals as goal

pub loop-after-init : goal.loop-after-init
loop-after-init c =
    let bytes = c.args.bytes.now in
    let parts = c.args.parts.now in
    let zeros = c.in_ok-enclosers.ensures.items_if_clones_equal (λ y same. same) in
    are_outer_first (module_of bytes) c.count-types.result c.count-rows.result
    (c.count-types.ensures ∙ counted bytes parts.pe parts.root parts.tables c.requires 0x02 (omega arith))
    _ zeros (ap length zeros ∙ length-replicate c.count-types.result 0)

pub loop-after-preserved : goal.loop-after-preserved
loop-after-preserved c =
    let bytes = c.args.bytes.now in
    let parts = c.args.parts.now in
    let rows = c.count-rows.result in
    let after = c.loop-after.after in
    let columns = nested_columns in
    let first = c.value_in-nested.ensures ∙ ap (λ r. value_in r 0) c.row-row.ensures
    ∙ number_told bytes parts.pe parts.root parts.tables c.requires 0x29 (rows - after) 0 columns.0 columns.1 in
    let second = c.value_in-enclosing.ensures ∙ ap (λ r. value_in r 1) c.row-row.ensures
    ∙ number_told bytes parts.pe parts.root parts.tables c.requires 0x29 (rows - after) 1 columns.2 columns.3 in
    subst (λ ns. AreOuter (module_of bytes) ns c.enclose.new.enclosers.items) (sym (rows_next rows after c.loop-after-test.true))
    (are_outer_next (module_of bytes) (rows - after) _ _ _ _ _ first second c.loop-after.invariant c.enclose.ensures)

pub returns : goal.returns
returns c =
    let bytes = c.args.bytes.now in
    let parts = c.args.parts.now in
    let end : c.loop-after.after ≡ c.count-rows.result = omega arith in
    are_all (module_of bytes) c.count-rows.result c.loop-after.after _ end
    (c.count-rows.ensures ∙ counted bytes parts.pe parts.root parts.tables c.requires 0x29 (omega arith)) c.loop-after.invariant
