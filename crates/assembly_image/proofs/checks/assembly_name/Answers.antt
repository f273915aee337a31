use Rattle.std.proofs.Common.{◌≡◌, true, refl, sym, ap, ◌∙◌}
use Rattle.meta_heaps.specs.Heaps.{string_at}
use Rattle.metadata_tables.specs.Layout.{has_row}
use Rattle.assembly_image.specs.Cells.{bytes_in, value_in}
use Rattle.assembly_image.proofs.RowLemmas.{this_value, name_column}
use Rattle.assembly_image.proofs.checks.assembly_name.Goals as goal

pub returns-in-Some : goal.returns-in-Some
returns-in-Some c =
    let bytes = c.args.bytes.now in
    let layout = c.args.tables.now in
    let there : has_row layout 0x20 1 ≡ true = (let one = c.requires.one in rw one refl) in
    let index = c.value_in.ensures ∙ ap (λ r. value_in r 7) c.row-row.ensures ∙ this_value bytes layout 0x20 1 7 there name_column in
    c.cut.ensures ∙ ap (bytes_in bytes) (sym c.in-Some.is ∙ c.string.ensures.found ∙ ap (string_at bytes c.args.root.now.strings) index)

pub returns-in-None : goal.returns-in-None
returns-in-None c =
    let bytes = c.args.bytes.now in
    let layout = c.args.tables.now in
    let there : has_row layout 0x20 1 ≡ true = (let one = c.requires.one in rw one refl) in
    let index = c.value_in.ensures ∙ ap (λ r. value_in r 7) c.row-row.ensures ∙ this_value bytes layout 0x20 1 7 there name_column in
    ap (bytes_in bytes) (sym c.in-None.is ∙ c.string.ensures.found ∙ ap (string_at bytes c.args.root.now.strings) index)
