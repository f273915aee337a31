use Rattle.std.proofs.Common.{◌≡◌, ◌^◌, ◌<◌, ℕ, List, sym, ap, subst, ◌∙◌}
use Rattle.metadata_tables.specs.declared.layout.Layout.{Layout}
use Rattle.metadata_tables.specs.Layout.{row_of}
use Rattle.assembly_image.specs.Cells.{value_in}
use Rattle.assembly_image.specs.Reading.{tables_of}
use Rattle.std.specs.Option.{unwrap_or}
use Rattle.assembly_image.proofs.RowLemmas.{number_or}
use Rattle.assembly_image.proofs.VersionLemmas.{word_read}
use Rattle.assembly_image.proofs.image.AssemblyImage.index.Goals as goal

pub returns-clause-value : goal.returns-clause-value
returns-clause-value c =
    let held = c.args.self.now in
    let table = c.args.table in
    let n = c.args.n in
    let k = c.args.k in
    let layout = c.self.inside.tables in
    let same : layout ≡ tables_of held = c.self.invariant.parts.streams ∙ ap tables_of c.self.view_is in
    c.unwrap_or.ensures ∙ ap (λ o. unwrap_or o 0) c.number.ensures.row ∙ number_or (row_of c.bytes.result.now layout table n) k
    ∙ ap (λ (bytes : List ℕ). value_in (row_of bytes layout table n) k) c.bytes.ensures.bytes
    ∙ ap (λ (t : Layout). value_in (row_of held t table n) k) same

pub returns-clause-range : goal.returns-clause-range
returns-clause-range c = λ word.
    let held = c.args.self.now in
    let table = c.args.table in
    let n = c.args.n in
    let k = c.args.k in
    let layout = c.self.inside.tables in
    let read = c.unwrap_or.ensures ∙ ap (λ o. unwrap_or o 0) c.number.ensures.row ∙ number_or (row_of c.bytes.result.now layout table n) k
    ∙ ap (λ (bytes : List ℕ). value_in (row_of bytes layout table n) k) c.bytes.ensures.bytes in
    subst (λ (v : ℕ). v < 2 ^ 16) (sym read) (word_read held layout table n k c.bytes.ensures.range c.requires word)
