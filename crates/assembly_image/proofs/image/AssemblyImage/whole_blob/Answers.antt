use Rattle.std.proofs.Common.{◌≡◌, ◌<◌, List, ℕ, true, is_some, length, Option, Some, None, sym, ap, ◌∙◌}
use Rattle.cli_words.specs.declared.span.Span.{Span}
use Rattle.meta_heaps.specs.declared.heap.Root.{Root}
use Rattle.cli_words.specs.Span.{cut}
use Rattle.meta_heaps.specs.Heaps.{blob_at}
use Rattle.metadata_tables.specs.Columns.{columns_of}
use Rattle.metadata_tables.specs.Layout.{row_of, has_row}
use Rattle.assembly_image.specs.Cells.{bytes_in, value_in, value_at}
use Rattle.assembly_image.specs.Reading.{heaps_of, tables_of, module_of}
use Rattle.assembly_image.proofs.RowLemmas.{this_value}
use Rattle.assembly_image.proofs.Facts.{row_there, blob_inside, blob_is}
use Rattle.assembly_image.proofs.image.AssemblyImage.whole_blob.Goals as goal

-- what is found at the index that was read
found : (bytes second : List ℕ) (root : Root) (table n k index : ℕ) → second ≡ bytes → root ≡ heaps_of bytes
    → index ≡ value_in (row_of bytes (tables_of bytes) table n) k
    → has_row (tables_of bytes) table n ≡ true → k < length (columns_of table)
    → (o : Option Span) → o ≡ blob_at second root.blobs index
    → o ≡ blob_at bytes (heaps_of bytes).blobs (value_at bytes (tables_of bytes) table n k)
found bytes second root table n k index same heaps read there within o is =
    is ∙ ap (λ (b : List ℕ). blob_at b root.blobs index) same
    ∙ ap (λ (r : Root). blob_at bytes r.blobs index) heaps
    ∙ ap (blob_at bytes (heaps_of bytes).blobs) (read ∙ this_value bytes (tables_of bytes) table n k there within)

no_blob : (o : Option Span) → o ≡ None → is_some o ≡ true → ⊥
no_blob None e some = cc
no_blob (Some span) e some = cc

pub returns-in-Some : goal.returns-in-Some
returns-in-Some c =
    let held = c.args.self.now in
    let table = c.args.table in
    let n = c.args.n in
    let k = c.args.k in
    let m = module_of held in
    let reads = c.bytes.ensures.reads in
    let heaps : c.self.inside.root ≡ heaps_of held = c.self.invariant.parts.heaps ∙ ap heaps_of c.self.view_is in
    let there = row_there held m reads table n k c.requires.row c.requires.column in
    let is = found held _ _ table n k _ c.bytes.ensures.bytes heaps c.index-index.ensures.value there c.requires.column _ c.blob.ensures.found in
    c.cut.ensures ∙ ap (λ (bytes : List ℕ). cut bytes c.in-Some.span) c.bytes-in-Some.ensures.bytes
    ∙ ap (bytes_in held) (sym c.in-Some.is ∙ is)
    ∙ sym (blob_is held m reads table n k c.requires.row c.requires.column c.requires.blobs)

pub returns-in-None : goal.returns-in-None
returns-in-None c =
    let held = c.args.self.now in
    let table = c.args.table in
    let n = c.args.n in
    let k = c.args.k in
    let m = module_of held in
    let reads = c.bytes.ensures.reads in
    let heaps : c.self.inside.root ≡ heaps_of held = c.self.invariant.parts.heaps ∙ ap heaps_of c.self.view_is in
    let there = row_there held m reads table n k c.requires.row c.requires.column in
    let is = found held _ _ table n k _ c.bytes.ensures.bytes heaps c.index-index.ensures.value there c.requires.column _ c.blob.ensures.found in
    absurd (no_blob _ (sym is ∙ c.in-None.is) (blob_inside held m reads table n k c.requires.row c.requires.column c.requires.blobs))
