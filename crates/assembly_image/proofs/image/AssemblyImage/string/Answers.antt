use Rattle.std.proofs.Common.{◌≡◌, ◌<◌, List, ℕ, true, length, Option, subst, sym, ap, ◌∙◌}
use Rattle.std.specs.Str.{IsUtf8}
use Rattle.cli_words.specs.declared.span.Span.{Span}
use Rattle.cli_words.specs.Text.{units_of}
use Rattle.meta_heaps.specs.declared.heap.Root.{Root}
use Rattle.cli_words.specs.Span.{cut}
use Rattle.meta_heaps.specs.Heaps.{string_at}
use Rattle.metadata_tables.specs.Columns.{columns_of}
use Rattle.metadata_tables.specs.Layout.{row_of, has_row}
use Rattle.assembly_image.specs.Cells.{bytes_in, value_in, value_at}
use Rattle.assembly_image.specs.Reading.{heaps_of, tables_of, module_of}
use Rattle.assembly_image.proofs.RowLemmas.{this_value}
use Rattle.assembly_image.proofs.ImageLemmas.{good_string, no_string}
use Rattle.assembly_image.proofs.Facts.{row_there, string_good, text_is}
use Rattle.assembly_image.proofs.image.AssemblyImage.string.Goals as goal

-- what is found at the index that was read
found : (bytes second : List ℕ) (root : Root) (table n k index : ℕ) → second ≡ bytes → root ≡ heaps_of bytes
    → index ≡ value_in (row_of bytes (tables_of bytes) table n) k
    → has_row (tables_of bytes) table n ≡ true → k < length (columns_of table)
    → (o : Option Span) → o ≡ string_at second root.strings index
    → o ≡ string_at bytes (heaps_of bytes).strings (value_at bytes (tables_of bytes) table n k)
found bytes second root table n k index same heaps read there within o is =
    is ∙ ap (λ (b : List ℕ). string_at b root.strings index) same
    ∙ ap (λ (r : Root). string_at bytes r.strings index) heaps
    ∙ ap (string_at bytes (heaps_of bytes).strings) (read ∙ this_value bytes (tables_of bytes) table n k there within)

pub text-requires : goal.text-requires
text-requires c =
    let held = c.args.self.now in
    let table = c.args.table in
    let n = c.args.n in
    let k = c.args.k in
    let m = module_of held in
    let reads = c.bytes.ensures.reads in
    let heaps : c.self.inside.root ≡ heaps_of held = c.self.invariant.parts.heaps ∙ ap heaps_of c.self.view_is in
    let there = row_there held m reads table n k c.requires.row c.requires.column in
    let is = found held _ _ table n k _ c.bytes.ensures.bytes heaps c.index-index.ensures.value there c.requires.column _ c.string.ensures.found in
    let same = c.cut.ensures ∙ ap (λ (bytes : List ℕ). cut bytes c.in-Some.span) c.bytes-in-Some.ensures.bytes in
    subst (λ (bytes : List ℕ). IsUtf8 bytes) (sym same)
    (good_string held _ c.in-Some.span (sym is ∙ c.in-Some.is) (string_good held m reads table n k c.requires.row c.requires.column c.requires.strings))

pub returns-in-Some : goal.returns-in-Some
returns-in-Some c =
    let held = c.args.self.now in
    let table = c.args.table in
    let n = c.args.n in
    let k = c.args.k in
    let m = module_of held in
    let reads = c.bytes.ensures.reads in
    let heaps : c.self.inside.root ≡ heaps_of held = c.self.invariant.parts.heaps ∙ ap heaps_of c.self.view_is in
    let there = row_there held m reads table n k c.requires.row c.requires.column in
    let is = found held _ _ table n k _ c.bytes.ensures.bytes heaps c.index-index.ensures.value there c.requires.column _ c.string.ensures.found in
    let same = c.cut.ensures ∙ ap (λ (bytes : List ℕ). cut bytes c.in-Some.span) c.bytes-in-Some.ensures.bytes in
    ap units_of (c.text.ensures ∙ same ∙ ap (bytes_in held) (sym c.in-Some.is ∙ is))
    ∙ sym (text_is held m reads table n k c.requires.row c.requires.column c.requires.strings)

pub returns-in-None : goal.returns-in-None
returns-in-None c =
    let held = c.args.self.now in
    let table = c.args.table in
    let n = c.args.n in
    let k = c.args.k in
    let m = module_of held in
    let reads = c.bytes.ensures.reads in
    let heaps : c.self.inside.root ≡ heaps_of held = c.self.invariant.parts.heaps ∙ ap heaps_of c.self.view_is in
    let there = row_there held m reads table n k c.requires.row c.requires.column in
    let is = found held _ _ table n k _ c.bytes.ensures.bytes heaps c.index-index.ensures.value there c.requires.column _ c.string.ensures.found in
    absurd (no_string held _ (sym is ∙ c.in-None.is) (string_good held m reads table n k c.requires.row c.requires.column c.requires.strings))
