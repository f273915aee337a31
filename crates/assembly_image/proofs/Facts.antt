-- What each check of an image tells of a column of a row that is there, by what the image holds.
use Rattle.std.proofs.Common.{◌≡◌, ℕ, zero, suc, ◌+◌, ◌-◌, ◌*◌, ◌^◌, ◌<◌, ◌≤◌, ◌==◌, ◌&&◌, nat_le, true, false, List, length, Option, Some, None, is_some, refl, sym, ap, subst, ◌∙◌, arith, drop}
use Rattle.std.proofs.lemmas.Bool.{and_parts}
use Rattle.std.proofs.lemmas.List.{length-take}
use Rattle.std.proofs.lemmas.Bool.Decides.{nat_tests}
use Rattle.std.proofs.str.Lossy.{IsUtf8-from_is_utf8}
use Rattle.std.specs.Str.{IsUtf8}
use Rattle.cli_words.specs.Check.{first_fault}
use Rattle.cli_words.specs.Text.{units_of}
use Rattle.cli_words.specs.declared.span.Span.{Span}
use Rattle.cli_words.proofs.FirstFault.{both_none}
use Rattle.pe_image.specs.Checks.{pe_checks}
use Rattle.meta_heaps.specs.declared.heap.Root.{Root}
use Rattle.cli_words.specs.Span.{cut}
use Rattle.meta_heaps.specs.Heaps.{string_at, blob_at}
use Rattle.meta_heaps.specs.Reading.{root_checks}
use Rattle.metadata_tables.specs.declared.layout.Layout.{Layout}
use Rattle.metadata_tables.specs.declared.schema.Column.{Column}
use Rattle.metadata_tables.specs.declared.schema.Column.TheVariants.{Strings, Guid, Blob, Table, List as ListColumn, Coded}
use Rattle.metadata_tables.specs.declared.schema.CodedIndex.{CodedIndex}
use Rattle.metadata_tables.specs.Columns.{columns_of, target_of, column_of}
use Rattle.metadata_tables.specs.Layout.{count_of}
use Rattle.metadata_tables.specs.Layout as layouts
use Rattle.metadata_tables.specs.Reading.{checks as stream_checks}
use Rattle.assembly_image.specs.Module.{Cell, Module, has_row, count, cell, number, text, blob, number_in as number_of, text_in, blob_in}
use Rattle.assembly_image.specs.Cells.{cell_of, value_at, bytes_in}
use Rattle.assembly_image.specs.Checks.{content_checks, is_inside, is_in_order, is_text, is_string, has_target, value_before}
use Rattle.assembly_image.specs.Reading.{metadata_of, heaps_of, tables_of, module_in, module_of, Reads}
use Rattle.assembly_image.proofs.ModuleLemmas.{known, count_held, cell_held}
use Rattle.assembly_image.proofs.PassLemmas.{inside_passes, order_passes, text_passes}
use Rattle.assembly_image.proofs.FewRows.{few_if_pass}

held_as : (bytes : List ℕ) (m : Module) → Reads bytes m → m ≡ module_in bytes (heaps_of bytes) (tables_of bytes)
unfolding module_of
held_as bytes m reads = reads.holds

module _ (bytes : List ℕ) (m : Module) (reads : Reads bytes m) where
  abbrev root : Root
  root = heaps_of bytes

  abbrev layout : Layout
  layout = tables_of bytes

  -- the checks of the rows pass
  pub content_passes : first_fault (content_checks bytes (heaps_of bytes) (tables_of bytes)) ≡ None
  content_passes =
      (both_none (stream_checks bytes root.tables) _
      (both_none (root_checks bytes (metadata_of bytes)) _ (both_none (pe_checks bytes) _ reads.passes).1).1).1

  streams_pass : first_fault (stream_checks bytes root.tables) ≡ None
  streams_pass =
      (both_none (stream_checks bytes root.tables) _
      (both_none (root_checks bytes (metadata_of bytes)) _ (both_none (pe_checks bytes) _ reads.passes).1).1).0

  pub same_count : (table : ℕ) → table < 45 → count m table ≡ count_of (tables_of bytes) table
  same_count table h =
      ap (λ (held : Module). count held table) (held_as bytes m reads) ∙ count_held bytes root layout table h

  pub few_rows : (table : ℕ) → table < 45 → count m table < 2 ^ 24
  unfolding tables_of
  few_rows table h = subst (λ n. n < 2 ^ 24) (sym (same_count table h)) (few_if_pass bytes root.tables streams_pass table)

  same_rows : (table n : ℕ) → table < 45 → has_row m table n ≡ true → layouts.has_row layout table n ≡ true
  same_rows table n h there = ap (λ (c : ℕ). nat_le 1 n && nat_le n c) (sym (same_count table h)) ∙ there

  module _ (table n k : ℕ) (there : has_row m table n ≡ true) (within : k < length (columns_of table)) where
    abbrev value : ℕ
    value = value_at bytes layout table n k

    pub row_there : layouts.has_row (tables_of bytes) table n ≡ true
    row_there = same_rows table n (known table k within) there

    cell_is : cell m table n k ≡ cell_of bytes root (column_of table k) value
    cell_is =
        ap (λ (held : Module). cell held table n k) (held_as bytes m reads)
        ∙ cell_held bytes root layout table n k row_there within

    cell_as : (column : Column) → column_of table k ≡ column → cell m table n k ≡ cell_of bytes root column value
    cell_as column e = cell_is ∙ ap (λ (c : Column). cell_of bytes root c value) e

    inside_as : (column : Column) → column_of table k ≡ column → is_inside bytes root layout column value ≡ true
    inside_as column e =
        ap (λ (c : Column). is_inside bytes root layout c value) (sym e)
        ∙ inside_passes bytes root layout content_passes table n k row_there within

    -- an index into the heap of strings is in it
    pub string_inside : column_of table k ≡ Strings → value_at bytes (tables_of bytes) table n k < (heaps_of bytes).strings.len
    string_inside e = let h = inside_as Strings e in grind (arith, nat_tests)

    -- an index into the heap of GUIDs is 0 or that of one that lies in it whole
    pub guid_inside : column_of table k ≡ Guid → 16 * number m table n k ≤ (heaps_of bytes).guids.len
    guid_inside e =
        let h = inside_as Guid e in
        let here : 16 * value ≤ root.guids.len = grind (arith, nat_tests) in
        subst (λ (c : Cell). 16 * number_of c ≤ root.guids.len) (sym (cell_as Guid e)) here

    -- a blob is whole in its heap
    pub blob_inside : column_of table k ≡ Blob
        → is_some (blob_at bytes (heaps_of bytes).blobs (value_at bytes (tables_of bytes) table n k)) ≡ true
    blob_inside e = inside_as Blob e

    pub blob_is : column_of table k ≡ Blob
        → blob m table n k ≡ bytes_in bytes (blob_at bytes (heaps_of bytes).blobs (value_at bytes (tables_of bytes) table n k))
    blob_is e = ap blob_in (cell_as Blob e)

    -- a row of a table is 0 or one that the table has
    pub row_inside : (target : ℕ) → target < 45 → column_of table k ≡ Table target → number m table n k ≤ count m target
    row_inside target h e =
        let inside = inside_as (Table target) e in
        let here : value ≤ count_of layout target = grind (arith, nat_tests) in
        subst (λ (c : Cell). number_of c ≤ count m target) (sym (cell_as (Table target) e))
        (subst (λ (rows : ℕ). value ≤ rows) (sym (same_count target h)) here)

    -- a coded index has a tag that is in use, and names 0 or a row of its table
    pub target_inside : (kind : CodedIndex) → column_of table k ≡ Coded kind
        → (target : ℕ × ℕ) × (target_of kind (number m table n k) ≡ Some target) × (target.1 ≤ count_of (tables_of bytes) target.0)
    target_inside kind e =
        subst (λ (c : Cell). (target : ℕ × ℕ) × (target_of kind (number_of c) ≡ Some target) × (target.1 ≤ count_of layout target.0))
        (sym (cell_as (Coded kind) e)) (in_use (target_of kind value) refl (inside_as (Coded kind) e))
      where
        in_use : (o : Option (ℕ × ℕ)) → target_of kind value ≡ o → has_target layout o ≡ true
            → (target : ℕ × ℕ) × (target_of kind value ≡ Some target) × (target.1 ≤ count_of layout target.0)
        in_use None is h = absurd (cc)
        in_use (Some target) is h = (target, is, (grind (arith, nat_tests)))

    -- a list begins at a row of its table or right after the last
    order_as : (target : ℕ) → column_of table k ≡ ListColumn target
        → is_in_order layout (ListColumn target) (value_before bytes layout table n k) value ≡ true
    order_as target e =
        ap (λ (c : Column). is_in_order layout c (value_before bytes layout table n k) value) (sym e)
        ∙ order_passes bytes root layout content_passes table n k row_there within

    pub list_inside : (target : ℕ) → target < 45 → column_of table k ≡ ListColumn target
        → (1 ≤ number m table n k) × (number m table n k ≤ count m target + 1)
    list_inside target h e =
        let order = order_as target e in
        let parts = and_parts (nat_le 1 value) _ order in
        let more = and_parts (nat_le value (count_of layout target + 1)) _ parts.1 in
        let first = parts.0 in
        let last = more.0 in
        let low : 1 ≤ value = grind (arith, nat_tests) in
        let high : value ≤ count_of layout target + 1 = grind (arith, nat_tests) in
        subst (λ (c : Cell). (1 ≤ number_of c) × (number_of c ≤ count m target + 1)) (sym (cell_as (ListColumn target) e))
        (low, subst (λ (rows : ℕ). value ≤ rows + 1) (sym (same_count target h)) high)

    -- a string is good, and is the text that is held
    pub string_good : column_of table k ≡ Strings
        → is_string bytes (string_at bytes (heaps_of bytes).strings (value_at bytes (tables_of bytes) table n k)) ≡ true
    string_good e =
        ap (λ (c : Column). is_text bytes root c value) (sym e)
        ∙ text_passes bytes root layout content_passes table n k row_there within

    pub text_is : column_of table k ≡ Strings
        → text m table n k ≡ units_of (bytes_in bytes (string_at bytes (heaps_of bytes).strings (value_at bytes (tables_of bytes) table n k)))
    text_is e = ap text_in (cell_as Strings e)

    -- the text is one in UTF-8 of at most 1,023 bytes
    pub text_inside : column_of table k ≡ Strings
        → (bytes' : List ℕ) × IsUtf8 bytes' × (length bytes' ≤ 1023) × (text m table n k ≡ units_of bytes')
    text_inside e = found (string_at bytes root.strings value) refl (string_good e)
      where
        found : (o : Option Span) → string_at bytes root.strings value ≡ o → is_string bytes o ≡ true
            → (bytes' : List ℕ) × IsUtf8 bytes' × (length bytes' ≤ 1023) × (text m table n k ≡ units_of bytes')
        found None is h = absurd (cc)
        found (Some span) is h =
            let parts = and_parts (nat_le span.len 1023) _ h in
            let near = parts.0 in
            let short : span.len ≤ 1023 = grind (arith, nat_tests) in
            let long = length-take span.len (drop span.at bytes) in (
              cut bytes span,
              IsUtf8-from_is_utf8 (cut bytes span) parts.1,
              omega (arith, long, short),
              text_is e ∙ ap (λ (o : Option Span). units_of (bytes_in bytes o)) is,
            )

  -- a list does not begin before that of the row before
  pub list_rises : (table n k target : ℕ) → has_row m table n ≡ true → has_row m table (n + 1) ≡ true
      → k < length (columns_of table) → column_of table k ≡ ListColumn target
      → number m table n k ≤ number m table (n + 1) k
  list_rises table zero k target there later within e = absurd (cc)
  list_rises table (suc n) k target there later within e =
      let order = order_as table (suc n + 1) k later within target e in
      let first = value_at bytes layout table (suc n) k in
      let second = value_at bytes layout table (suc n + 1) k in
      let reached = value_before bytes layout table (suc n + 1) k in
      let last : nat_le reached second ≡ true = (and_parts (nat_le second (count_of layout target + 1)) _ (and_parts (nat_le 1 second) _ order).1).1 in
      let other : (suc n + 1 == 1) ≡ false = grind (arith, nat_tests) in
      let back : suc n + 1 - 1 ≡ suc n = omega arith in
      let before : value_before bytes layout table (suc n + 1) k ≡ value_at bytes layout table (suc n) k =
      rw other (ap (λ (j : ℕ). value_at bytes layout table j k) back) in
      let test : nat_le first second ≡ true = ap (λ (b : ℕ). nat_le b second) (sym before) ∙ last in
      let up : first ≤ second = grind (arith, nat_tests) in
      let one = cell_as table (suc n) k there within (ListColumn target) e in
      let two = cell_as table (suc n + 1) k later within (ListColumn target) e in
      subst (λ (c : Cell). number_of c ≤ number m table (suc n + 1) k) (sym one)
      (subst (λ (c : Cell). first ≤ number_of c) (sym two) up)
