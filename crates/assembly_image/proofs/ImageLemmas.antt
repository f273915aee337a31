-- What is read off the parts of an image, and what its module holds.
use Rattle.std.proofs.Common.{◌≡◌, ℕ, ◌<◌, ◌≤◌, nat_le, ◌&&◌, true, false, List, [], length, Some, None, Option, refl, sym, ap, ◌∙◌, inl, inr, arith}
use Rattle.std.proofs.lemmas.Bool.Decides.{nat_tests}
use Rattle.std.proofs.lemmas.Bool.{cases_Bool, cases_lt, and_parts}
use Rattle.std.proofs.str.Lossy.{IsUtf8-from_is_utf8}
use Rattle.std.proofs.lemmas.Option.{slice_get_within, get_or_from_slice_get, slice_get-get_or}
use Rattle.std.proofs.lemmas.Str.{chars-nil}
use Rattle.std.specs.Char.Escape.{encode_utf16}
use Rattle.std.specs.List.{slice_get, flat_map}
use Rattle.std.specs.Str.{IsUtf8}
use Rattle.cli_words.specs.Text.{units_of}
use Rattle.cli_words.specs.declared.span.Span.{Span}
use Rattle.pe_image.specs.declared.pe.Pe.{Pe}
use Rattle.meta_heaps.specs.declared.heap.Root.{Root}
use Rattle.cli_words.specs.Span.{cut}
use Rattle.metadata_tables.specs.declared.layout.Layout.{Layout}
use Rattle.metadata_tables.specs.declared.schema.Column.{Column}
use Rattle.metadata_tables.specs.declared.schema.Column.TheVariants.{U8, U16, U32, Strings, Guid, Blob, Table, List as ListColumn, Coded}
use Rattle.metadata_tables.specs.Columns.{columns_of, column_of}
use Rattle.metadata_tables.specs.Layout as layouts
use Rattle.metadata_tables.specs.Layout.{count_of, row_of}
use Rattle.assembly_image.specs.Module.{Module, has_row, count, cell, number, text, blob, number_in as number_of, text_in, blob_in}
use Rattle.assembly_image.specs.Module.Cell.{Number}
use Rattle.assembly_image.specs.Cells.{cell_of, value_at, value_in, holds_number, holds_text, holds_blob}
use Rattle.assembly_image.specs.Checks.{is_string}
use Rattle.assembly_image.specs.Reading.{heaps_of, tables_of, module_in, module_of, Reads}
use Rattle.assembly_image.specs.Image.{ArePartsOf}
use Rattle.assembly_image.proofs.RowLemmas.{this_value}
use Rattle.assembly_image.proofs.ModuleLemmas.{known, count_held, rows_beyond, cell_held, cell_missing, cell_nowhere}

-- the number and the text of a cell, by the kind of its column
number_holds : (bytes : List ℕ) (root : Root) (column : Column) (value : ℕ) → holds_number column ≡ true
    → value ≡ number_of (cell_of bytes root column value)
number_holds bytes root U8 value e = refl
number_holds bytes root U16 value e = refl
number_holds bytes root U32 value e = refl
number_holds bytes root Guid value e = refl
number_holds bytes root (Table table) value e = refl
number_holds bytes root (ListColumn table) value e = refl
number_holds bytes root (Coded index) value e = refl
number_holds bytes root Strings value e = absurd (cc)
number_holds bytes root Blob value e = absurd (cc)

number_lacks : (bytes : List ℕ) (root : Root) (column : Column) (value : ℕ) → holds_number column ≡ false
    → 0 ≡ number_of (cell_of bytes root column value)
number_lacks bytes root U8 value e = absurd (cc)
number_lacks bytes root U16 value e = absurd (cc)
number_lacks bytes root U32 value e = absurd (cc)
number_lacks bytes root Guid value e = absurd (cc)
number_lacks bytes root (Table table) value e = absurd (cc)
number_lacks bytes root (ListColumn table) value e = absurd (cc)
number_lacks bytes root (Coded index) value e = absurd (cc)
number_lacks bytes root Strings value e = refl
number_lacks bytes root Blob value e = refl

-- a column of texts is one of strings; no other has a text
pub is_strings : (column : Column) → holds_text column ≡ true → column ≡ Strings
is_strings Strings e = refl
is_strings U8 e = absurd (cc)
is_strings U16 e = absurd (cc)
is_strings U32 e = absurd (cc)
is_strings Guid e = absurd (cc)
is_strings (Table table) e = absurd (cc)
is_strings (ListColumn table) e = absurd (cc)
is_strings (Coded index) e = absurd (cc)
is_strings Blob e = absurd (cc)

text_lacks : (bytes : List ℕ) (root : Root) (column : Column) (value : ℕ) → holds_text column ≡ false
    → [] ≡ text_in (cell_of bytes root column value)
text_lacks bytes root Strings value e = absurd (cc)
text_lacks bytes root U8 value e = refl
text_lacks bytes root U16 value e = refl
text_lacks bytes root U32 value e = refl
text_lacks bytes root Guid value e = refl
text_lacks bytes root (Table table) value e = refl
text_lacks bytes root (ListColumn table) value e = refl
text_lacks bytes root (Coded index) value e = refl
text_lacks bytes root Blob value e = refl

pub is_blobs : (column : Column) → holds_blob column ≡ true → column ≡ Blob
is_blobs Blob e = refl
is_blobs U8 e = absurd (cc)
is_blobs U16 e = absurd (cc)
is_blobs U32 e = absurd (cc)
is_blobs Guid e = absurd (cc)
is_blobs (Table table) e = absurd (cc)
is_blobs (ListColumn table) e = absurd (cc)
is_blobs (Coded index) e = absurd (cc)
is_blobs Strings e = absurd (cc)

blob_lacks : (bytes : List ℕ) (root : Root) (column : Column) (value : ℕ) → holds_blob column ≡ false
    → [] ≡ blob_in (cell_of bytes root column value)
blob_lacks bytes root Blob value e = absurd (cc)
blob_lacks bytes root U8 value e = refl
blob_lacks bytes root U16 value e = refl
blob_lacks bytes root U32 value e = refl
blob_lacks bytes root Guid value e = refl
blob_lacks bytes root (Table table) value e = refl
blob_lacks bytes root (ListColumn table) value e = refl
blob_lacks bytes root (Coded index) value e = refl
blob_lacks bytes root Strings value e = refl

-- a column that a table has, and one that it has not
pub column_there : (table k : ℕ) (column : Column) → slice_get (columns_of table) k ≡ Some column
    → (k < length (columns_of table)) × (column_of table k ≡ column)
column_there table k column e = (slice_get_within _ k column e, get_or_from_slice_get _ k column U8 e)

pub column_gone : (table k : ℕ) → slice_get (columns_of table) k ≡ None → length (columns_of table) ≤ k
column_gone table k e =
    elim (cases_lt k (length (columns_of table))) [
      | inl h ↦ (let here = slice_get-get_or (columns_of table) k U8 h in absurd (cc))
      | inr h ↦ h
    ]

no_units : units_of [] ≡ []
no_units = ap (flat_map encode_utf16) chars-nil

-- what the module of bytes holds at a column of a row
module _ (bytes : List ℕ) (table n k : ℕ) where
  abbrev m : Module
  m = module_in bytes (heaps_of bytes) (tables_of bytes)

  cell_as : cell m table n k ≡ cell (module_of bytes) table n k
  unfolding module_of
  cell_as = refl

  -- the module has just the rows that the tables have
  pub rows_as : table < 45 → has_row (module_of bytes) table n ≡ layouts.has_row (tables_of bytes) table n
  unfolding module_of
  rows_as h = ap (λ (c : ℕ). nat_le 1 n && nat_le n c) (count_held bytes (heaps_of bytes) (tables_of bytes) table h)

  -- a table that is not known has no rows
  pub no_rows : 45 ≤ table → has_row (module_of bytes) table n ≡ false
  unfolding module_of
  no_rows h =
      let none : count m table ≡ 0 = ap length (rows_beyond bytes (heaps_of bytes) (tables_of bytes) table h) in
      none_of (count m table) none
    where
      none_of : (rows : ℕ) → rows ≡ 0 → (nat_le 1 n && nat_le n rows) ≡ false
      none_of rows e = grind (arith, nat_tests)

  -- there is no such column, or no such row
  past : length (columns_of table) ≤ k → Number 0 ≡ cell (module_of bytes) table n k
  past h = sym (cell_nowhere bytes (heaps_of bytes) (tables_of bytes) table n k h) ∙ cell_as

  module _ (within : k < length (columns_of table)) where
    missing : layouts.has_row (tables_of bytes) table n ≡ false → Number 0 ≡ cell (module_of bytes) table n k
    missing gone = sym (cell_missing bytes (heaps_of bytes) (tables_of bytes) table n k (known table k within) gone) ∙ cell_as

    here : layouts.has_row (tables_of bytes) table n ≡ true
        → cell_of bytes (heaps_of bytes) (column_of table k) (value_at bytes (tables_of bytes) table n k) ≡ cell (module_of bytes) table n k
    here there = sym (cell_held bytes (heaps_of bytes) (tables_of bytes) table n k there within) ∙ cell_as

    pub number_is : holds_number (column_of table k) ≡ true
        → value_in (row_of bytes (tables_of bytes) table n) k ≡ number (module_of bytes) table n k
    number_is holds =
        elim (cases_Bool (layouts.has_row (tables_of bytes) table n)) as (λ _. value_in (row_of bytes (tables_of bytes) table n) k ≡ number (module_of bytes) table n k) [
          | inl there ↦
              this_value bytes (tables_of bytes) table n k there within
              ∙ number_holds bytes (heaps_of bytes) (column_of table k) _ holds
              ∙ ap number_of (here there)
          | inr gone ↦ rw gone (ap number_of (missing gone))
        ]

    pub number_none : holds_number (column_of table k) ≡ false → 0 ≡ number (module_of bytes) table n k
    number_none lacks =
        elim (cases_Bool (layouts.has_row (tables_of bytes) table n)) as (λ _. 0 ≡ number (module_of bytes) table n k) [
          | inl there ↦ number_lacks bytes (heaps_of bytes) (column_of table k) _ lacks ∙ ap number_of (here there)
          | inr gone ↦ ap number_of (missing gone)
        ]

    pub text_missing : has_row (module_of bytes) table n ≡ false → units_of [] ≡ text (module_of bytes) table n k
    text_missing gone = no_units ∙ ap text_in (missing (sym (rows_as (known table k within)) ∙ gone))

    pub text_none : holds_text (column_of table k) ≡ false → units_of [] ≡ text (module_of bytes) table n k
    text_none lacks =
        elim (cases_Bool (layouts.has_row (tables_of bytes) table n)) as (λ _. units_of [] ≡ text (module_of bytes) table n k) [
          | inl there ↦ no_units ∙ text_lacks bytes (heaps_of bytes) (column_of table k) _ lacks ∙ ap text_in (here there)
          | inr gone ↦ no_units ∙ ap text_in (missing gone)
        ]

    pub blob_missing : has_row (module_of bytes) table n ≡ false → [] ≡ blob (module_of bytes) table n k
    blob_missing gone = ap blob_in (missing (sym (rows_as (known table k within)) ∙ gone))

    pub blob_none : holds_blob (column_of table k) ≡ false → [] ≡ blob (module_of bytes) table n k
    blob_none lacks =
        elim (cases_Bool (layouts.has_row (tables_of bytes) table n)) as (λ _. [] ≡ blob (module_of bytes) table n k) [
          | inl there ↦ blob_lacks bytes (heaps_of bytes) (column_of table k) _ lacks ∙ ap blob_in (here there)
          | inr gone ↦ ap blob_in (missing gone)
        ]

  pub number_past : length (columns_of table) ≤ k → 0 ≡ number (module_of bytes) table n k
  number_past h = ap number_of (past h)

  pub text_past : length (columns_of table) ≤ k → units_of [] ≡ text (module_of bytes) table n k
  text_past h = no_units ∙ ap text_in (past h)

  pub blob_past : length (columns_of table) ≤ k → [] ≡ blob (module_of bytes) table n k
  blob_past h = ap blob_in (past h)

pub count_as : (bytes : List ℕ) (table : ℕ) → table < 45 → count_of (tables_of bytes) table ≡ count (module_of bytes) table
unfolding module_of
count_as bytes table h = sym (count_held bytes (heaps_of bytes) (tables_of bytes) table h)

module _ (bytes : List ℕ) (pe : Pe) (root : Root) (layout : Layout) (parts : ArePartsOf bytes pe root layout) where
  -- the parts say that the bytes are read
  pub reads_of : Reads bytes (module_of bytes)
  reads_of = record { passes = parts.passes; holds = refl }

  pub same_module : module_in bytes root layout ≡ module_of bytes
  unfolding module_of
  same_module =
      ap (λ (r : Root). module_in bytes r layout) parts.heaps ∙ ap (module_in bytes (heaps_of bytes)) parts.streams

  pub counted : (table : ℕ) → table < 45 → count_of layout table ≡ count (module_of bytes) table
  counted table h = sym (count_held bytes root layout table h) ∙ ap (λ (m : Module). count m table) same_module

  pub number_told : (table n k : ℕ) → k < length (columns_of table) → holds_number (column_of table k) ≡ true
      → value_in (row_of bytes layout table n) k ≡ number (module_of bytes) table n k
  number_told table n k within holds =
      ap (λ (t : Layout). value_in (row_of bytes t table n) k) parts.streams ∙ number_is bytes table n k within holds

-- a string that is good is there, and is UTF-8
pub good_string : (bytes : List ℕ) (found : Option Span) (span : Span) → found ≡ Some span → is_string bytes found ≡ true
    → IsUtf8 (cut bytes span)
good_string bytes found span e good =
    let same : is_string bytes (Some span) ≡ true = ap (is_string bytes) (sym e) ∙ good in
    IsUtf8-from_is_utf8 (cut bytes span) (and_parts _ _ same).1

pub no_string : (bytes : List ℕ) (found : Option Span) → found ≡ None → ¬ (is_string bytes found ≡ true)
no_string bytes found e good = (let same : is_string bytes None ≡ true = ap (is_string bytes) (sym e) ∙ good in cc)
