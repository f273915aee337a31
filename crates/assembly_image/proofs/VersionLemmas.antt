-- The columns of the Assembly row that are read.
use Rattle.std.proofs.Common.{◌≡◌, ℕ, ◌+◌, ◌^◌, ◌<◌, ◌≤◌, true, List, None, drop, refl, sym, ap, subst, ◌∙◌, arith, Fits, w8, slice_index_or, length, inl, inr, lit<}
use Rattle.std.proofs.Math.Facts.{Fits-lt-pow, Fits-of_lt}
use Rattle.std.proofs.lemmas.Bool.{and_parts, eqb-true, cases_Bool}
use Rattle.std.proofs.lemmas.List.{get_or-drop}
use Rattle.std.specs.Int.{w16, from_le_bytes}
use Rattle.std.specs.List.{slice_index}
use Rattle.cli_words.specs.Check.{first_fault}
use Rattle.cli_words.specs.Number.{number_at}
use Rattle.meta_heaps.specs.declared.heap.Root.{Root}
use Rattle.metadata_tables.specs.declared.layout.Layout.{Layout}
use Rattle.metadata_tables.specs.Columns.{columns_of, column_of}
use Rattle.metadata_tables.specs.declared.schema.Column.{Column}
use Rattle.metadata_tables.specs.declared.schema.Column.TheVariants.{U16, Strings}
use Rattle.metadata_tables.specs.Layout.{count_of, row_of, row_at, has_row, number_of, width_of, offset_of}
use Rattle.pe_image.specs.declared.pe.Pe.{Pe}
use Rattle.cli_words.specs.Text.{units_of}
use Rattle.metadata_tables.specs.Tables as tables
use Rattle.assembly_image.specs.Module.{number, count, has_row as has_row_in}
use Rattle.assembly_image.specs.Names.{assembly_name, assembly_version}
use Rattle.assembly_image.specs.Cells.{value_at, value_in, holds_number}
use Rattle.assembly_image.specs.Reading.{heaps_of, module_of}
use Rattle.assembly_image.specs.Image.{ArePartsOf, version_in}
use Rattle.assembly_image.proofs.ImageLemmas.{number_told, counted, reads_of}
use Rattle.assembly_image.proofs.Facts.{text_is}
use Rattle.assembly_image.specs.Checks.{content_checks, name_bytes}
use Rattle.assembly_image.proofs.RowLemmas.{this_value, name_column}
use Rattle.assembly_image.proofs.PassLemmas.{assembly_passes}

-- two bytes are a number of 16 bits
low : (xs : List ℕ) → slice_index xs 0 < 256 → slice_index xs 1 < 256 → from_le_bytes w16 xs < 2 ^ 16
low xs first second = omega arith

word_fits : (bytes : List ℕ) (at : ℕ) → ((i : ℕ) → Fits w8 (slice_index_or bytes i 0)) → number_at w16 bytes at < 2 ^ 16
word_fits bytes at fits =
    low (drop at bytes) (subst (λ (b : ℕ). b < 256) (sym (get_or-drop at bytes 0 0)) (Fits-lt-pow (fits (at + 0))))
    (subst (λ (b : ℕ). b < 256) (sym (get_or-drop at bytes 1 0)) (Fits-lt-pow (fits (at + 1))))

-- what is read in a column of two bytes is a number of 16 bits
pub word_read : (bytes : List ℕ) (layout : Layout) (table n k : ℕ) → ((i : ℕ) → slice_index bytes i < 2 ^ 8)
    → k < length (columns_of table) → column_of table k ≡ U16 → value_in (row_of bytes layout table n) k < 2 ^ 16
word_read bytes layout table n k small within e =
    elim (cases_Bool (has_row layout table n)) as (λ _. value_in (row_of bytes layout table n) k < 2 ^ 16) [
      | inl there ↦
          let at = row_at layout table n + offset_of layout table k in
          let fits = word_fits bytes at (λ i. Fits-of_lt (small i)) in
          let word = subst (λ (c : Column). number_of (width_of layout c) bytes at < 2 ^ 16) (sym e) fits in
          subst (λ (v : ℕ). v < 2 ^ 16) (sym (this_value bytes layout table n k there within)) word
      | inr gone ↦ rw gone (lit< tt)
    ]

module _ (bytes : List ℕ) (layout : Layout) (one : count_of layout 0x20 ≡ 1) where
  pub assembly_row : has_row layout 0x20 1 ≡ true
  assembly_row = rw one refl

  -- the parts of the version, which are the columns 1 to 4
  pub part_read : (k : ℕ) → k ≤ 4 → value_in (row_of bytes layout 0x20 1) k ≡ value_at bytes layout 0x20 1 k
  part_read k h =
      let long = name_column in this_value bytes layout 0x20 1 k assembly_row (omega (arith, h, long))

  pub parts_fit : ((i : ℕ) → Fits w8 (slice_index_or bytes i 0))
      → (value_at bytes layout 0x20 1 1 < 2 ^ 16) × (value_at bytes layout 0x20 1 2 < 2 ^ 16)
      × (value_at bytes layout 0x20 1 3 < 2 ^ 16) × (value_at bytes layout 0x20 1 4 < 2 ^ 16)
  unfolding columns_of
  parts_fit fits = (word_fits bytes _ fits, word_fits bytes _ fits, word_fits bytes _ fits, word_fits bytes _ fits)

name_strings : column_of tables.assembly tables.assembly_name ≡ Strings
unfolding columns_of
name_strings = refl

-- an image that passes the checks has one Assembly row
pub one_assembly : (bytes : List ℕ) (root : Root) (layout : Layout) → first_fault (content_checks bytes root layout) ≡ None → count_of layout 0x20 ≡ 1
one_assembly bytes root layout good =
    eqb-true (count_of layout 0x20) 1 (and_parts _ _ (assembly_passes bytes root layout good)).0

-- the version that is read is the assembly's
module _ (bytes : List ℕ) (pe : Pe) (root : Root) (layout : Layout) (parts : ArePartsOf bytes pe root layout) where
  part_held : (k : ℕ) → k ≤ 4 → holds_number (column_of 0x20 k) ≡ true → value_at bytes layout 0x20 1 k ≡ number (module_of bytes) 0x20 1 k
  part_held k h holds =
      let one = one_assembly bytes root layout parts.content in
      let long = name_column in
      sym (part_read bytes layout one k h) ∙ number_told bytes pe root layout parts 0x20 1 k (omega (arith, h, long)) holds

  parts_hold : (holds_number (column_of 0x20 1) ≡ true) × (holds_number (column_of 0x20 2) ≡ true)
      × (holds_number (column_of 0x20 3) ≡ true) × (holds_number (column_of 0x20 4) ≡ true)
  unfolding columns_of
  parts_hold = (refl, refl, refl, refl)

  pub version_held : version_in bytes layout ≡ assembly_version (module_of bytes)
  version_held =
      let first = part_held 1 (omega arith) parts_hold.0 in
      let second = part_held 2 (omega arith) parts_hold.1 in
      let third = part_held 3 (omega arith) parts_hold.2 in
      let fourth = part_held 4 (omega arith) parts_hold.3 in
      rw (first, second, third, fourth) refl

  -- and so is the name
  pub name_held : units_of (name_bytes bytes root layout) ≡ assembly_name (module_of bytes)
  name_held =
      let one = one_assembly bytes root layout parts.content in
      let e : count (module_of bytes) tables.assembly ≡ 1 = sym (counted bytes pe root layout parts tables.assembly (omega arith)) ∙ one in
      let there : has_row_in (module_of bytes) tables.assembly 1 ≡ true = rw e refl in
      ap (λ (r : Root). units_of (name_bytes bytes r layout)) parts.heaps
      ∙ ap (λ (t : Layout). units_of (name_bytes bytes (heaps_of bytes) t)) parts.streams
      ∙ sym (text_is bytes (module_of bytes) (reads_of bytes pe root layout parts) tables.assembly 1 tables.assembly_name there name_column name_strings)

-- the parts of a reference's version are words of two bytes
pub reference_words : (column_of tables.assembly_ref tables.assembly_ref_major ≡ U16) × (column_of tables.assembly_ref tables.assembly_ref_minor ≡ U16)
    × (column_of tables.assembly_ref tables.assembly_ref_build ≡ U16) × (column_of tables.assembly_ref tables.assembly_ref_revision ≡ U16)
unfolding columns_of
reference_words = (refl, refl, refl, refl)
