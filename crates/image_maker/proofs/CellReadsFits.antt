-- Numbers that fit the widths of their columns, and the kinds of cells.
use Rattle.std.proofs.Common.{◌≡◌, ℕ, zero, suc, ◌+◌, ◌-◌, ◌*◌, ◌/◌, ◌%◌, ◌^◌, ◌<◌, ◌≤◌, Bool, true, false, not, nat_le, List, [], ◌∷◌, Option, Some, None, refl, sym, ap, subst, arith}
use Rattle.std.specs.Prelude.{slice_get}
use Rattle.std.specs.List.{list_all}
use Rattle.std.specs.Option.{option_map}
use Rattle.std.proofs.lemmas.Bool.{and_parts, cond_both, leb-true, ltb-true}
use Rattle.std.proofs.Math.Nat.{div-lt_iff_lt-mul}
use Rattle.metadata_tables.specs.declared.layout.Layout.{Layout}
use Rattle.metadata_tables.specs.declared.layout.Width.TheVariants.{Four}
use Rattle.metadata_tables.specs.declared.schema.Column.{Column}
use Rattle.metadata_tables.specs.declared.schema.Column.TheVariants.{U8, U16, U32, Strings, Guid, Blob, Table, List as ListColumn, Coded}
use Rattle.metadata_tables.specs.declared.schema.CodedIndex.{CodedIndex}
use Rattle.metadata_tables.specs.declared.schema.CodedIndex.TheVariants.{TypeDefOrRef, HasConstant, HasCustomAttribute, HasFieldMarshal, HasDeclSecurity, MemberRefParent, HasSemantics, MethodDefOrRef, MemberForwarded, Implementation, CustomAttributeType, ResolutionScope, TypeOrMethodDef}
use Rattle.metadata_tables.specs.Columns.{first_tag_of, table_of, tables_of, tag_bits_of, target_of}
use Rattle.metadata_tables.specs.Layout.{count_of, index_width, is_narrow, is_set, width_of}
use Rattle.assembly_image.specs.Cells.{holds_number}
use Rattle.assembly_image.specs.Checks.{has_target, is_inside}
use Rattle.image_maker.specs.declared.module.Cell.{Cell}
use Rattle.image_maker.specs.declared.module.Cell.TheVariants.{Number, Text, Bytes}
use Rattle.image_maker.specs.Sound.{heaps_with, is_value_sound}
use Rattle.image_maker.specs.Written.{is_kept}
use Rattle.image_maker.proofs.CellReadsNumbers.{limit_of}

-- the kinds of cells that stand in columns
pub data Kind : Column → Cell → Type 0 where
  of_number : {column : Column} {value : ℕ} → holds_number column ≡ true → value < 2 ^ 32 → Kind column (Number value)
  of_text : {bytes : List ℕ} → Kind Strings (Text bytes)
  of_blob : {bytes : List ℕ} → Kind Blob (Bytes bytes)

pub kind_of : (column : Column) (cell : Cell) → is_kept (column, cell) ≡ true → Kind column cell
kind_of U8 (Number value) e = let h = ltb-true value (2 ^ 8) e in of_number refl (omega arith)
kind_of U16 (Number value) e = let h = ltb-true value (2 ^ 16) e in of_number refl (omega arith)
kind_of U32 (Number value) e = of_number refl (ltb-true value (2 ^ 32) e)
kind_of Guid (Number value) e = of_number refl (ltb-true value (2 ^ 32) e)
kind_of (Table table) (Number value) e = of_number refl (ltb-true value (2 ^ 32) e)
kind_of (ListColumn table) (Number value) e = of_number refl (ltb-true value (2 ^ 32) e)
kind_of (Coded index) (Number value) e = of_number refl (ltb-true value (2 ^ 32) e)
kind_of Strings (Text bytes) e = of_text
kind_of Blob (Bytes bytes) e = of_blob
kind_of column cell e = absurd (cc)

-- an element that is found passes what all pass
found_passes : {X : Type 0} (p : X → Bool) (xs : List X) (i : ℕ) (x : X) → list_all p xs ≡ true
    → slice_get xs i ≡ Some x → p x ≡ true
found_passes p [] i x all e = absurd (cc)
found_passes p (y ∷ ys) zero x all e =
    let same : y ≡ x = cc in
    subst (λ z. p z ≡ true) same (and_parts (p y) (list_all p ys) all).0
found_passes p (y ∷ ys) (suc i) x all e = found_passes p ys i x (and_parts (p y) (list_all p ys) all).1 e

-- what the bits of a tag leave of sixteen
abbrev Leaves : CodedIndex → Type 0
Leaves index = (0 < 2 ^ tag_bits_of index) × (2 ^ (16 - tag_bits_of index) * 2 ^ tag_bits_of index ≡ 2 ^ 16)

leaves : (index : CodedIndex) → Leaves index
leaves TypeDefOrRef = (omega arith, refl)
leaves HasConstant = (omega arith, refl)
leaves HasCustomAttribute = (omega arith, refl)
leaves HasFieldMarshal = (omega arith, refl)
leaves HasDeclSecurity = (omega arith, refl)
leaves MemberRefParent = (omega arith, refl)
leaves HasSemantics = (omega arith, refl)
leaves MethodDefOrRef = (omega arith, refl)
leaves MemberForwarded = (omega arith, refl)
leaves Implementation = (omega arith, refl)
leaves CustomAttributeType = (omega arith, refl)
leaves ResolutionScope = (omega arith, refl)
leaves TypeOrMethodDef = (omega arith, refl)

module _ (layout : Layout) where
  -- a coded index that names a row fits two bytes where its column has two
  abbrev AreNarrow : CodedIndex → Type 0
  AreNarrow index = list_all (is_narrow layout (tag_bits_of index)) (tables_of index) ≡ true

  narrow_target : (index : CodedIndex) (tag table : ℕ) → AreNarrow index → table_of index tag ≡ Some table
      → is_narrow layout (tag_bits_of index) table ≡ true
  narrow_target index tag table all =
      cond_both (nat_le (first_tag_of index) tag) (slice_get (tables_of index) (tag - first_tag_of index)) None
      (λ found. found ≡ Some table → is_narrow layout (tag_bits_of index) table ≡ true)
      (λ _ e. found_passes _ (tables_of index) (tag - first_tag_of index) table all e)
      (λ _ e. absurd (cc))

  row_below : (row bits : ℕ) (found : Option ℕ)
      → ((table : ℕ) → found ≡ Some table → is_narrow layout bits table ≡ true)
      → has_target layout (option_map (λ table. (table, row)) found) ≡ true → row < 2 ^ (16 - bits)
  row_below row bits None narrow there = absurd (cc)
  row_below row bits (Some table) narrow there =
      let few = ltb-true (count_of layout table) (2 ^ (16 - bits)) (narrow table refl) in
      let last = leb-true row (count_of layout table) there in
      omega arith

  coded_below : (index : CodedIndex) (value : ℕ) → AreNarrow index → has_target layout (target_of index value) ≡ true
      → value < 2 ^ 16
  coded_below index value all there =
      let tags : ℕ = 2 ^ tag_bits_of index in
      let row = row_below (value / tags) (tag_bits_of index) (table_of index (value % tags))
      (λ table e. narrow_target index (value % tags) table all e) there in
      subst (λ n. value < n) (leaves index).1 ((div-lt_iff_lt-mul (leaves index).0).0 row)

  -- an index fits its width
  index_below : (fits : Bool) (value : ℕ) → (fits ≡ true → value < 2 ^ 16) → value < 2 ^ 32
      → value < limit_of (index_width fits)
  index_below true value two four = two refl
  index_below false value two four = four

  pub fits_width : (guids before value : ℕ) (column : Column)
      → layout.heap_sizes ≡ 7 → ((table : ℕ) → count_of layout table ≤ 65534)
      → is_kept (column, Number value) ≡ true → is_value_sound layout guids column before (Number value) ≡ true
      → value < limit_of (width_of layout column)
  fits_width guids before value U8 heaps few kept sound = ltb-true value (2 ^ 8) kept
  fits_width guids before value U16 heaps few kept sound = ltb-true value (2 ^ 16) kept
  fits_width guids before value U32 heaps few kept sound = ltb-true value (2 ^ 32) kept
  fits_width guids before value Guid heaps few kept sound =
      let h = ltb-true value (2 ^ 32) kept in
      subst (λ n. value < limit_of (index_width (not (is_set n 1)))) (sym heaps) h
  fits_width guids before value (Table table) heaps few kept sound =
      index_below (is_narrow layout 0 table) value
      (λ e. let last = leb-true value (count_of layout table) (and_parts _ _ sound).0 in
      let all = few table in
      omega arith) (ltb-true value (2 ^ 32) kept)
  fits_width guids before value (ListColumn table) heaps few kept sound =
      index_below (is_narrow layout 0 table) value
      (λ e. let order = (and_parts (is_inside [] (heaps_with guids) layout (ListColumn table) value) _ sound).1 in
      let rest = (and_parts (nat_le 1 value) _ order).1 in
      let last = leb-true value (count_of layout table + 1) (and_parts _ _ rest).0 in
      let all = few table in
      omega arith) (ltb-true value (2 ^ 32) kept)
  fits_width guids before value (Coded index) heaps few kept sound =
      index_below (list_all (is_narrow layout (tag_bits_of index)) (tables_of index)) value
      (λ e. coded_below index value e (and_parts _ _ sound).0) (ltb-true value (2 ^ 32) kept)
  fits_width guids before value column heaps few kept sound = absurd (cc)

  -- indexes into heaps have four bytes
  module _ (heaps : layout.heap_sizes ≡ 7) where
    pub strings_width : width_of layout Strings ≡ Four
    strings_width = ap (λ n. index_width (not (is_set n 0))) heaps

    pub blobs_width : width_of layout Blob ≡ Four
    blobs_width = ap (λ n. index_width (not (is_set n 2))) heaps
