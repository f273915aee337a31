-- Which rows of the tables that have fields of a module are sound.
use Rattle.std.proofs.Common.{◌≡◌, ℕ, ◌+◌, ◌≤◌, Bool, true, false, ◌&&◌, ◌==◌, List, [], ◌∷◌, length, map, lit<, lit≤, refl, ap, ◌∙◌, arith}
use Rattle.std.specs.Prelude.{nat_le, filter}
use Rattle.std.specs.List.{list_all, sum_by}
use Rattle.std.proofs.Math.Bool.{and-true}
use Rattle.std.proofs.lemmas.Bool.{le-leb}
use Rattle.std.proofs.lemmas.List.{length-map}
use Rattle.std.proofs.lemmas.List.Sums.{sum_by-cons}
use Rattle.std.proofs.lemmas.Bool.Decides.{nat_tests}
use Rattle.assembly_name.specs.declared.version.AssemblyRef.{AssemblyRef}
use Rattle.metadata_tables.specs.declared.layout.Layout.{Layout}
use Rattle.metadata_tables.specs.declared.schema.CodedIndex.TheVariants.{ResolutionScope, TypeDefOrRef, MemberRefParent}
use Rattle.metadata_tables.specs.Columns.{columns_of, target_of}
use Rattle.metadata_tables.specs.Layout.{count_of}
use Rattle.assembly_image.specs.Checks.{has_target}
use Rattle.image_maker.specs.declared.module.Module.{Module}
use Rattle.image_maker.specs.declared.module.TypeRefRow.{TypeRefRow}
use Rattle.image_maker.specs.declared.module.TypeRow.{TypeRow}
use Rattle.image_maker.specs.declared.module.FieldRow.{FieldRow}
use Rattle.image_maker.specs.declared.module.MethodRow.{MethodRow}
use Rattle.image_maker.specs.declared.module.MemberRow.{MemberRow}
use Rattle.image_maker.specs.declared.module.Cell.{Cell}
use Rattle.image_maker.specs.Rows.{module_row, type_ref_row, type_row, type_rows, field_row, method_row, method_rows, member_row, spec_row, assembly_row, reference_row, rows_of, given_rows, all_fields, all_methods}
use Rattle.image_maker.specs.Sound.{are_rows_sound, number_at, is_table_sound, layout_at, count}
use Rattle.image_maker.specs.Tally.{layout_of, given_count}
use Rattle.image_maker.specs.Params.{are_within}
use Rattle.image_maker.proofs.RowCounts.{counted, count_fields, count_methods}

first_part : (b : Bool) → ((b && true) && true) ≡ b
first_part b = and-true (b && true) ∙ and-true b

module _ (layout : Layout) (guids : ℕ) where
  pub module_sound : (m : Module) → are_rows_sound layout guids 0x00 [] (module_row m ∷ []) ≡ true
  unfolding columns_of
  module_sound m = rw (le-leb 0 guids (omega arith)) refl

  pub assembly_sound : (m : Module) → are_rows_sound layout guids 0x20 [] (assembly_row m ∷ []) ≡ true
  unfolding columns_of
  assembly_sound m = refl

  pub fields_sound : (before : List Cell) (fields : List FieldRow)
      → are_rows_sound layout guids 0x04 before (map field_row fields) ≡ true
  unfolding columns_of
  fields_sound before [] = refl
  fields_sound before (f ∷ fields) = fields_sound (field_row f) fields

  pub specs_sound : (before : List Cell) (specs : List (List ℕ))
      → are_rows_sound layout guids 0x1B before (map spec_row specs) ≡ true
  unfolding columns_of
  specs_sound before [] = refl
  specs_sound before (s ∷ specs) = specs_sound (spec_row s) specs

  pub references_sound : (before : List Cell) (refs : List AssemblyRef)
      → are_rows_sound layout guids 0x23 before (map reference_row refs) ≡ true
  unfolding columns_of
  references_sound before [] = refl
  references_sound before (r ∷ refs) = references_sound (reference_row r) refs

  pub type_refs_sound : (before : List Cell) (refs : List TypeRefRow)
      → are_rows_sound layout guids 0x01 before (map type_ref_row refs)
      ≡ list_all (λ r. has_target layout (target_of ResolutionScope r.scope)) refs
  unfolding columns_of
  type_refs_sound before [] = refl
  type_refs_sound before (r ∷ refs) =
      ap (λ b. b && are_rows_sound layout guids 0x01 (type_ref_row r) (map type_ref_row refs))
      (first_part (has_target layout (target_of ResolutionScope r.scope)))
      ∙ ap (λ b. has_target layout (target_of ResolutionScope r.scope) && b) (type_refs_sound (type_ref_row r) refs)

  pub members_sound : (before : List Cell) (members : List MemberRow)
      → are_rows_sound layout guids 0x0A before (map member_row members)
      ≡ list_all (λ r. has_target layout (target_of MemberRefParent r.class)) members
  unfolding columns_of
  members_sound before [] = refl
  members_sound before (r ∷ members) =
      ap (λ b. b && are_rows_sound layout guids 0x0A (member_row r) (map member_row members))
      (first_part (has_target layout (target_of MemberRefParent r.class)))
      ∙ ap (λ b. has_target layout (target_of MemberRefParent r.class) && b) (members_sound (member_row r) members)

  within_all : (least field fields count : ℕ) → 1 ≤ field → least ≤ field → field + fields ≡ count + 1
      → (nat_le 1 field && (nat_le field (count + 1) && nat_le least field)) ≡ true
  within_all least field fields count some rising total =
      rw (le-leb 1 field some, le-leb field (count + 1) (omega arith), le-leb least field rising) refl

  pub types_sound : (before : List Cell) (field method : ℕ) (types : List TypeRow) → 1 ≤ field → 1 ≤ method
      → number_at before 4 ≤ field → number_at before 5 ≤ method
      → field + sum_by (λ t. length t.fields) types ≡ count_of layout 0x04 + 1
      → method + sum_by (λ t. length t.methods) types ≡ count_of layout 0x06 + 1
      → are_rows_sound layout guids 0x02 before (type_rows field method types)
      ≡ list_all (λ t. has_target layout (target_of TypeDefOrRef t.parent)) types
  unfolding columns_of
  types_sound before field method [] some_field some_method rising_fields rising_methods all_fields
      all_methods = refl
  types_sound before field method (t ∷ types) some_field some_method rising_fields rising_methods all_fields
      all_methods =
      let own_fields = sum_by-cons (λ (t : TypeRow). length t.fields) t types in
      let own_methods = sum_by-cons (λ (t : TypeRow). length t.methods) t types in
      let fields_fit = within_all (number_at before 4) field (sum_by (λ t. length t.fields) (t ∷ types))
      (count_of layout 0x04) some_field rising_fields all_fields in
      let methods_fit = within_all (number_at before 5) method (sum_by (λ t. length t.methods) (t ∷ types))
      (count_of layout 0x06) some_method rising_methods all_methods in
      let rest = types_sound (type_row t field method) (field + length t.fields) (method + length t.methods) types
      (omega arith) (omega arith) (omega arith) (omega arith) (omega arith) (omega arith) in
      rw (fields_fit, methods_fit) (ap (λ b. b
      && are_rows_sound layout guids 0x02 (type_row t field method)
      (type_rows (field + length t.fields) (method + length t.methods) types))
      (first_part (has_target layout (target_of TypeDefOrRef t.parent)))
      ∙ ap (λ b. has_target layout (target_of TypeDefOrRef t.parent) && b) rest)

  param_fits : (least before param count : ℕ) → param ≡ before + 1 → least ≤ param
      → (nat_le 1 param && (nat_le param (count + 1) && nat_le least param)) ≡ nat_le before count
  param_fits least before param count e rising =
      rw (le-leb 1 param (omega arith), le-leb least param rising) (grind (arith, nat_tests))

  pub methods_sound : (row : List Cell) (rva : ℕ → ℕ) (n before param : ℕ) (methods : List MethodRow)
      → param ≡ before + 1 → number_at row 5 ≤ param
      → are_rows_sound layout guids 0x06 row (method_rows rva n param methods)
      ≡ are_within (count_of layout 0x08) before methods
  unfolding columns_of
  methods_sound row rva n before param [] e rising = refl
  methods_sound row rva n before param (m ∷ methods) e rising =
      let others = are_rows_sound layout guids 0x06 (method_row m (rva n) param)
      (method_rows rva (n + 1) (param + m.params) methods) in
      ap (λ b. (b && true) && others) (param_fits (number_at row 5) before param (count_of layout 0x08) e rising)
      ∙ ap (λ b. b && others) (and-true (nat_le before (count_of layout 0x08)))
      ∙ ap (λ b. nat_le before (count_of layout 0x08) && b)
      (methods_sound (method_row m (rva n) param) rva (n + 1) (before + m.params) (param + m.params) methods
      (omega arith) (omega arith))

module _ (m : Module) where
  pub same_layout : layout_at m 0 ≡ layout_of m
  unfolding layout_of
  same_layout = refl

  pub table_is : (t : ℕ) (rows : List (List Cell)) → rows_of m (λ n. 0) t ≡ rows
      → is_table_sound m t ≡ are_rows_sound (layout_of m) (length m.guids) t [] rows
  table_is t rows e =
      ap (λ layout. are_rows_sound layout (length m.guids) t [] (rows_of m (λ n. 0) t)) same_layout
      ∙ ap (are_rows_sound (layout_of m) (length m.guids) t []) e

  pub is_00 : is_table_sound m 0x00 ≡ true
  is_00 = table_is 0x00 (module_row m ∷ []) refl ∙ module_sound (layout_of m) (length m.guids) m

  pub is_01 : is_table_sound m 0x01 ≡ list_all
      (λ r. has_target (layout_of m) (target_of ResolutionScope r.scope)) m.type_refs
  is_01 = table_is 0x01 (map type_ref_row m.type_refs) refl
      ∙ type_refs_sound (layout_of m) (length m.guids) [] m.type_refs

  pub is_02 : is_table_sound m 0x02 ≡ list_all
      (λ t. has_target (layout_of m) (target_of TypeDefOrRef t.parent)) m.types
  is_02 =
      let fields = count_fields m in
      let methods = count_methods m in
      let held_fields = counted m 0x04 (lit< tt) in
      let held_methods = counted m 0x06 (lit< tt) in
      table_is 0x02 (type_rows 1 1 m.types) refl
      ∙ types_sound (layout_of m) (length m.guids) [] 1 1 m.types (lit≤ tt) (lit≤ tt) (lit≤ tt) (lit≤ tt)
      (omega arith) (omega arith)

  pub is_04 : is_table_sound m 0x04 ≡ true
  is_04 = table_is 0x04 (map field_row (all_fields m)) refl
      ∙ fields_sound (layout_of m) (length m.guids) [] (all_fields m)

  pub is_06 : is_table_sound m 0x06 ≡ are_within (given_count 8 m.rows) 0 (all_methods m)
  is_06 =
      let params : count_of (layout_of m) 0x08 ≡ given_count 8 m.rows = counted m 0x08 (lit< tt)
      ∙ length-map (filter (λ r. r.0 == 8) m.rows) (λ r. r.1) in
      table_is 0x06 (method_rows (λ n. 0) 1 1 (all_methods m)) refl
      ∙ methods_sound (layout_of m) (length m.guids) [] (λ n. 0) 1 0 1 (all_methods m) refl (lit≤ tt)
      ∙ ap (λ n. are_within n 0 (all_methods m)) params

  pub is_0A : is_table_sound m 0x0A ≡ list_all
      (λ r. has_target (layout_of m) (target_of MemberRefParent r.class)) m.members
  is_0A = table_is 0x0A (map member_row m.members) refl ∙ members_sound (layout_of m) (length m.guids) [] m.members

  pub is_1B : is_table_sound m 0x1B ≡ true
  is_1B = table_is 0x1B (map spec_row m.specs) refl ∙ specs_sound (layout_of m) (length m.guids) [] m.specs

  pub is_20 : is_table_sound m 0x20 ≡ true
  is_20 = table_is 0x20 (assembly_row m ∷ []) refl ∙ assembly_sound (layout_of m) (length m.guids) m

  pub is_23 : is_table_sound m 0x23 ≡ true
  is_23 = table_is 0x23 (map reference_row m.refs) refl ∙ references_sound (layout_of m) (length m.guids) [] m.refs

  -- the rows of a table that a module gives as cells
  pub rows_given : (rva : ℕ → ℕ) (t : ℕ) → (t == 0x00) ≡ false → (t == 0x01) ≡ false → (t == 0x02) ≡ false
      → (t == 0x04) ≡ false → (t == 0x06) ≡ false
      → (t == 0x0A) ≡ false → (t == 0x1B) ≡ false → (t == 0x20) ≡ false → (t == 0x23) ≡ false
      → rows_of m rva t ≡ given_rows t m.rows
  rows_given rva t n0 n1 n2 n4 n6 nA nB n20 n23 = rw (n0, n1, n2, n4, n6, nA, nB, n20, n23) refl
