-- The fields and the methods of a type.
use Rattle.std.proofs.Common.{◌^◌, ◌≡◌, ℕ, ◌+◌, ◌-◌, ◌<◌, ◌≤◌, nat_le, nat_lt, ◌&&◌, Bool, true, List, length, Some, None, refl, ap, subst, ◌∙◌, arith, inl, inr}
use Rattle.std.proofs.lemmas.Bool.{cases_Bool}
use Rattle.std.proofs.lemmas.Bool.Decides.{nat_tests}
use Rattle.std.specs.List.{find, range_with_len}
use Rattle.std.specs.Str.{bytes_eq}
use Rattle.metadata_tables.specs.declared.layout.Layout.{Layout}
use Rattle.metadata_tables.specs.declared.schema.Column.TheVariants.{U16, List as ListColumn}
use Rattle.metadata_tables.specs.Columns.{columns_of, column_of}
use Rattle.metadata_tables.specs.Layout.{row_size_of}
use Rattle.metadata_tables.specs.Tables as tables
use Rattle.assembly_image.specs.declared.members.Member.{Member}
use Rattle.assembly_image.specs.declared.members.Member.TheVariants.{Field, Method}
use Rattle.assembly_image.specs.Module.{Module, has_row, count, number}
use Rattle.assembly_image.specs.Members.{table_of, list_of_kind, after_list, members_of, member_name, member_of_name, member_range, type_of_member}
use Rattle.assembly_image.specs.Names.{has_type}
use Rattle.assembly_image.specs.Reading.{Reads}
use Rattle.assembly_image.proofs.FindLemmas.{NoneBetween, find_first, find_none}
use Rattle.assembly_image.proofs.Facts.{list_rises, list_inside, few_rows}
use Rattle.assembly_image.proofs.Lists.{rises_by_steps, type_found, type_missing}

pub known_table : (kind : Member) → table_of kind < 45
known_table Field = omega arith
known_table Method = omega arith

-- a row takes a byte or more
pub some_bytes : (layout : Layout) (kind : Member) → 1 ≤ row_size_of layout (table_of kind)
unfolding columns_of
some_bytes layout Field = omega arith
some_bytes layout Method = omega arith

-- the column at which the list of a type begins
pub list_column : (kind : Member) → (list_of_kind kind < length (columns_of tables.type_def))
    × (column_of tables.type_def (list_of_kind kind) ≡ ListColumn (table_of kind))
unfolding columns_of
list_column Field = (omega arith, refl)
list_column Method = (omega arith, refl)

abbrev pub is_member_sought : Module → Member → ℕ → List ℕ → ℕ → Bool
is_member_sought m kind from name n = nat_le from n && bytes_eq (member_name m kind n) name

-- the rows of a type by the first and the one after the last
pub rows_are : (m : Module) (kind : Member) (row : ℕ)
    → members_of m kind row ≡ range_with_len (member_range m kind row).start ((member_range m kind row).end - (member_range m kind row).start)
rows_are m kind row =
    elim (cases_Bool (has_type m row)) as (λ _. members_of m kind row ≡ range_with_len (member_range m kind row).start ((member_range m kind row).end - (member_range m kind row).start)) [
      | inl there ↦ rw there refl
      | inr gone ↦ rw gone refl
    ]

-- a member that is sought among the rows of a type
module _ (m : Module) (kind : Member) (row from : ℕ) (name : List ℕ) (first end : ℕ)
    (rows : members_of m kind row ≡ range_with_len first (end - first)) where
  abbrev is_sought : ℕ → Bool
  is_sought = is_member_sought m kind from name

  pub member_first : (n : ℕ) → first ≤ n → n < end → from ≤ n → bytes_eq (member_name m kind n) name ≡ true
      → NoneBetween is_sought first n → member_of_name m kind row from name ≡ Some n
  member_first n behind before after named none =
      let late : nat_le from n ≡ true = grind (arith, nat_tests) in
      let here : is_sought n ≡ true = rw (late, named) refl in
      ap (find is_sought) rows ∙ find_first is_sought first (end - first) n behind (omega arith) here none

  pub member_none : (n : ℕ) → end ≤ n → NoneBetween is_sought first n → member_of_name m kind row from name ≡ None
  member_none n past none =
      let all : NoneBetween is_sought first (first + (end - first)) =
      λ k behind before. none k behind (omega arith) in
      ap (find is_sought) rows ∙ find_none is_sought first (end - first) all

-- the type that has a member
module _ (bytes : List ℕ) (m : Module) (reads : Reads bytes m) (kind : Member) where
  abbrev start : ℕ → ℕ
  start row = number m tables.type_def row (list_of_kind kind)

  abbrev after : ℕ → ℕ
  after row = after_list m (table_of kind) row (list_of_kind kind)

  abbrev types : ℕ
  types = count m tables.type_def

  next : (row : ℕ) → row < types → after row ≡ start (row + 1)
  next row h =
      let test : nat_lt row types ≡ true = grind (arith, nat_tests) in
      rw test refl

  step : (i : ℕ) → 1 ≤ i → i < types → start i ≤ start (i + 1)
  step i some h =
      let here : has_row m tables.type_def i ≡ true = grind (arith, nat_tests) in
      let later : has_row m tables.type_def (i + 1) ≡ true = grind (arith, nat_tests) in
      let column = list_column kind in
      list_rises bytes m reads tables.type_def i (list_of_kind kind) (table_of kind) here later column.0 column.1

  -- a list begins within its table, or after its last row
  pub start_inside : (row : ℕ) → 1 ≤ row → row ≤ types → start row ≤ 2 ^ 24
  start_inside row some most =
      let here : has_row m tables.type_def row ≡ true = grind (arith, nat_tests) in
      let column = list_column kind in
      let inside = list_inside bytes m reads tables.type_def row (list_of_kind kind) here column.0
      (table_of kind) (known_table kind) column.1 in
      let few = few_rows bytes m reads (table_of kind) (known_table kind) in
      let most : start row ≤ count m (table_of kind) + 1 = inside.1 in
      omega (arith, most, few)

  pub starts_rise : (i j : ℕ) → 1 ≤ i → i ≤ j → j ≤ types → start i ≤ start j
  starts_rise i j some h most =
      let same : i + (j - i) ≡ j = omega arith in
      subst (λ (k : ℕ). start i ≤ start k) same (rises_by_steps start types step i (j - i) some (omega arith))

  pub has_member : (n low : ℕ) → 1 ≤ low → low ≤ types → start low ≤ n → n < after low
      → type_of_member m kind n ≡ Some low
  has_member n low some most s a = type_found start after types n starts_rise next low some most s a

  pub has_no_member : (n low : ℕ) → low ≤ types → (0 < low → start low ≤ n) → (0 < low → after low ≤ n)
      → (low < types → n < start (low + 1)) → type_of_member m kind n ≡ None
  has_no_member n low most s a past = type_missing start after types n starts_rise next low most s a past

-- flags are words of two bytes
pub field_flags_word : column_of tables.field tables.field_flags ≡ U16
unfolding columns_of
field_flags_word = refl

pub method_def_flags_word : column_of tables.method_def tables.method_def_flags ≡ U16
unfolding columns_of
method_def_flags_word = refl
