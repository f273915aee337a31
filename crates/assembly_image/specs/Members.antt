-- The fields and the methods of types, by the lists that begin in the rows of types (ECMA-335 II.22.37).
-- Rows are counted from 1.
use Rattle.std.specs.Prelude.{ℕ, ◌+◌, ◌-◌, ◌==◌, ◌&&◌, nat_lt, nat_le, List, [], Bool, Option, None, if◌then◌else◌}
use Rattle.std.specs.List.{find, range_with_len}
use Rattle.std.specs.Str.{bytes_eq}
use Rattle.std.specs.declared.ops.Range.{Range}
use Rattle.cli_words.specs.declared.span.Span.{Span}
use Rattle.pe_image.specs.Reading.{pe_of}
use Rattle.pe_image.specs.Section.{span_of}
use Rattle.metadata_tables.specs.Tables as tables
use Rattle.assembly_image.specs.Module.{Module, count, number, text}
use Rattle.assembly_image.specs.declared.members.Member.{Member}
use Rattle.assembly_image.specs.declared.members.Member.TheVariants.{Field, Method}
use Rattle.assembly_image.specs.Names.{has_type}
use Rattle.assembly_image.specs.Reading.{module_of}

-- the row after a list that begins in a column of a type's row: where that of the next type begins, or right
-- after the table
abbrev pub after_list : Module → ℕ → ℕ → ℕ → ℕ
after_list m table row k =
    if nat_lt row (count m tables.type_def) then number m tables.type_def (row + 1) k else count m table + 1

-- the first row of the list and the row after it; 0 and 0 where there is no such type
abbrev pub list_range : Module → ℕ → ℕ → ℕ → Range ℕ
list_range m table row k =
    if has_type m row then record { start = number m tables.type_def row k; end = after_list m table row k }
    else record { start = 0; end = 0 }

-- the rows of the list; none where there is no such type
abbrev pub list_of : Module → ℕ → ℕ → ℕ → List ℕ
list_of m table row k =
    let first = number m tables.type_def row k in
    if has_type m row then range_with_len first (after_list m table row k - first) else []

-- a test of whether the list of a type has row n
abbrev pub has_in_list : Module → ℕ → ℕ → ℕ → ℕ → Bool
has_in_list m table k n row = nat_le (number m tables.type_def row k) n && nat_lt n (after_list m table row k)

-- the table of the members of a kind (II.22.15, II.22.26)
abbrev pub table_of : Member → ℕ
table_of Field = tables.field
table_of Method = tables.method_def

-- the column of a type's row in which the list of these members begins (II.22.37)
abbrev pub list_of_kind : Member → ℕ
list_of_kind Field = tables.type_def_field_list
list_of_kind Method = tables.type_def_method_list

-- the column of their names
abbrev pub name_of_kind : Member → ℕ
name_of_kind Field = tables.field_name
name_of_kind Method = tables.method_def_name

-- the rows of the members of a type
abbrev pub members_of : Module → Member → ℕ → List ℕ
members_of m kind row = list_of m (table_of kind) row (list_of_kind kind)

-- the first of these rows and the row after the last
abbrev pub member_range : Module → Member → ℕ → Range ℕ
member_range m kind row = list_range m (table_of kind) row (list_of_kind kind)

abbrev pub fields_of : Module → ℕ → List ℕ
fields_of m row = members_of m Field row

abbrev pub methods_of : Module → ℕ → List ℕ
methods_of m row = members_of m Method row

-- the type that has a member; none where its row stands in the list of no type
abbrev pub type_of_member : Module → Member → ℕ → Option ℕ
type_of_member m kind n =
    find (has_in_list m (table_of kind) (list_of_kind kind) n) (range_with_len 1 (count m tables.type_def))

-- the name of a member
abbrev pub member_name : Module → Member → ℕ → List ℕ
member_name m kind n = text m (table_of kind) n (name_of_kind kind)

abbrev pub field_name : Module → ℕ → List ℕ
field_name m n = member_name m Field n

abbrev pub method_name : Module → ℕ → List ℕ
method_name m n = member_name m Method n

-- the first member of a type that has the name and stands at or after a row
abbrev pub member_of_name : Module → Member → ℕ → ℕ → List ℕ → Option ℕ
member_of_name m kind row from name =
    find (λ n. nat_le from n && bytes_eq (member_name m kind n) name) (members_of m kind row)

abbrev pub field_of_name : Module → ℕ → ℕ → List ℕ → Option ℕ
field_of_name m row from name = member_of_name m Field row from name

abbrev pub method_of_name : Module → ℕ → ℕ → List ℕ → Option ℕ
method_of_name m row from name = member_of_name m Method row from name

-- the flags of a type (II.23.1.15)
abbrev pub type_flags : Module → ℕ → ℕ
type_flags m row = number m tables.type_def row tables.type_def_flags

-- the flags of a field (II.23.1.5)
abbrev pub field_flags : Module → ℕ → ℕ
field_flags m n = number m tables.field n tables.field_flags

-- the flags of a method (II.23.1.10)
abbrev pub method_flags : Module → ℕ → ℕ
method_flags m n = number m tables.method_def n tables.method_def_flags

-- the place of one byte of memory in the file
abbrev pub place_of_byte : List ℕ → ℕ → Option Span
place_of_byte bytes rva = span_of bytes (pe_of bytes).sections_at (pe_of bytes).sections rva 1

-- where the body of a method begins (II.22.26); one whose RVA is 0 has none
abbrev pub body_place : List ℕ → ℕ → Option Span
body_place bytes n =
    let rva = number (module_of bytes) tables.method_def n tables.method_def_rva in
    if rva == 0 then None else place_of_byte bytes rva
