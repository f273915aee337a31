-- The rows that a module stands for: those of each table, and in each row its cells from the left (ECMA-335
-- II.22). A column that the module does not give is 0 or empty (own).
use Rattle.std.specs.Prelude.{ℕ, ◌+◌, ◌==◌, if◌then◌else◌, List, [], ◌∷◌, map, filter, length}
use Rattle.std.specs.List.{flat_map, range_with_len}
use Rattle.cli_words.specs.Text.{units_of, bytes_of}
use Rattle.assembly_name.specs.declared.version.AssemblyRef.{AssemblyRef}
use Rattle.assembly_image.specs.Module as image
use Rattle.assembly_image.specs.Module.Cell.{Number as held_number, Text as held_text, Bytes as held_bytes}
use Rattle.image_maker.specs.declared.module.Module.{Module}
use Rattle.image_maker.specs.declared.module.TypeRefRow.{TypeRefRow}
use Rattle.image_maker.specs.declared.module.TypeRow.{TypeRow}
use Rattle.image_maker.specs.declared.module.FieldRow.{FieldRow}
use Rattle.image_maker.specs.declared.module.MethodRow.{MethodRow}
use Rattle.image_maker.specs.declared.module.MemberRow.{MemberRow}
use Rattle.image_maker.specs.declared.module.Cell.{Cell}
use Rattle.image_maker.specs.declared.module.Cell.TheVariants.{Number, Text, Bytes}

-- Generation, Name, Mvid, EncId, EncBaseId (II.22.30)
abbrev pub module_row : Module → List Cell
module_row m = Number 0 ∷ Text m.name ∷ Number 0 ∷ Number 0 ∷ Number 0 ∷ []

-- ResolutionScope, Name, Namespace (II.22.38)
abbrev pub type_ref_row : TypeRefRow → List Cell
type_ref_row t = Number t.scope ∷ Text t.name ∷ Text t.space ∷ []

-- Flags, Name, Namespace, Extends, FieldList, MethodList (II.22.37)
abbrev pub type_row : TypeRow → ℕ → ℕ → List Cell
type_row t field method =
    Number t.flags ∷ Text t.name ∷ Text t.space ∷ Number t.parent ∷ Number field ∷ Number method ∷ []

-- the rows of types, the first of which has its fields and its methods from these rows on: each list begins
-- where that of the type before it ends
abbrev pub type_rows : ℕ → ℕ → List TypeRow → List (List Cell)
type_rows field method [] = []
type_rows field method (t ∷ types) =
    type_row t field method ∷ type_rows (field + length t.fields) (method + length t.methods) types

-- Flags, Name, Signature (II.22.15)
abbrev pub field_row : FieldRow → List Cell
field_row f = Number f.flags ∷ Text f.name ∷ Bytes f.sig ∷ []

-- RVA, ImplFlags, Flags, Name, Signature, ParamList (II.22.26)
abbrev pub method_row : MethodRow → ℕ → ℕ → List Cell
method_row m rva param =
    Number rva ∷ Number m.impl_flags ∷ Number m.flags ∷ Text m.name ∷ Bytes m.sig ∷ Number param ∷ []

-- the rows of methods, the first of which is row n and has its params from this row on, where `rva` gives
-- the RVA of a method's row
abbrev pub method_rows : (ℕ → ℕ) → ℕ → ℕ → List MethodRow → List (List Cell)
method_rows rva n param [] = []
method_rows rva n param (m ∷ methods) =
    method_row m (rva n) param ∷ method_rows rva (n + 1) (param + m.params) methods

-- Class, Name, Signature (II.22.25)
abbrev pub member_row : MemberRow → List Cell
member_row m = Number m.class ∷ Text m.name ∷ Bytes m.sig ∷ []

-- Signature (II.22.39)
abbrev pub spec_row : List ℕ → List Cell
spec_row sig = Bytes sig ∷ []

-- HashAlgId, the four parts of the version, Flags, PublicKey, Name, Culture (II.22.2)
abbrev pub assembly_row : Module → List Cell
assembly_row m =
    Number 0 ∷ Number m.version.major ∷ Number m.version.minor ∷ Number m.version.build ∷ Number m.version.revision
    ∷ Number 0 ∷ Bytes [] ∷ Text m.name ∷ Text [] ∷ []

-- the four parts of the version, Flags, PublicKeyOrToken, Name, Culture, HashValue (II.22.5)
abbrev pub reference_row : AssemblyRef → List Cell
reference_row r =
    Number r.version.major ∷ Number r.version.minor ∷ Number r.version.build ∷ Number r.version.revision
    ∷ Number 0 ∷ Bytes [] ∷ Text (bytes_of r.name) ∷ Text [] ∷ Bytes [] ∷ []

-- all fields, and all methods, type by type
abbrev pub all_fields : Module → List FieldRow
all_fields m = flat_map (λ t. t.fields) m.types

abbrev pub all_methods : Module → List MethodRow
all_methods m = flat_map (λ t. t.methods) m.types

-- the rows that a module gives of a table as cells
abbrev pub given_rows : ℕ → List (ℕ × List Cell) → List (List Cell)
given_rows table rows = map (λ r. r.1) (filter (λ r. r.0 == table) rows)

-- the rows of a table
abbrev pub rows_of : Module → (ℕ → ℕ) → ℕ → List (List Cell)
rows_of m rva table =
    if table == 0x00 then module_row m ∷ []
    else (if table == 0x01 then map type_ref_row m.type_refs
    else (if table == 0x02 then type_rows 1 1 m.types
    else (if table == 0x04 then map field_row (all_fields m)
    else (if table == 0x06 then method_rows rva 1 1 (all_methods m)
    else (if table == 0x0A then map member_row m.members
    else (if table == 0x1B then map spec_row m.specs
    else (if table == 0x20 then assembly_row m ∷ []
    else (if table == 0x23 then map reference_row m.refs
    else given_rows table m.rows))))))))

-- what the reader holds of a cell
abbrev pub held : Cell → image.Cell
held (Number value) = held_number value
held (Text bytes) = held_text (units_of bytes)
held (Bytes bytes) = held_bytes bytes

-- what an image holds that stands for the module
abbrev pub image_of : Module → (ℕ → ℕ) → image.Module
image_of m rva = record {
  tables = map (λ table. map (map held) (rows_of m rva table)) (range_with_len 0 45);
  user_strings = m.user_strings;
  guids = m.guids;
}
