-- What the rows of a module name: the assembly and its references, and types with their enclosers. Rows are
-- counted from 1.
use Rattle.std.specs.Prelude.{ℕ, ◌+◌, ◌/◌, ◌%◌, ◌^◌, ◌==◌, ◌&&◌, nat_lt, zero, suc, Bool, List, length, ◌++◌, codes, Option, Some, None, if◌then◌else◌}
use Rattle.std.specs.List.{find, range_with_len}
use Rattle.std.specs.Option.{option_and_then, option_map_or}
use Rattle.std.specs.Str.{bytes_eq}
use Rattle.assembly_name.specs.declared.version.Version.{Version}
use Rattle.metadata_tables.specs.declared.schema.CodedIndex.TheVariants.{ResolutionScope}
use Rattle.metadata_tables.specs.Columns.{target_of}
use Rattle.metadata_tables.specs.Tables as tables
use Rattle.assembly_image.specs.declared.names.Named.{Named}
use Rattle.assembly_image.specs.declared.names.Named.TheVariants.{TypeDef, TypeRef}
use Rattle.assembly_image.specs.Module.{Module, has_row, count, number, text}

-- the four parts of a version, which begin in a column of a row
abbrev pub version_at : Module → ℕ → ℕ → ℕ → Version
version_at m table n k = record {
  major = number m table n k;
  minor = number m table n (k + 1);
  build = number m table n (k + 2);
  revision = number m table n (k + 3);
}

-- the simple name and the version of the assembly (ECMA-335 II.22.2)
abbrev pub assembly_name : Module → List ℕ
assembly_name m = text m tables.assembly 1 tables.assembly_name

abbrev pub assembly_version : Module → Version
assembly_version m = version_at m tables.assembly 1 tables.assembly_major

-- those of a reference to an assembly (II.22.5)
abbrev pub reference_name : Module → ℕ → List ℕ
reference_name m n = text m tables.assembly_ref n tables.assembly_ref_name

abbrev pub reference_version : Module → ℕ → Version
reference_version m n = version_at m tables.assembly_ref n tables.assembly_ref_major

-- the name of a type within its namespace or its encloser, and its namespace (II.22.37)
abbrev pub type_name : Module → ℕ → List ℕ
type_name m row = text m tables.type_def row tables.type_def_name

abbrev pub type_namespace : Module → ℕ → List ℕ
type_namespace m row = text m tables.type_def row tables.type_def_namespace

-- there is such a type
abbrev pub has_type : Module → ℕ → Bool
has_type m row = has_row m tables.type_def row

-- the first row of NestedClass that names the type (II.22.32)
abbrev pub nesting : Module → ℕ → Option ℕ
nesting m row =
    find (λ n. number m tables.nested_class n tables.nested_class_nested == row)
    (range_with_len 1 (count m tables.nested_class))

-- the row of an encloser stands before that of the type; that a row of NestedClass which says otherwise, or
-- says 0, gives no encloser is own
abbrev pub encloser_before : ℕ → ℕ → Option ℕ
encloser_before row enclosing =
    if nat_lt 0 enclosing && nat_lt enclosing row then Some enclosing else None

-- the type that encloses the type, if there is such a type and one that encloses it
abbrev pub encloser : Module → ℕ → Option ℕ
encloser m row =
    if has_type m row then
    option_and_then (λ n. encloser_before row (number m tables.nested_class n tables.nested_class_enclosing))
    (nesting m row)
    else None

-- the namespace, a dot and the name, or the name alone
abbrev pub qualified : List ℕ → List ℕ → List ℕ
qualified namespace name = if length namespace == 0 then name else namespace ++ (codes "." ++ name)

-- the full name of what stands in other things of its kind, of which at most so many are named: that of the
-- one in which it stands, a slash and its name (own)
abbrev pub nested_name : (ℕ → Option ℕ) → (ℕ → List ℕ) → (ℕ → List ℕ) → ℕ → ℕ → List ℕ
nested_name outer namespace name zero row = qualified (namespace row) (name row)
nested_name outer namespace name (suc most) row =
    option_map_or (λ around. nested_name outer namespace name most around ++ (codes "/" ++ name row))
    (outer row) (qualified (namespace row) (name row))

abbrev pub full_name_within : Module → ℕ → ℕ → List ℕ
full_name_within m most row = nested_name (encloser m) (type_namespace m) (type_name m) most row

-- at most 16 enclosers are named (own)
abbrev pub full_name : Module → ℕ → List ℕ
full_name m row = full_name_within m 16 row

-- the first type of a full name
abbrev pub type_of_name : Module → List ℕ → Option ℕ
type_of_name m full = find (λ row. bytes_eq (full_name m row) full) (range_with_len 1 (count m tables.type_def))

-- the scope of a reference to a type: a table, and its row or 0 (II.22.38)
abbrev pub type_ref_scope : Module → ℕ → Option (ℕ × ℕ)
type_ref_scope m n =
    if has_row m tables.type_ref n
    then target_of ResolutionScope (number m tables.type_ref n tables.type_ref_resolution_scope)
    else None

abbrev pub type_ref_name : Module → ℕ → List ℕ
type_ref_name m n = text m tables.type_ref n tables.type_ref_name

abbrev pub type_ref_namespace : Module → ℕ → List ℕ
type_ref_namespace m n = text m tables.type_ref n tables.type_ref_namespace

-- the reference that a scope is, if it is one
abbrev pub as_type_ref : ℕ × ℕ → Option ℕ
as_type_ref scope = if (scope.0 == tables.type_ref) && nat_lt 0 scope.1 then Some scope.1 else None

-- the reference in which a reference stands
abbrev pub type_ref_outer : Module → ℕ → Option ℕ
type_ref_outer m n = option_and_then as_type_ref (type_ref_scope m n)

-- the outermost of the references in which a reference stands, if these are at most so many
abbrev pub outermost_within : Module → ℕ → ℕ → Option ℕ
outermost_within m zero n = option_map_or (λ outer. None) (type_ref_outer m n) (Some n)
outermost_within m (suc most) n = option_map_or (outermost_within m most) (type_ref_outer m n) (Some n)

-- the scope of the outermost reference; the limit of 16 is own
abbrev pub outermost_scope : Module → ℕ → Option (ℕ × ℕ)
outermost_scope m n = option_and_then (type_ref_scope m) (outermost_within m 16 n)

-- in what a type, or a reference to one, stands, and its namespace and its name
abbrev pub outer_of : Module → Named → ℕ → Option ℕ
outer_of m TypeDef = encloser m
outer_of m TypeRef = type_ref_outer m

abbrev pub namespace_of : Module → Named → ℕ → List ℕ
namespace_of m TypeDef = type_namespace m
namespace_of m TypeRef = type_ref_namespace m

abbrev pub name_of : Module → Named → ℕ → List ℕ
name_of m TypeDef = type_name m
name_of m TypeRef = type_ref_name m

abbrev pub name_within : Module → Named → ℕ → ℕ → List ℕ
name_within m kind most row = nested_name (outer_of m kind) (namespace_of m kind) (name_of m kind) most row

-- the full name of a reference to a type, as that of a type
abbrev pub type_ref_full_name : Module → ℕ → List ℕ
type_ref_full_name m n = name_within m TypeRef 16 n

-- the table and the row that a token names, if there is such a row (II.22, III.1.9)
abbrev pub token_row : Module → ℕ → Option (ℕ × ℕ)
token_row m token =
    let table = token / 2 ^ 24 in
    let n = token % 2 ^ 24 in
    if has_row m table n then Some (table, n) else None
