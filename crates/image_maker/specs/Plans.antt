-- The modules that are made of literals (own).
use Rattle.std.specs.Prelude.{List, ℕ, map, Some, slice_index}
use Rattle.assembly_name.specs.declared.version.AssemblyRef.{AssemblyRef}
use Rattle.assembly_name.specs.declared.version.Version.{Version}
use Rattle.image_maker.specs.declared.module.Cell as made
use Rattle.image_maker.specs.declared.module.Cell.TheVariants as made_cell
use Rattle.image_maker.specs.declared.module.FieldRow.{FieldRow}
use Rattle.image_maker.specs.declared.module.MemberRow.{MemberRow}
use Rattle.image_maker.specs.declared.module.MethodRow.{MethodRow}
use Rattle.image_maker.specs.declared.module.Module.{Module}
use Rattle.image_maker.specs.declared.module.TypeRefRow.{TypeRefRow}
use Rattle.image_maker.specs.declared.module.TypeRow.{TypeRow}
use Rattle.image_maker.specs.declared.plans.Plan.{Plan}
use Rattle.image_maker.specs.declared.plans.Ref.{Ref}
use Rattle.image_maker.specs.declared.plans.TypeRef.{TypeRef}
use Rattle.image_maker.specs.declared.plans.Class.{Class}
use Rattle.image_maker.specs.declared.plans.Field.{Field}
use Rattle.image_maker.specs.declared.plans.Method.{Method}
use Rattle.image_maker.specs.declared.plans.Member.{Member}
use Rattle.image_maker.specs.declared.plans.Row.{Row}
use Rattle.image_maker.specs.declared.plans.Cell.{Cell}
use Rattle.image_maker.specs.declared.plans.Cell.TheVariants.{Number, Text, Bytes}
use Rattle.image_maker.specs.declared.plans.Stream.{Stream}
use Rattle.image_maker.specs.Samples.{version_of, reference_of, type_ref_of, type_of, field_of, member_of, one_guid}

abbrev pub version_by : List ℕ → Version
version_by parts =
    version_of (slice_index parts 0) (slice_index parts 1) (slice_index parts 2) (slice_index parts 3)

abbrev pub ref_by : Ref → AssemblyRef
ref_by r = reference_of r.0.now (version_by r.1)

abbrev pub type_ref_by : TypeRef → TypeRefRow
type_ref_by t = type_ref_of t.0 t.1.now t.2.now

abbrev pub field_by : Field → FieldRow
field_by f = field_of f.0.now f.1.now

abbrev pub method_by : Method → MethodRow
method_by m = record {
  flags = 0x10;
  impl_flags = 0;
  params = m.0;
  name = m.1.now;
  sig = m.2.now;
  body = Some m.3.now;
}

abbrev pub class_by : Class → TypeRow
class_by t = type_of t.0.now t.1.now t.2 (map field_by t.3.now) (map method_by t.4.now)

abbrev pub member_by : Member → MemberRow
member_by m = member_of m.0 m.1.now m.2.now

abbrev pub cell_by : Cell → made.Cell
cell_by (Number value) = made_cell.Number value
cell_by (Text text) = made_cell.Text text.now
cell_by (Bytes bytes) = made_cell.Bytes bytes.now

abbrev pub row_by : Row → ℕ × List made.Cell
row_by r = (r.0, map cell_by r.1.now)

abbrev pub stream_by : Stream → List ℕ × List ℕ
stream_by s = (s.0.now, s.1.now)

abbrev pub module_by : Plan → Module
module_by p = record {
  name = p.name.now;
  version = version_by p.version;
  refs = map ref_by p.refs.now;
  type_refs = map type_ref_by p.type_refs.now;
  types = map class_by p.types.now;
  members = map member_by p.members.now;
  specs = map (λ s. s.now) p.specs.now;
  user_strings = p.user_strings.now;
  guids = one_guid;
  rows = map row_by p.rows.now;
  streams = map stream_by p.streams.now;
}
