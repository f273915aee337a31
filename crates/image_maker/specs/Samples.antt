-- The modules that are made as samples (own).
use Rattle.std.specs.Prelude.{ℕ, ◌+◌, ◌*◌, List, [], ◌∷◌, length, Some, codes}
use Rattle.assembly_name.specs.declared.version.AssemblyRef.{AssemblyRef}
use Rattle.assembly_name.specs.declared.version.Version.{Version}
use Rattle.image_maker.specs.declared.module.Cell.{Cell}
use Rattle.image_maker.specs.declared.module.Cell.TheVariants.{Number, Text, Bytes}
use Rattle.image_maker.specs.declared.module.FieldRow.{FieldRow}
use Rattle.image_maker.specs.declared.module.MemberRow.{MemberRow}
use Rattle.image_maker.specs.declared.module.MethodRow.{MethodRow}
use Rattle.image_maker.specs.declared.module.Module.{Module}
use Rattle.image_maker.specs.declared.module.TypeRefRow.{TypeRefRow}
use Rattle.image_maker.specs.declared.module.TypeRow.{TypeRow}
use Rattle.image_maker.specs.declared.samples.SampleName.{SampleName}
use Rattle.image_maker.specs.declared.samples.SampleName.TheVariants.{Lib1, Lib2, Lib19, Use, Gen, Deep, Ops, Rel}

abbrev pub version_of : ℕ → ℕ → ℕ → ℕ → Version
version_of a b c d = record { major = a; minor = b; build = c; revision = d }

-- a reference by an ASCII name, whose units are its bytes
abbrev pub reference_of : List ℕ → Version → AssemblyRef
reference_of ascii wanted = record { name = ascii; version = wanted }

abbrev pub type_ref_of : ℕ → List ℕ → List ℕ → TypeRefRow
type_ref_of from front last = record { scope = from; name = last; space = front }

-- a type without flags
abbrev pub type_of : List ℕ → List ℕ → ℕ → List FieldRow → List MethodRow → TypeRow
type_of front last extends own_fields own_methods =
    record { flags = 0; name = last; space = front; parent = extends; fields = own_fields; methods = own_methods }

-- a static field
abbrev pub field_of : List ℕ → List ℕ → FieldRow
field_of called type = record { flags = 0x10; name = called; sig = type }

-- a method body of fewer than 64 bytes (II.25.4.2)
abbrev pub tiny_body : List ℕ → List ℕ
tiny_body code = (length code * 4 + 2) ∷ code

-- a static method with such a body, which has this many rows of Param
abbrev pub method_of : ℕ → List ℕ → List ℕ → List ℕ → MethodRow
method_of count called type code =
    record { flags = 0x10; impl_flags = 0; params = count; name = called; sig = type; body = Some (tiny_body code) }

abbrev pub member_of : ℕ → List ℕ → List ℕ → MemberRow
member_of parent called type = record { class = parent; name = called; sig = type }

abbrev pub first_version : Version
first_version = version_of 1 0 0 0

abbrev pub runtime : AssemblyRef
runtime = reference_of (codes "System.Runtime") (version_of 8 0 0 0)

-- the type System.Object of the first reference
abbrev pub object : TypeRefRow
object = type_ref_of 6 (codes "System") (codes "Object")

-- the type to which belongs what stands in no type (II.22.37)
abbrev pub nowhere : TypeRow
nowhere = type_of [] (codes "<Module>") 0 [] []

-- the heap of GUIDs
abbrev pub one_guid : List ℕ
one_guid =
    0x47 ∷ 0x61 ∷ 0x64 ∷ 0x64 ∷ 0x72 ∷ 0x65 ∷ 0x66 ∷ 0x49 ∷ 0x8C ∷ 0x01 ∷ 0x02 ∷ 0x03 ∷ 0x04 ∷ 0x05 ∷ 0x06 ∷ 0x07 ∷ []

-- a module with these parts, and with no more
abbrev pub module_of : List ℕ → Version → List AssemblyRef → List TypeRefRow → List TypeRow → List MemberRow → Module
module_of called numbers references foreign own_types used =
    record {
      name = called;
      version = numbers;
      refs = references;
      type_refs = foreign;
      types = own_types;
      members = used;
      specs = [];
      user_strings = 0 ∷ [];
      guids = one_guid;
      rows = [];
      streams = [];
    }

abbrev pub lib : Version → List ℕ → Module
lib numbers code =
    module_of (codes "Lib") numbers (runtime ∷ []) (object ∷ [])
    (nowhere
    ∷ type_of (codes "Lib") (codes "C") 5 [] (method_of 0 (codes "Get") (0x00 ∷ 0x00 ∷ 0x08 ∷ []) code ∷ [])
    ∷ []) []

abbrev pub use_lib : Module
use_lib =
    module_of (codes "Use") first_version
    (runtime ∷ reference_of (codes "Lib") first_version ∷ [])
    (object ∷ type_ref_of 10 (codes "Lib") (codes "C") ∷ [])
    (nowhere
    ∷ type_of (codes "Use") (codes "P") 5 []
    (method_of 0 (codes "Run") (0x00 ∷ 0x00 ∷ 0x08 ∷ []) (0x28 ∷ 0x01 ∷ 0x00 ∷ 0x00 ∷ 0x0A ∷ 0x2A ∷ []) ∷ [])
    ∷ [])
    (member_of 17 (codes "Get") (0x00 ∷ 0x00 ∷ 0x08 ∷ []) ∷ [])

-- Number, Flags, Owner, Name: a parameter of the second type
abbrev pub type_param : ℕ → List ℕ → ℕ × List Cell
type_param n called = (0x2A, Number n ∷ Number 0 ∷ Number 4 ∷ Text called ∷ [])

abbrev pub generic_types : List TypeRow
generic_types =
    nowhere
    ∷ type_of (codes "Gen") (codes "Pair`2") 5 (field_of (codes "n") (0x06 ∷ 0x08 ∷ []) ∷ []) []
    ∷ type_of (codes "Gen") (codes "U") 5 []
    (method_of 0 (codes "Run") (0x00 ∷ 0x00 ∷ 0x08 ∷ []) (0x7E ∷ 0x01 ∷ 0x00 ∷ 0x00 ∷ 0x0A ∷ 0x2A ∷ []) ∷ [])
    ∷ []

abbrev pub generic : Module
generic = record (module_of (codes "Gen") first_version
    (runtime ∷ reference_of (codes "Lib") first_version ∷ [])
    (object ∷ type_ref_of 10 (codes "Lib") (codes "C") ∷ []) generic_types
    (member_of 12 (codes "n") (0x06 ∷ 0x08 ∷ []) ∷ [])) {
      specs = (0x15 ∷ 0x12 ∷ 0x08 ∷ 0x02 ∷ 0x12 ∷ 0x0C ∷ 0x12 ∷ 0x09 ∷ []) ∷ [];
      rows = type_param 0 (codes "T") ∷ type_param 1 (codes "U") ∷ [];
    }

abbrev pub deep : Module
deep =
    module_of (codes "Deep") first_version (runtime ∷ []) (object ∷ [])
    (nowhere
    ∷ type_of (codes "Deep") (codes "E") 8 [] (method_of 0 (codes "M") (0x00 ∷ 0x00 ∷ 0x01 ∷ []) (0x2A ∷ []) ∷ [])
    ∷ []) []

abbrev pub ops_methods : List MethodRow
ops_methods =
    method_of 0 (codes "Div") (0x00 ∷ 0x02 ∷ 0x08 ∷ 0x08 ∷ 0x08 ∷ []) (0x02 ∷ 0x03 ∷ 0x5B ∷ 0x2A ∷ [])
    ∷ method_of 0 (codes "AddOvf") (0x00 ∷ 0x02 ∷ 0x08 ∷ 0x08 ∷ 0x08 ∷ []) (0x02 ∷ 0x03 ∷ 0xD6 ∷ 0x2A ∷ [])
    ∷ method_of 0 (codes "Shl") (0x00 ∷ 0x02 ∷ 0x08 ∷ 0x08 ∷ 0x08 ∷ []) (0x02 ∷ 0x03 ∷ 0x62 ∷ 0x2A ∷ [])
    ∷ method_of 0 (codes "Spin3") (0x00 ∷ 0x01 ∷ 0x01 ∷ 0x08 ∷ [])
    (0x00 ∷ 0x00 ∷ 0x00 ∷ 0x02 ∷ 0x17 ∷ 0x59 ∷ 0x10 ∷ 0x00 ∷ 0x02 ∷ 0x2D ∷ 0xF8 ∷ 0x2A ∷ [])
    ∷ method_of 0 (codes "Spin4") (0x00 ∷ 0x01 ∷ 0x01 ∷ 0x08 ∷ [])
    (0x00 ∷ 0x00 ∷ 0x00 ∷ 0x00 ∷ 0x02 ∷ 0x17 ∷ 0x59 ∷ 0x10 ∷ 0x00 ∷ 0x02 ∷ 0x2D ∷ 0xF8 ∷ 0x2A ∷ [])
    ∷ method_of 0 (codes "Bad") (0x00 ∷ 0x00 ∷ 0x08 ∷ []) (0x17 ∷ 0x17 ∷ 0x2D ∷ 0x01 ∷ 0x18 ∷ 0x2A ∷ [])
    ∷ method_of 0 (codes "Loop") (0x00 ∷ 0x01 ∷ 0x01 ∷ 0x08 ∷ [])
    (0x7E ∷ 0x01 ∷ 0x00 ∷ 0x00 ∷ 0x04 ∷ 0x26 ∷ 0x02 ∷ 0x17 ∷ 0x59 ∷ 0x10 ∷ 0x00 ∷ 0x02 ∷ 0x2D ∷ 0xF2 ∷ 0x2A ∷ [])
    ∷ method_of 0 (codes "Rec") (0x00 ∷ 0x01 ∷ 0x01 ∷ 0x08 ∷ [])
    (0x02 ∷ 0x2C ∷ 0x08 ∷ 0x02 ∷ 0x17 ∷ 0x59 ∷ 0x28 ∷ 0x08 ∷ 0x00 ∷ 0x00 ∷ 0x06 ∷ 0x2A ∷ [])
    ∷ method_of 0 (codes "Arr") (0x00 ∷ 0x01 ∷ 0x08 ∷ 0x08 ∷ [])
    (0x02 ∷ 0x8D ∷ 0x02 ∷ 0x00 ∷ 0x00 ∷ 0x01 ∷ 0x8E ∷ 0x69 ∷ 0x2A ∷ [])
    ∷ method_of 0 (codes "Say") (0x00 ∷ 0x00 ∷ 0x01 ∷ [])
    (0x72 ∷ 0x01 ∷ 0x00 ∷ 0x00 ∷ 0x70 ∷ 0x28 ∷ 0x01 ∷ 0x00 ∷ 0x00 ∷ 0x0A ∷ 0x2A ∷ [])
    ∷ method_of 0 (codes "Half") (0x00 ∷ 0x00 ∷ 0x0C ∷ []) (0x22 ∷ 0x00 ∷ 0x00 ∷ 0x00 ∷ 0x00 ∷ 0x2A ∷ [])
    ∷ method_of 0 (codes "Keep") (0x00 ∷ 0x01 ∷ 0x01 ∷ 0x0E ∷ [])
    (0x02 ∷ 0x80 ∷ 0x02 ∷ 0x00 ∷ 0x00 ∷ 0x04 ∷ 0x2A ∷ [])
    ∷ method_of 0 (codes "Put") (0x00 ∷ 0x01 ∷ 0x01 ∷ 0x08 ∷ [])
    (0x02 ∷ 0x80 ∷ 0x01 ∷ 0x00 ∷ 0x00 ∷ 0x04 ∷ 0x2A ∷ [])
    ∷ method_of 0 (codes "Peek") (0x00 ∷ 0x00 ∷ 0x08 ∷ []) (0x7E ∷ 0x01 ∷ 0x00 ∷ 0x00 ∷ 0x04 ∷ 0x2A ∷ [])
    ∷ []

abbrev pub ops : Module
ops = record (module_of (codes "Ops") first_version
    (runtime ∷ reference_of (codes "System.Console") (version_of 8 0 0 0) ∷ [])
    (object ∷ type_ref_of 6 (codes "System") (codes "Int32") ∷ type_ref_of 10 (codes "System") (codes "Console") ∷ [])
    (nowhere
    ∷ type_of (codes "Ops") (codes "M") 5
    (field_of (codes "n") (0x06 ∷ 0x08 ∷ []) ∷ field_of (codes "s") (0x06 ∷ 0x0E ∷ []) ∷ []) ops_methods
    ∷ [])
    (member_of 25 (codes "WriteLine") (0x00 ∷ 0x01 ∷ 0x01 ∷ 0x0E ∷ []) ∷ [])) {
      user_strings = 0x00 ∷ 0x05 ∷ 0x68 ∷ 0x00 ∷ 0x69 ∷ 0x00 ∷ 0x00 ∷ [];
    }

-- rows as a compiler leaves them: what is returned by method 1 (Flags, Sequence, Name), an attribute of the
-- assembly (Parent, Type, Value), the signature of locals, a property of type 2 (Parent, PropertyList; Flags,
-- Name, Type) and its getter, method 1 (Semantics, Method, Association)
abbrev pub rel_rows : List (ℕ × List Cell)
rel_rows =
    (0x08, Number 0 ∷ Number 0 ∷ Text [] ∷ [])
    ∷ (0x0C, Number 46 ∷ Number 11 ∷ Bytes (0x01 ∷ 0x00 ∷ 0x00 ∷ 0x00 ∷ []) ∷ [])
    ∷ (0x11, Bytes (0x07 ∷ 0x01 ∷ 0x08 ∷ []) ∷ [])
    ∷ (0x15, Number 2 ∷ Number 1 ∷ [])
    ∷ (0x17, Number 0 ∷ Text (codes "Answer") ∷ Bytes (0x08 ∷ 0x00 ∷ 0x08 ∷ []) ∷ [])
    ∷ (0x18, Number 2 ∷ Number 1 ∷ Number 3 ∷ [])
    ∷ []

abbrev pub rel_methods : List MethodRow
rel_methods =
    method_of 1 (codes "Answer") (0x00 ∷ 0x00 ∷ 0x08 ∷ []) (0x1F ∷ 0x2A ∷ 0x2A ∷ [])
    ∷ method_of 0 (codes "Half") (0x00 ∷ 0x00 ∷ 0x0D ∷ [])
    (0x23 ∷ 0x00 ∷ 0x00 ∷ 0x00 ∷ 0x00 ∷ 0x00 ∷ 0x00 ∷ 0x00 ∷ 0x00 ∷ 0x2A ∷ [])
    ∷ []

abbrev pub rel : Module
rel = record (module_of (codes "Plugin") (version_of 1 2 0 0) (runtime ∷ [])
    (object ∷ type_ref_of 6 (codes "System.Runtime.CompilerServices") (codes "RuntimeCompatibilityAttribute") ∷ [])
    (nowhere ∷ type_of (codes "Plugin") (codes "Entry") 5 [] rel_methods ∷ [])
    (member_of 17 (codes ".ctor") (0x20 ∷ 0x00 ∷ 0x01 ∷ []) ∷ [])) {
      rows = rel_rows;
      streams = (codes "#Own", 0x01 ∷ 0x02 ∷ 0x03 ∷ []) ∷ [];
    }

-- the module of a name
abbrev pub sample_of : SampleName → Module
sample_of Lib1 = lib first_version (0x17 ∷ 0x2A ∷ [])
sample_of Lib2 = lib (version_of 2 0 0 0) (0x18 ∷ 0x2A ∷ [])
sample_of Lib19 = lib (version_of 1 9 9 9) (0x17 ∷ 0x2A ∷ [])
sample_of Use = use_lib
sample_of Gen = generic
sample_of Deep = deep
sample_of Ops = ops
sample_of Rel = rel
