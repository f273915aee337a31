-- The numbers of the tables, and the columns that are read by name, counted from 0 within their table
-- (ECMA-335 II.22).
use Rattle.std.specs.Prelude.{ℕ}

-- how many numbers of tables there are: those of the tables that are known are below it
abbrev pub table_count : ℕ
table_count = 45

abbrev pub «module» : ℕ
«module» = 0x00

abbrev pub type_ref : ℕ
type_ref = 0x01

abbrev pub type_def : ℕ
type_def = 0x02

abbrev pub field : ℕ
field = 0x04

abbrev pub method_def : ℕ
method_def = 0x06

abbrev pub param : ℕ
param = 0x08

abbrev pub interface_impl : ℕ
interface_impl = 0x09

abbrev pub member_ref : ℕ
member_ref = 0x0A

abbrev pub constant : ℕ
constant = 0x0B

abbrev pub custom_attribute : ℕ
custom_attribute = 0x0C

abbrev pub field_marshal : ℕ
field_marshal = 0x0D

abbrev pub decl_security : ℕ
decl_security = 0x0E

abbrev pub class_layout : ℕ
class_layout = 0x0F

abbrev pub field_layout : ℕ
field_layout = 0x10

abbrev pub stand_alone_sig : ℕ
stand_alone_sig = 0x11

abbrev pub event_map : ℕ
event_map = 0x12

abbrev pub event : ℕ
event = 0x14

abbrev pub property_map : ℕ
property_map = 0x15

abbrev pub property : ℕ
property = 0x17

abbrev pub method_semantics : ℕ
method_semantics = 0x18

abbrev pub method_impl : ℕ
method_impl = 0x19

abbrev pub module_ref : ℕ
module_ref = 0x1A

abbrev pub type_spec : ℕ
type_spec = 0x1B

abbrev pub impl_map : ℕ
impl_map = 0x1C

abbrev pub field_rva : ℕ
field_rva = 0x1D

abbrev pub assembly : ℕ
assembly = 0x20

abbrev pub assembly_processor : ℕ
assembly_processor = 0x21

abbrev pub assembly_os : ℕ
assembly_os = 0x22

abbrev pub assembly_ref : ℕ
assembly_ref = 0x23

abbrev pub assembly_ref_processor : ℕ
assembly_ref_processor = 0x24

abbrev pub assembly_ref_os : ℕ
assembly_ref_os = 0x25

abbrev pub file : ℕ
file = 0x26

abbrev pub exported_type : ℕ
exported_type = 0x27

abbrev pub manifest_resource : ℕ
manifest_resource = 0x28

abbrev pub nested_class : ℕ
nested_class = 0x29

abbrev pub generic_param : ℕ
generic_param = 0x2A

abbrev pub method_spec : ℕ
method_spec = 0x2B

abbrev pub generic_param_constraint : ℕ
generic_param_constraint = 0x2C

abbrev pub module_name : ℕ
module_name = 1

abbrev pub type_ref_resolution_scope : ℕ
type_ref_resolution_scope = 0

abbrev pub type_ref_name : ℕ
type_ref_name = 1

abbrev pub type_ref_namespace : ℕ
type_ref_namespace = 2

abbrev pub type_def_flags : ℕ
type_def_flags = 0

abbrev pub type_def_name : ℕ
type_def_name = 1

abbrev pub type_def_namespace : ℕ
type_def_namespace = 2

abbrev pub type_def_extends : ℕ
type_def_extends = 3

abbrev pub type_def_field_list : ℕ
type_def_field_list = 4

abbrev pub type_def_method_list : ℕ
type_def_method_list = 5

abbrev pub field_flags : ℕ
field_flags = 0

abbrev pub field_name : ℕ
field_name = 1

abbrev pub field_signature : ℕ
field_signature = 2

abbrev pub method_def_rva : ℕ
method_def_rva = 0

abbrev pub method_def_impl_flags : ℕ
method_def_impl_flags = 1

abbrev pub method_def_flags : ℕ
method_def_flags = 2

abbrev pub method_def_name : ℕ
method_def_name = 3

abbrev pub method_def_signature : ℕ
method_def_signature = 4

abbrev pub method_def_param_list : ℕ
method_def_param_list = 5

abbrev pub interface_impl_class : ℕ
interface_impl_class = 0

abbrev pub interface_impl_interface : ℕ
interface_impl_interface = 1

abbrev pub member_ref_class : ℕ
member_ref_class = 0

abbrev pub member_ref_name : ℕ
member_ref_name = 1

abbrev pub member_ref_signature : ℕ
member_ref_signature = 2

abbrev pub stand_alone_sig_signature : ℕ
stand_alone_sig_signature = 0

abbrev pub method_impl_class : ℕ
method_impl_class = 0

abbrev pub method_impl_body : ℕ
method_impl_body = 1

abbrev pub method_impl_declaration : ℕ
method_impl_declaration = 2

abbrev pub type_spec_signature : ℕ
type_spec_signature = 0

abbrev pub assembly_major : ℕ
assembly_major = 1

abbrev pub assembly_minor : ℕ
assembly_minor = 2

abbrev pub assembly_build : ℕ
assembly_build = 3

abbrev pub assembly_revision : ℕ
assembly_revision = 4

abbrev pub assembly_name : ℕ
assembly_name = 7

abbrev pub assembly_ref_major : ℕ
assembly_ref_major = 0

abbrev pub assembly_ref_minor : ℕ
assembly_ref_minor = 1

abbrev pub assembly_ref_build : ℕ
assembly_ref_build = 2

abbrev pub assembly_ref_revision : ℕ
assembly_ref_revision = 3

abbrev pub assembly_ref_name : ℕ
assembly_ref_name = 6

abbrev pub nested_class_nested : ℕ
nested_class_nested = 0

abbrev pub nested_class_enclosing : ℕ
nested_class_enclosing = 1

abbrev pub generic_param_number : ℕ
generic_param_number = 0

abbrev pub generic_param_flags : ℕ
generic_param_flags = 1

abbrev pub generic_param_owner : ℕ
generic_param_owner = 2
