-- The columns of each table (ECMA-335 II.22.2 to II.22.39), and the tables of each coded index
-- (II.24.2.6).
use Rattle.std.specs.Prelude.{ℕ, ◌-◌, ◌/◌, ◌%◌, ◌^◌, nat_le, List, [], ◌∷◌, slice_index_or, slice_get, Option, None, option_map, if◌then◌else◌}
use Rattle.metadata_tables.specs.declared.schema.Column.{Column}
use Rattle.metadata_tables.specs.declared.schema.Column.TheVariants.{U8, U16, U32, Strings, Guid, Blob, Table, List as ListColumn, Coded}
use Rattle.metadata_tables.specs.declared.schema.CodedIndex.{CodedIndex}
use Rattle.metadata_tables.specs.declared.schema.CodedIndex.TheVariants.{TypeDefOrRef, HasConstant, HasCustomAttribute, HasFieldMarshal, HasDeclSecurity, MemberRefParent, HasSemantics, MethodDefOrRef, MemberForwarded, Implementation, CustomAttributeType, ResolutionScope, TypeOrMethodDef}
use Rattle.metadata_tables.specs.Tables.{«module», type_ref, type_def, field, method_def, param, interface_impl, member_ref, decl_security, stand_alone_sig, event, property, module_ref, type_spec, assembly, assembly_ref, file, exported_type, manifest_resource, generic_param, method_spec, generic_param_constraint}

-- the columns of the tables 00 to 2C, from the left; a refused table has none
abbrev pub tables : List (List Column)
tables =
    -- 00 Module: Generation, Name, Mvid, EncId, EncBaseId
    (U16 ∷ Strings ∷ Guid ∷ Guid ∷ Guid ∷ []) ∷
    -- 01 TypeRef: ResolutionScope, Name, Namespace
    (Coded ResolutionScope ∷ Strings ∷ Strings ∷ []) ∷
    -- 02 TypeDef: Flags, Name, Namespace, Extends, FieldList, MethodList
    (U32 ∷ Strings ∷ Strings ∷ Coded TypeDefOrRef ∷ ListColumn field ∷ ListColumn method_def
    ∷ []) ∷
    -- 03 FieldPtr is refused
    [] ∷
    -- 04 Field: Flags, Name, Signature
    (U16 ∷ Strings ∷ Blob ∷ []) ∷
    -- 05 MethodPtr is refused
    [] ∷
    -- 06 MethodDef: RVA, ImplFlags, Flags, Name, Signature, ParamList
    (U32 ∷ U16 ∷ U16 ∷ Strings ∷ Blob ∷ ListColumn param ∷ []) ∷
    -- 07 ParamPtr is refused
    [] ∷
    -- 08 Param: Flags, Sequence, Name
    (U16 ∷ U16 ∷ Strings ∷ []) ∷
    -- 09 InterfaceImpl: Class, Interface
    (Table type_def ∷ Coded TypeDefOrRef ∷ []) ∷
    -- 0A MemberRef: Class, Name, Signature
    (Coded MemberRefParent ∷ Strings ∷ Blob ∷ []) ∷
    -- 0B Constant: Type, padding, Parent, Value
    (U8 ∷ U8 ∷ Coded HasConstant ∷ Blob ∷ []) ∷
    -- 0C CustomAttribute: Parent, Type, Value
    (Coded HasCustomAttribute ∷ Coded CustomAttributeType ∷ Blob ∷ []) ∷
    -- 0D FieldMarshal: Parent, NativeType
    (Coded HasFieldMarshal ∷ Blob ∷ []) ∷
    -- 0E DeclSecurity: Action, Parent, PermissionSet
    (U16 ∷ Coded HasDeclSecurity ∷ Blob ∷ []) ∷
    -- 0F ClassLayout: PackingSize, ClassSize, Parent
    (U16 ∷ U32 ∷ Table type_def ∷ []) ∷
    -- 10 FieldLayout: Offset, Field
    (U32 ∷ Table field ∷ []) ∷
    -- 11 StandAloneSig: Signature
    (Blob ∷ []) ∷
    -- 12 EventMap: Parent, EventList
    (Table type_def ∷ ListColumn event ∷ []) ∷
    -- 13 EventPtr is refused
    [] ∷
    -- 14 Event: EventFlags, Name, EventType
    (U16 ∷ Strings ∷ Coded TypeDefOrRef ∷ []) ∷
    -- 15 PropertyMap: Parent, PropertyList
    (Table type_def ∷ ListColumn property ∷ []) ∷
    -- 16 PropertyPtr is refused
    [] ∷
    -- 17 Property: Flags, Name, Type
    (U16 ∷ Strings ∷ Blob ∷ []) ∷
    -- 18 MethodSemantics: Semantics, Method, Association
    (U16 ∷ Table method_def ∷ Coded HasSemantics ∷ []) ∷
    -- 19 MethodImpl: Class, MethodBody, MethodDeclaration
    (Table type_def ∷ Coded MethodDefOrRef ∷ Coded MethodDefOrRef ∷ []) ∷
    -- 1A ModuleRef: Name
    (Strings ∷ []) ∷
    -- 1B TypeSpec: Signature
    (Blob ∷ []) ∷
    -- 1C ImplMap: MappingFlags, MemberForwarded, ImportName, ImportScope
    (U16 ∷ Coded MemberForwarded ∷ Strings ∷ Table module_ref ∷ []) ∷
    -- 1D FieldRVA: RVA, Field
    (U32 ∷ Table field ∷ []) ∷
    -- 1E EncLog is refused
    [] ∷
    -- 1F EncMap is refused
    [] ∷
    -- 20 Assembly: HashAlgId, four words of the version, Flags, PublicKey, Name, Culture
    (U32 ∷ U16 ∷ U16 ∷ U16 ∷ U16 ∷ U32 ∷ Blob ∷ Strings ∷ Strings ∷ []) ∷
    -- 21 AssemblyProcessor: Processor
    (U32 ∷ []) ∷
    -- 22 AssemblyOS: OSPlatformID, OSMajorVersion, OSMinorVersion
    (U32 ∷ U32 ∷ U32 ∷ []) ∷
    -- 23 AssemblyRef: four words of the version, Flags, PublicKeyOrToken, Name, Culture, HashValue
    (U16 ∷ U16 ∷ U16 ∷ U16 ∷ U32 ∷ Blob ∷ Strings ∷ Strings ∷ Blob ∷ []) ∷
    -- 24 AssemblyRefProcessor: Processor, AssemblyRef
    (U32 ∷ Table assembly_ref ∷ []) ∷
    -- 25 AssemblyRefOS: OSPlatformID, OSMajorVersion, OSMinorVersion, AssemblyRef
    (U32 ∷ U32 ∷ U32 ∷ Table assembly_ref ∷ []) ∷
    -- 26 File: Flags, Name, HashValue
    (U32 ∷ Strings ∷ Blob ∷ []) ∷
    -- 27 ExportedType: Flags, TypeDefId, TypeName, TypeNamespace, Implementation
    (U32 ∷ U32 ∷ Strings ∷ Strings ∷ Coded Implementation ∷ []) ∷
    -- 28 ManifestResource: Offset, Flags, Name, Implementation
    (U32 ∷ U32 ∷ Strings ∷ Coded Implementation ∷ []) ∷
    -- 29 NestedClass: NestedClass, EnclosingClass
    (Table type_def ∷ Table type_def ∷ []) ∷
    -- 2A GenericParam: Number, Flags, Owner, Name
    (U16 ∷ U16 ∷ Coded TypeOrMethodDef ∷ Strings ∷ []) ∷
    -- 2B MethodSpec: Method, Instantiation
    (Coded MethodDefOrRef ∷ Blob ∷ []) ∷
    -- 2C GenericParamConstraint: Owner, Constraint
    (Table generic_param ∷ Coded TypeDefOrRef ∷ []) ∷
    []

-- the columns of a table; a table past 2C is refused
unfoldable pub columns_of : ℕ → List Column
columns_of table = slice_index_or tables table []

-- a column of a table, counted from 0
abbrev pub column_of : ℕ → ℕ → Column
column_of table k = slice_index_or (columns_of table) k U8

-- how many of an index's lowest bits are its tag
abbrev pub tag_bits_of : CodedIndex → ℕ
tag_bits_of TypeDefOrRef = 2
tag_bits_of HasConstant = 2
tag_bits_of HasCustomAttribute = 5
tag_bits_of HasFieldMarshal = 1
tag_bits_of HasDeclSecurity = 2
tag_bits_of MemberRefParent = 3
tag_bits_of HasSemantics = 1
tag_bits_of MethodDefOrRef = 1
tag_bits_of MemberForwarded = 1
tag_bits_of Implementation = 2
tag_bits_of CustomAttributeType = 3
tag_bits_of ResolutionScope = 2
tag_bits_of TypeOrMethodDef = 1

-- the tag of the first table: CustomAttributeType has the tags 2 and 3 alone
abbrev pub first_tag_of : CodedIndex → ℕ
first_tag_of CustomAttributeType = 2
first_tag_of _ = 0

-- the tables of an index, in the order of their tags
abbrev pub tables_of : CodedIndex → List ℕ
tables_of TypeDefOrRef = type_def ∷ type_ref ∷ type_spec ∷ []
tables_of HasConstant = field ∷ param ∷ property ∷ []
tables_of HasCustomAttribute =
    method_def ∷ field ∷ type_ref ∷ type_def ∷ param ∷ interface_impl ∷ member_ref ∷ «module» ∷
    decl_security ∷ property ∷ event ∷ stand_alone_sig ∷ module_ref ∷ type_spec ∷ assembly ∷
    assembly_ref ∷ file ∷ exported_type ∷ manifest_resource ∷ generic_param ∷
    generic_param_constraint ∷ method_spec ∷ []
tables_of HasFieldMarshal = field ∷ param ∷ []
tables_of HasDeclSecurity = type_def ∷ method_def ∷ assembly ∷ []
tables_of MemberRefParent = type_def ∷ type_ref ∷ module_ref ∷ method_def ∷ type_spec ∷ []
tables_of HasSemantics = event ∷ property ∷ []
tables_of MethodDefOrRef = method_def ∷ member_ref ∷ []
tables_of MemberForwarded = field ∷ method_def ∷ []
tables_of Implementation = file ∷ assembly_ref ∷ exported_type ∷ []
tables_of CustomAttributeType = method_def ∷ member_ref ∷ []
tables_of ResolutionScope = «module» ∷ module_ref ∷ assembly_ref ∷ type_ref ∷ []
tables_of TypeOrMethodDef = type_def ∷ method_def ∷ []

-- the table of a tag, where the tag is in use
abbrev pub table_of : CodedIndex → ℕ → Option ℕ
table_of kind tag =
    if nat_le (first_tag_of kind) tag then slice_get (tables_of kind) (tag - first_tag_of kind)
    else None

-- the table and the row that an index names, where its tag is in use
abbrev pub target_of : CodedIndex → ℕ → Option (ℕ × ℕ)
target_of kind index =
    let tags = 2 ^ tag_bits_of kind in
    option_map (λ table. (table, index / tags)) (table_of kind (index % tags))
