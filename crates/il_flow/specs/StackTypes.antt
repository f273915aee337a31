-- The type that a value has on the stack (ECMA-335 III.1.1). A number of less than 32 bits is one of
-- 32 bits there.
use Rattle.std.specs.Prelude.{Bool, true, false, is_none, List, ◌∷◌, Option, Some, None, unwrap_or}
use Rattle.signatures.specs.declared.sig.Primitive.{Primitive}
use Rattle.signatures.specs.declared.sig.Primitive.TheVariants as prim
use Rattle.signatures.specs.declared.key.KeyPart.{KeyPart}
use Rattle.signatures.specs.declared.key.KeyPart.TheVariants as part
use Rattle.il_flow.specs.declared.stack.StackType.{StackType}
use Rattle.il_flow.specs.declared.stack.StackType.TheVariants.{Int32, Int64, Native, Null, Ref}

-- the number that a primitive is on the stack; strings and objects are references
abbrev pub number_of : Primitive → Option StackType
number_of prim.Bool = Some Int32
number_of prim.Char = Some Int32
number_of prim.Int8 = Some Int32
number_of prim.UInt8 = Some Int32
number_of prim.Int16 = Some Int32
number_of prim.UInt16 = Some Int32
number_of prim.Int32 = Some Int32
number_of prim.UInt32 = Some Int32
number_of prim.Int64 = Some Int64
number_of prim.UInt64 = Some Int64
number_of prim.Native = Some Native
number_of prim.UNative = Some Native
number_of prim.Text = None
number_of prim.Object = None

-- the number that a value of the type of a key is
abbrev pub number_of_key : List KeyPart → Option StackType
number_of_key (part.Prim prim ∷ parts) = number_of prim
number_of_key _ = None

abbrev pub is_reference : List KeyPart → Bool
is_reference key = is_none (number_of_key key)

-- what a value of the type of a key is on the stack
abbrev pub stack_of : List KeyPart → StackType
stack_of key = unwrap_or (number_of_key key) (Ref key)

-- null, or a reference
abbrev pub is_object : StackType → Bool
is_object Null = true
is_object (Ref key) = true
is_object _ = false
