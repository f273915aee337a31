-- Element types (ECMA-335 II.23.1.16), and what the profile leaves out of them (own).
use Rattle.std.specs.Prelude.{ℕ, ◌==◌, List, [], ◌∷◌, Option, option_map}
use Rattle.std.specs.List.{find}
use Rattle.signatures.specs.declared.sig.Primitive.TheVariants.{Bool, Char, Int8, UInt8, Int16, UInt16, Int32, UInt32, Int64, UInt64, Native, UNative, Text, Object}
use Rattle.signatures.specs.declared.feature.Feature.TheVariants.{Float, ValueType, Pointer, ArrayShape, GenericMethod}
use Rattle.signatures.specs.declared.element.Element.{Element}
use Rattle.signatures.specs.declared.element.Element.TheVariants.{Prim, Class, Var, Inst, Vector, Feature}

-- VOID
abbrev pub void_byte : ℕ
void_byte = 0x01

-- VALUETYPE
abbrev pub value_type_byte : ℕ
value_type_byte = 0x11

-- CLASS
abbrev pub class_byte : ℕ
class_byte = 0x12

-- CMOD_REQD and CMOD_OPT, which begin custom modifiers
abbrev pub cmod_reqd : ℕ
cmod_reqd = 0x1F

abbrev pub cmod_opt : ℕ
cmod_opt = 0x20

-- the bytes that may begin a type, each with what it begins; that BYREF, TYPEDBYREF and PINNED are told as
-- left out wherever a type may stand is own
abbrev pub elements : List (ℕ × Element)
elements =
    -- truth values, characters and numbers
    (0x02, Prim Bool) ∷ (0x03, Prim Char) ∷
    (0x04, Prim Int8) ∷ (0x05, Prim UInt8) ∷ (0x06, Prim Int16) ∷ (0x07, Prim UInt16) ∷
    (0x08, Prim Int32) ∷ (0x09, Prim UInt32) ∷ (0x0A, Prim Int64) ∷ (0x0B, Prim UInt64) ∷
    (0x0C, Feature Float) ∷ (0x0D, Feature Float) ∷
    -- string, pointer, by reference, value type, class, type variable
    (0x0E, Prim Text) ∷ (0x0F, Feature Pointer) ∷ (0x10, Feature Pointer) ∷
    (value_type_byte, Feature ValueType) ∷ (class_byte, Class) ∷ (0x13, Var) ∷
    -- array with a shape, generic instance, typed reference
    (0x14, Feature ArrayShape) ∷ (0x15, Inst) ∷ (0x16, Feature Pointer) ∷
    -- native int and its unsigned form, function pointer, object
    (0x18, Prim Native) ∷ (0x19, Prim UNative) ∷ (0x1B, Feature Pointer) ∷ (0x1C, Prim Object) ∷
    -- vector, type variable of a method, pinned
    (0x1D, Vector) ∷ (0x1E, Feature GenericMethod) ∷ (0x45, Feature Pointer) ∷
    []

-- what a byte begins where a type is due
unfoldable pub element_of : ℕ → Option Element
element_of byte = option_map (λ row. row.1) (find (λ row. row.0 == byte) elements)
