-- What an instruction takes off the stack and what it gives (own; after ECMA-335 III.1.5, III.3, III.4).
-- A stack is a list, the top at its end.
use Rattle.std.specs.Prelude.{◌≡◌, ◌⊎◌, ℕ, ◌-◌, ◌+◌, Bool, true, false, ◌&&◌, if◌then◌else◌, IsTrue, List, [], ◌∷◌, ◌++◌, map, length, take, drop, slice_index_or}
use Rattle.std.specs.Prelude.{Option, Some, None, unwrap_or}
use Rattle.signatures.specs.declared.sig.Primitive.{Primitive}
use Rattle.signatures.specs.declared.sig.Primitive.TheVariants as prim
use Rattle.signatures.specs.declared.key.KeyPart.{KeyPart}
use Rattle.signatures.specs.declared.key.KeyPart.TheVariants as part
use Rattle.il_flow.specs.declared.stack.StackType.{StackType}
use Rattle.il_flow.specs.declared.stack.StackType.TheVariants.{Int32, Int64, Native, Null, Ref}
use Rattle.il_flow.specs.StackTypes.{is_reference, is_object}
use Rattle.il_flow.specs.Families.{Family, object}
use Rattle.il_flow.specs.Merging.{Held}
use Rattle.il_flow.specs.Assigning.{Suits, IsAssignable}
use Rattle.il_verifier.specs.declared.kind.Width.{Width}
use Rattle.il_verifier.specs.declared.kind.Width.TheVariants as width
use Rattle.il_verifier.specs.declared.effect.Elements.{Elements}
use Rattle.il_verifier.specs.declared.effect.Elements.TheVariants.{Any, Numbers, References, ReadAs, WrittenAs}
use Rattle.il_verifier.specs.declared.effect.Want.{Want}
use Rattle.il_verifier.specs.declared.effect.Want.TheVariants as want
use Rattle.il_verifier.specs.declared.effect.Operands.{Operands}
use Rattle.il_verifier.specs.declared.effect.Operands.TheVariants.{Each, Agreeing, Returned}
use Rattle.il_verifier.specs.declared.effect.Gift.{Gift}
use Rattle.il_verifier.specs.declared.effect.Gift.TheVariants as gift
use Rattle.il_verifier.specs.declared.effect.Effect.{Effect}

-- the type of a sum of two numbers that go together
abbrev pub agreed : StackType → StackType → Option StackType
agreed Int32 Int32 = Some Int32
agreed Int64 Int64 = Some Int64
agreed Native Native = Some Native
agreed Int32 Native = Some Native
agreed Native Int32 = Some Native
agreed _ _ = None

abbrev pub is_number : StackType → Bool
is_number Int32 = true
is_number Int64 = true
is_number Native = true
is_number _ = false

abbrev pub is_size : StackType → Bool
is_size Int32 = true
is_size Native = true
is_size _ = false

abbrev pub is_int32 : StackType → Bool
is_int32 Int32 = true
is_int32 _ = false

-- how wide a number is in an array
abbrev pub width_of : Primitive → Option Width
width_of prim.Bool = Some width.One
width_of prim.Int8 = Some width.One
width_of prim.UInt8 = Some width.One
width_of prim.Char = Some width.Two
width_of prim.Int16 = Some width.Two
width_of prim.UInt16 = Some width.Two
width_of prim.Int32 = Some width.Four
width_of prim.UInt32 = Some width.Four
width_of prim.Int64 = Some width.Eight
width_of prim.UInt64 = Some width.Eight
width_of prim.Native = Some width.Native
width_of prim.UNative = Some width.Native
width_of prim.Text = None
width_of prim.Object = None

abbrev pub width_of_key : List KeyPart → Option Width
width_of_key (part.Prim prim ∷ parts) = width_of prim
width_of_key _ = None

-- a type is the other, or both are references of which the one suits the other
abbrev pub IsOrSuits : Family → List KeyPart → List KeyPart → Type 0
IsOrSuits family value place =
    (value ≡ place)
    ⊎ (IsTrue (is_reference value && is_reference place) × Suits family value place)

abbrev pub AreElements : Family → Elements → List KeyPart → Type 0
AreElements family Any element = Unit {0}
AreElements family (Numbers width) element = width_of_key element ≡ Some width
AreElements family References element = IsTrue (is_reference element)
AreElements family (ReadAs key) element = IsOrSuits family element key
AreElements family (WrittenAs key) element = IsOrSuits family key element

abbrev pub IsArrayOf : Family → Elements → StackType → Type 0
IsArrayOf family elements Null = Unit {0}
IsArrayOf family elements (Ref (part.Vector ∷ element)) = AreElements family elements element
IsArrayOf family elements _ = ⊥

-- an operand is of the kind that is wanted. A place is another matter: see HasPlace
abbrev pub IsWanted : Family → Want → StackType → Type 0
IsWanted family want.Anything type = Unit {0}
IsWanted family (want.Into place) type = Unit {0}
IsWanted family want.Numeric type = IsTrue (is_number type)
IsWanted family want.Size type = IsTrue (is_size type)
IsWanted family want.Int32 type = IsTrue (is_int32 type)
IsWanted family want.Reference type = IsTrue (is_object type)
IsWanted family (want.ArrayOf elements) type = IsArrayOf family elements type

-- a value goes into its place
abbrev pub HasPlace : Family → Want → StackType → Type 0
HasPlace family (want.Into place) type = IsAssignable family type place
HasPlace family _ type = Unit {0}

-- how many operands there are
abbrev pub takes : Operands → ℕ
takes (Each wants) = length wants
takes (Agreeing references) = 2
takes (Returned None) = 0
takes (Returned (Some type)) = 1

abbrev pub is_return : Operands → Bool
is_return (Returned type) = true
is_return _ = false

-- the operand at a place
abbrev pub operand : List Held → ℕ → Held
operand operands n = slice_index_or operands n None

-- what two operands make: the number on which they agree, or one of 32 bits; nothing where one has no type
abbrev pub sum_of : Held → Held → Held
sum_of (Some a) (Some b) = Some (unwrap_or (agreed a b) Int32)
sum_of _ _ = None

-- what an array of references gives: null of null, and System.Object of what is no such array
abbrev pub element_of : Held → StackType
element_of (Some Null) = Null
element_of (Some (Ref (part.Vector ∷ element))) = if is_reference element then Ref element else Ref object
element_of _ = Ref object

-- the lowest operand, where it is a number and a second one, if there is one, a count of bits; else a number
-- of 32 bits, and nothing where one has no type
abbrev pub same_of : List Held → Held
same_of (Some a ∷ []) = Some (if is_number a then a else Int32)
same_of (Some a ∷ Some b ∷ []) = Some (if is_number a && is_size b then a else Int32)
same_of _ = None

-- the type of a gift
abbrev pub given : List Held → Gift → Held
given operands (gift.Is type) = Some type
given operands gift.Again = operand operands 0
given operands gift.Sum = sum_of (operand operands 0) (operand operands 1)
given operands gift.Same = same_of operands
given operands gift.Element = Some (element_of (operand operands 0))

-- the operands on a stack, and what lies below them
abbrev pub operands_on : Effect → List Held → List Held
operands_on effect stack = drop (length stack - takes effect.operands) stack

abbrev pub below_operands : Effect → List Held → List Held
below_operands effect stack = take (length stack - takes effect.operands) stack

-- the stack after the instruction
abbrev pub stack_after : Effect → List Held → List Held
stack_after effect stack =
    below_operands effect stack ++ map (given (operands_on effect stack)) effect.gives

-- the depth after it; that of a return is never below 0
abbrev pub depth_after : Effect → ℕ → ℕ
depth_after effect depth = depth - takes effect.operands + length effect.gives
