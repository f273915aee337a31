-- Instructions by what they do to types on the stack (ECMA-335 III.3, III.4; which of them have a kind is own).
use Rattle.std.specs.Prelude.{ℕ, ◌&&◌, Bool, nat_le, List, [], ◌∷◌, Option}
use Rattle.std.specs.List.{find}
use Rattle.il_verifier.specs.declared.kind.Number.TheVariants as number
use Rattle.il_verifier.specs.declared.kind.Width.TheVariants as width
use Rattle.il_verifier.specs.declared.kind.Simple.TheVariants.{Idle, Null, Constant, Text, Duplicate, Discard}
use Rattle.il_verifier.specs.declared.kind.Computing.TheVariants.{Arithmetic, Shift, Negation, Conversion, Order, Sameness}
use Rattle.il_verifier.specs.declared.kind.Flow.TheVariants.{Jump, Test, Comparison, SameComparison, Choice, Return, Throw}
use Rattle.il_verifier.specs.declared.kind.Place.TheVariants.{Argument, ArgumentStore, Local, LocalStore}
use Rattle.il_verifier.specs.declared.kind.Naming.TheVariants.{Call, VirtualCall, Creation, Cast, Field, FieldStore, Static, StaticStore, Array, Element, ElementStore}
use Rattle.il_verifier.specs.declared.kind.Vector.TheVariants.{Length, NumberElement, NumberStore, ReferenceElement, ReferenceStore}
use Rattle.il_verifier.specs.declared.kind.Kind.{Kind}
use Rattle.il_verifier.specs.declared.kind.Kind.TheVariants.{OfValue, OfNumbers, OfFlow, OfPlace, OfMember, OfArray}

-- the first and the last opcode of a run of instructions of one kind; FE and a second byte n are the
-- opcode FE00 + n
abbrev pub kinds : List (ℕ × ℕ × Kind)
kinds =
    -- nop
    (0x00, 0x00, OfValue Idle) ∷
    -- ldarg.0 to ldarg.3
    (0x02, 0x05, OfPlace Argument) ∷
    -- ldloc.0 to ldloc.3
    (0x06, 0x09, OfPlace Local) ∷
    -- stloc.0 to stloc.3
    (0x0A, 0x0D, OfPlace LocalStore) ∷
    -- ldarg.s
    (0x0E, 0x0E, OfPlace Argument) ∷
    -- starg.s
    (0x10, 0x10, OfPlace ArgumentStore) ∷
    -- ldloc.s
    (0x11, 0x11, OfPlace Local) ∷
    -- stloc.s
    (0x13, 0x13, OfPlace LocalStore) ∷
    -- ldnull
    (0x14, 0x14, OfValue Null) ∷
    -- ldc.i4 in all its forms
    (0x15, 0x20, OfValue (Constant number.Int32)) ∷
    -- ldc.i8
    (0x21, 0x21, OfValue (Constant number.Int64)) ∷
    -- dup
    (0x25, 0x25, OfValue Duplicate) ∷
    -- pop
    (0x26, 0x26, OfValue Discard) ∷
    -- call
    (0x28, 0x28, OfMember Call) ∷
    -- ret
    (0x2A, 0x2A, OfFlow Return) ∷
    -- br.s
    (0x2B, 0x2B, OfFlow Jump) ∷
    -- brfalse.s, brtrue.s
    (0x2C, 0x2D, OfFlow Test) ∷
    -- beq.s
    (0x2E, 0x2E, OfFlow SameComparison) ∷
    -- bge.s, bgt.s, ble.s, blt.s
    (0x2F, 0x32, OfFlow Comparison) ∷
    -- bne.un.s
    (0x33, 0x33, OfFlow SameComparison) ∷
    -- bge.un.s, bgt.un.s, ble.un.s, blt.un.s
    (0x34, 0x37, OfFlow Comparison) ∷
    -- br
    (0x38, 0x38, OfFlow Jump) ∷
    -- brfalse, brtrue
    (0x39, 0x3A, OfFlow Test) ∷
    -- beq
    (0x3B, 0x3B, OfFlow SameComparison) ∷
    -- bge, bgt, ble, blt
    (0x3C, 0x3F, OfFlow Comparison) ∷
    -- bne.un
    (0x40, 0x40, OfFlow SameComparison) ∷
    -- bge.un, bgt.un, ble.un, blt.un
    (0x41, 0x44, OfFlow Comparison) ∷
    -- switch
    (0x45, 0x45, OfFlow Choice) ∷
    -- add, sub, mul, div, div.un, rem, rem.un, and, or, xor
    (0x58, 0x61, OfNumbers Arithmetic) ∷
    -- shl, shr, shr.un
    (0x62, 0x64, OfNumbers Shift) ∷
    -- neg, not
    (0x65, 0x66, OfNumbers Negation) ∷
    -- conv.i1, conv.i2, conv.i4
    (0x67, 0x69, OfNumbers (Conversion number.Int32)) ∷
    -- conv.i8
    (0x6A, 0x6A, OfNumbers (Conversion number.Int64)) ∷
    -- conv.u4
    (0x6D, 0x6D, OfNumbers (Conversion number.Int32)) ∷
    -- conv.u8
    (0x6E, 0x6E, OfNumbers (Conversion number.Int64)) ∷
    -- callvirt
    (0x6F, 0x6F, OfMember VirtualCall) ∷
    -- ldstr
    (0x72, 0x72, OfValue Text) ∷
    -- newobj
    (0x73, 0x73, OfMember Creation) ∷
    -- castclass, isinst
    (0x74, 0x75, OfMember Cast) ∷
    -- throw
    (0x7A, 0x7A, OfFlow Throw) ∷
    -- ldfld
    (0x7B, 0x7B, OfMember Field) ∷
    -- stfld
    (0x7D, 0x7D, OfMember FieldStore) ∷
    -- ldsfld
    (0x7E, 0x7E, OfMember Static) ∷
    -- stsfld
    (0x80, 0x80, OfMember StaticStore) ∷
    -- conv.ovf.i1.un, conv.ovf.i2.un, conv.ovf.i4.un
    (0x82, 0x84, OfNumbers (Conversion number.Int32)) ∷
    -- conv.ovf.i8.un
    (0x85, 0x85, OfNumbers (Conversion number.Int64)) ∷
    -- conv.ovf.u1.un, conv.ovf.u2.un, conv.ovf.u4.un
    (0x86, 0x88, OfNumbers (Conversion number.Int32)) ∷
    -- conv.ovf.u8.un
    (0x89, 0x89, OfNumbers (Conversion number.Int64)) ∷
    -- conv.ovf.i.un, conv.ovf.u.un
    (0x8A, 0x8B, OfNumbers (Conversion number.Native)) ∷
    -- newarr
    (0x8D, 0x8D, OfMember Array) ∷
    -- ldlen
    (0x8E, 0x8E, OfArray Length) ∷
    -- ldelem.i1, ldelem.u1
    (0x90, 0x91, OfArray (NumberElement width.One)) ∷
    -- ldelem.i2, ldelem.u2
    (0x92, 0x93, OfArray (NumberElement width.Two)) ∷
    -- ldelem.i4, ldelem.u4
    (0x94, 0x95, OfArray (NumberElement width.Four)) ∷
    -- ldelem.i8
    (0x96, 0x96, OfArray (NumberElement width.Eight)) ∷
    -- ldelem.i
    (0x97, 0x97, OfArray (NumberElement width.Native)) ∷
    -- ldelem.ref
    (0x9A, 0x9A, OfArray ReferenceElement) ∷
    -- stelem.i
    (0x9B, 0x9B, OfArray (NumberStore width.Native)) ∷
    -- stelem.i1
    (0x9C, 0x9C, OfArray (NumberStore width.One)) ∷
    -- stelem.i2
    (0x9D, 0x9D, OfArray (NumberStore width.Two)) ∷
    -- stelem.i4
    (0x9E, 0x9E, OfArray (NumberStore width.Four)) ∷
    -- stelem.i8
    (0x9F, 0x9F, OfArray (NumberStore width.Eight)) ∷
    -- stelem.ref
    (0xA2, 0xA2, OfArray ReferenceStore) ∷
    -- ldelem
    (0xA3, 0xA3, OfMember Element) ∷
    -- stelem
    (0xA4, 0xA4, OfMember ElementStore) ∷
    -- conv.ovf.i1, conv.ovf.u1, conv.ovf.i2, conv.ovf.u2, conv.ovf.i4, conv.ovf.u4
    (0xB3, 0xB8, OfNumbers (Conversion number.Int32)) ∷
    -- conv.ovf.i8, conv.ovf.u8
    (0xB9, 0xBA, OfNumbers (Conversion number.Int64)) ∷
    -- conv.u2, conv.u1
    (0xD1, 0xD2, OfNumbers (Conversion number.Int32)) ∷
    -- conv.i, conv.ovf.i, conv.ovf.u
    (0xD3, 0xD5, OfNumbers (Conversion number.Native)) ∷
    -- add.ovf, add.ovf.un, mul.ovf, mul.ovf.un, sub.ovf, sub.ovf.un
    (0xD6, 0xDB, OfNumbers Arithmetic) ∷
    -- conv.u
    (0xE0, 0xE0, OfNumbers (Conversion number.Native)) ∷
    -- ceq
    (0xFE01, 0xFE01, OfNumbers Sameness) ∷
    -- cgt
    (0xFE02, 0xFE02, OfNumbers Order) ∷
    -- cgt.un
    (0xFE03, 0xFE03, OfNumbers Sameness) ∷
    -- clt, clt.un
    (0xFE04, 0xFE05, OfNumbers Order) ∷
    -- ldarg
    (0xFE09, 0xFE09, OfPlace Argument) ∷
    -- starg
    (0xFE0B, 0xFE0B, OfPlace ArgumentStore) ∷
    -- ldloc
    (0xFE0C, 0xFE0C, OfPlace Local) ∷
    -- stloc
    (0xFE0E, 0xFE0E, OfPlace LocalStore) ∷
    []

-- a run has an opcode
abbrev pub is_in : ℕ → ℕ × ℕ × Kind → Bool
is_in opcode run = nat_le run.0 opcode && nat_le opcode run.1

-- the run that has an opcode, with its kind; an opcode of no kind is in none
unfoldable pub run_of : ℕ → Option (ℕ × ℕ × Kind)
run_of opcode = find (is_in opcode) kinds
