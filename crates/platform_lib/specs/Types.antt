-- The types of assembly 0 (own). The classes, their parents and the names of the primitives are those of
-- the .NET class library.
use Rattle.std.specs.Prelude.{ℕ, ◌+◌, ◌-◌, ◌==◌, if◌then◌else◌, Bool, List, [], ◌∷◌, ◌++◌, codes, position}
use Rattle.std.specs.Prelude.{Option, Some, None, option_map, option_and_then}
use Rattle.std.specs.List.{slice_get, find}
use Rattle.std.specs.Str.{bytes_eq}
use Rattle.signatures.specs.declared.sig.Primitive.{Primitive}
use Rattle.signatures.specs.declared.sig.Primitive.TheVariants as prim

-- each type's name and the row of its parent, in the order of the rows, which count from 1
abbrev pub types : List (List ℕ × Option ℕ)
types =
    (codes "Object", None)
    ∷ (codes "String", Some 1)
    ∷ (codes "Console", Some 1)
    ∷ (codes "Exception", Some 1)
    ∷ (codes "SystemException", Some 4)
    ∷ (codes "ArithmeticException", Some 5)
    ∷ (codes "OverflowException", Some 6)
    ∷ (codes "DivideByZeroException", Some 6)
    ∷ (codes "NullReferenceException", Some 5)
    ∷ (codes "IndexOutOfRangeException", Some 5)
    ∷ (codes "InvalidCastException", Some 5)
    ∷ (codes "ArrayTypeMismatchException", Some 5)
    ∷ []

-- the names that are found as primitives
abbrev pub primitives : List (List ℕ × Primitive)
primitives =
    (codes "Boolean", prim.Bool)
    ∷ (codes "Char", prim.Char)
    ∷ (codes "SByte", prim.Int8)
    ∷ (codes "Byte", prim.UInt8)
    ∷ (codes "Int16", prim.Int16)
    ∷ (codes "UInt16", prim.UInt16)
    ∷ (codes "Int32", prim.Int32)
    ∷ (codes "UInt32", prim.UInt32)
    ∷ (codes "Int64", prim.Int64)
    ∷ (codes "UInt64", prim.UInt64)
    ∷ (codes "IntPtr", prim.Native)
    ∷ (codes "UIntPtr", prim.UNative)
    ∷ []

-- all of them are in the namespace System
abbrev pub is_named : List ℕ → List ℕ → Bool
is_named full name = bytes_eq full (codes "System." ++ name)

-- the row of the type of a full name
abbrev pub type_row : List ℕ → Option ℕ
type_row full = option_map (λ place. place + 1) (position (λ row. is_named full row.0) types)

-- the primitive of a full name
abbrev pub prim_named : List ℕ → Option Primitive
prim_named full = option_map (λ row. row.1) (find (λ row. is_named full row.0) primitives)

-- what stands at a place that counts from 1
abbrev pub nth : {X : Type 0} → List X → ℕ → Option X
nth rows n = if n == 0 then None else slice_get rows (n - 1)

-- the row of a type's parent
abbrev pub parent : ℕ → Option ℕ
parent row = option_and_then (λ type. type.1) (nth types row)
