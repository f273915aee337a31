-- The rows of the program's tables, as types and methods (own).
use Rattle.std.specs.Prelude.{ℕ, List, [], ◌∷◌, codes}
use Rattle.signatures.specs.declared.sig.Primitive.{Primitive}
use Rattle.platform_lib.specs.declared.names.Name.{Name}
use Rattle.platform_lib.specs.declared.names.Name.TheVariants as names
use Rattle.platform_lib.specs.declared.table.Params.{Params}
use Rattle.platform_lib.specs.declared.table.Params.TheVariants.{Nothing, One, Two}
use Rattle.platform_lib.specs.declared.table.Row.{Row}
use Rattle.platform_lib.specs.Methods.{Method}

abbrev pub letters : Name → List ℕ
letters names.Object = codes "Object"
letters names.String = codes "String"
letters names.Console = codes "Console"
letters names.Exception = codes "Exception"
letters names.SystemException = codes "SystemException"
letters names.ArithmeticException = codes "ArithmeticException"
letters names.OverflowException = codes "OverflowException"
letters names.DivideByZeroException = codes "DivideByZeroException"
letters names.NullReferenceException = codes "NullReferenceException"
letters names.IndexOutOfRangeException = codes "IndexOutOfRangeException"
letters names.InvalidCastException = codes "InvalidCastException"
letters names.ArrayTypeMismatchException = codes "ArrayTypeMismatchException"
letters names.Boolean = codes "Boolean"
letters names.Char = codes "Char"
letters names.SByte = codes "SByte"
letters names.Byte = codes "Byte"
letters names.Int16 = codes "Int16"
letters names.UInt16 = codes "UInt16"
letters names.Int32 = codes "Int32"
letters names.UInt32 = codes "UInt32"
letters names.Int64 = codes "Int64"
letters names.UInt64 = codes "UInt64"
letters names.IntPtr = codes "IntPtr"
letters names.UIntPtr = codes "UIntPtr"
letters names.Ctor = codes ".ctor"
letters names.Concat = codes "Concat"
letters names.GetLength = codes "get_Length"
letters names.GetChars = codes "get_Chars"
letters names.OpEquality = codes "op_Equality"
letters names.WriteLine = codes "WriteLine"

abbrev pub params_of : Params → List Primitive
params_of Nothing = []
params_of (One only) = only ∷ []
params_of (Two first second) = first ∷ second ∷ []

abbrev pub shown : Row → Method
shown row = record {
  type_row = row.0;
  name = letters row.1;
  has_this = row.2;
  params = params_of row.3;
  result = row.4;
}
