-- The methods of assembly 0 (own). Their names and signatures are those of the .NET class library.
use Rattle.std.specs.Prelude.{ℕ, ◌+◌, ◌==◌, ◌&&◌, not, if◌then◌else◌, Bool, true, false, List, [], ◌∷◌, map, codes, position}
use Rattle.std.specs.Prelude.{Option, Some, None, option_map}
use Rattle.std.specs.List.{flat_map, range_with_len}
use Rattle.std.specs.Cmp.Lexicographic.{pointwise}
use Rattle.std.specs.Str.{bytes_eq}
use Rattle.signatures.specs.declared.sig.Primitive.{Primitive}
use Rattle.signatures.specs.declared.sig.Primitive.TheVariants as prim
use Rattle.signatures.specs.declared.sig.SigPart.{SigPart}
use Rattle.signatures.specs.declared.sig.SigPart.TheVariants.{Prim}
use Rattle.signatures.specs.declared.sig.MethodSig.{MethodSig}
use Rattle.signatures.specs.contracts.sig.SigPartPartialEq.TheImpl as part_eq
use Rattle.platform_lib.specs.Types.{nth}

-- a method of a type. It is static exactly where it is not called on an object
pub record Method : Type 0 where
  pub type_row : ℕ
  pub name : List ℕ
  pub has_this : Bool
  pub params : List Primitive
  pub result : Option Primitive

abbrev pub static : ℕ → List ℕ → List Primitive → Option Primitive → Method
static type_row name params result =
    record { type_row = type_row; name = name; has_this = false; params = params; result = result }

abbrev pub instance : ℕ → List ℕ → List Primitive → Option Primitive → Method
instance type_row name params result =
    record { type_row = type_row; name = name; has_this = true; params = params; result = result }

-- an exception is made with a message or without one
abbrev pub constructors : ℕ → List Method
constructors row =
    instance row (codes ".ctor") [] None ∷ instance row (codes ".ctor") (prim.Text ∷ []) None ∷ []

-- the methods in the order of their numbers, which count from 1
abbrev pub methods : List Method
methods =
    instance 1 (codes ".ctor") [] None
    ∷ static 2 (codes "Concat") (prim.Text ∷ prim.Text ∷ []) (Some prim.Text)
    ∷ instance 2 (codes "get_Length") [] (Some prim.Int32)
    ∷ instance 2 (codes "get_Chars") (prim.Int32 ∷ []) (Some prim.Char)
    ∷ static 2 (codes "op_Equality") (prim.Text ∷ prim.Text ∷ []) (Some prim.Bool)
    ∷ static 3 (codes "WriteLine") [] None
    ∷ static 3 (codes "WriteLine") (prim.Text ∷ []) None
    ∷ static 3 (codes "WriteLine") (prim.Bool ∷ []) None
    ∷ static 3 (codes "WriteLine") (prim.Char ∷ []) None
    ∷ static 3 (codes "WriteLine") (prim.Int32 ∷ []) None
    ∷ static 3 (codes "WriteLine") (prim.UInt32 ∷ []) None
    ∷ static 3 (codes "WriteLine") (prim.Int64 ∷ []) None
    ∷ static 3 (codes "WriteLine") (prim.UInt64 ∷ []) None
    ∷ flat_map constructors (range_with_len 4 9)

-- a primitive as a type in a signature
abbrev pub sig_of : Primitive → List SigPart
sig_of prim = Prim prim ∷ []

-- the signature of a method
abbrev pub method_sig : Method → MethodSig
method_sig method = record {
  has_this = method.has_this;
  result = option_map sig_of method.result;
  params = map sig_of method.params;
}

abbrev pub is_prim : Primitive → List SigPart → Bool
is_prim prim sig = pointwise (part_eq.ghosts).eq sig (sig_of prim)

abbrev pub is_result : Option Primitive → Option (List SigPart) → Bool
is_result None None = true
is_result (Some prim) (Some sig) = is_prim prim sig
is_result _ _ = false

abbrev pub are_params : List Primitive → List (List SigPart) → Bool
are_params [] [] = true
are_params (prim ∷ prims) (sig ∷ sigs) = is_prim prim sig && are_params prims sigs
are_params _ _ = false

-- a method has this signature, as it is spelled
abbrev pub has_sig : Method → MethodSig → Bool
has_sig method sig =
    (if method.has_this then sig.has_this else not sig.has_this)
    && (is_result method.result sig.result && are_params method.params sig.params)

-- a method is that of a type, a name and a signature
abbrev pub is_method : ℕ → List ℕ → MethodSig → Method → Bool
is_method type_row name sig method =
    (method.type_row == type_row) && (bytes_eq name method.name && has_sig method sig)

-- the number of the method of a type, a name and a signature
abbrev pub method_number : ℕ → List ℕ → MethodSig → Option ℕ
method_number type_row name sig =
    option_map (λ place. place + 1) (position (is_method type_row name sig) methods)

-- the type, the name and the signature of the method of a number
abbrev pub method : ℕ → Option (ℕ × List ℕ × MethodSig)
method number = option_map (λ m. (m.type_row, m.name, method_sig m)) (nth methods number)
