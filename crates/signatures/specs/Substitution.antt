-- The key of a type in a signature, where each class and each type variable stands for a key (own).
use Rattle.std.specs.Prelude.{◌≡◌, ℕ, ◌+◌, ◌<◌, ◌==◌, nat_le, Bool, true, false, if◌then◌else◌, List, [], ◌∷◌, ◌++◌, map, length, slice_index_or, is_some, Result, Ok, Err, IsTrue}
use Rattle.std.specs.List.{find, flat_map, list_any, list_all}
use Rattle.std.specs.Option.{option_map_or}
use Rattle.signatures.specs.declared.sig.SigPart.{SigPart}
use Rattle.signatures.specs.declared.sig.SigPart.TheVariants as sig
use Rattle.signatures.specs.declared.key.KeyPart.{KeyPart}
use Rattle.signatures.specs.declared.key.KeyPart.TheVariants.{Prim, Class, Vector}
use Rattle.signatures.specs.declared.fault.KeyFault.{KeyFault}
use Rattle.signatures.specs.declared.fault.KeyFault.TheVariants.{Index, Deep, OutOfMemory}
use Rattle.signatures.specs.Types.{are_types}
use Rattle.signatures.specs.Keys.{key_arity, is_deep}

-- the key for which a TypeDefOrRef number stands: the first that is given for it
abbrev pub class_key : List (ℕ × List KeyPart) → ℕ → List KeyPart
class_key classes class = option_map_or (λ row. row.1) (find (λ row. row.0 == class) classes) []

-- the class of a definition with so many arguments
abbrev pub with_args : ℕ → List KeyPart → List KeyPart
with_args args (Class assembly row none ∷ rest) = Class assembly row args ∷ rest
with_args args key = key

-- what a part of a signature stands for
abbrev pub closed_part : List (ℕ × List KeyPart) → List (List KeyPart) → SigPart → List KeyPart
closed_part classes args (sig.Prim prim) = Prim prim ∷ []
closed_part classes args (sig.Class class) = class_key classes class
closed_part classes args (sig.Var number) = slice_index_or args number []
closed_part classes args (sig.Inst class count) = with_args count (class_key classes class)
closed_part classes args sig.Vector = Vector ∷ []

-- the signature with each class and each variable replaced
abbrev pub closed : List (ℕ × List KeyPart) → List (List KeyPart) → List SigPart → List KeyPart
closed classes args parts = flat_map (closed_part classes args) parts

-- a part is a type variable with no argument, where there are so many
abbrev pub lacks : ℕ → SigPart → Bool
lacks count (sig.Prim prim) = false
lacks count (sig.Class class) = false
lacks count (sig.Var number) = nat_le count number
lacks count (sig.Inst class args) = false
lacks count sig.Vector = false

-- a key is a TypeDef row of an assembly, and has no arguments
abbrev pub is_definition : List KeyPart → Bool
is_definition (Class assembly row args ∷ []) = args == 0
is_definition _ = false

-- a key is given for the class that a part names; for that of an instantiation, a definition
abbrev pub has_class : List (ℕ × List KeyPart) → SigPart → Bool
has_class classes (sig.Prim prim) = true
has_class classes (sig.Class class) = is_some (find (λ row. row.0 == class) classes)
has_class classes (sig.Var number) = true
has_class classes (sig.Inst class count) = is_definition (class_key classes class)
has_class classes sig.Vector = true

abbrev pub HasClasses : List (ℕ × List KeyPart) → List SigPart → Type 0
HasClasses classes parts = IsTrue (list_all (has_class classes) parts)

-- the key of a type in a signature, and else why it has none
unfoldable pub key_of :
    List (ℕ × List KeyPart) → List (List KeyPart) → List SigPart → Result (List KeyPart) KeyFault
key_of classes args parts =
    if list_any (lacks (length args)) parts then Err Index
    else (if is_deep (closed classes args parts) then Err Deep else Ok (closed classes args parts))

-- a call refused with this fault, unless memory was wanting
abbrev pub Refuses : KeyFault → Result (List KeyPart) KeyFault → Type 0
Refuses Index key = key ≡ Err Index
Refuses Deep key = key ≡ Err Deep
Refuses OutOfMemory key = Unit {0}

-- what a call answered is the key, or why there is none, unless memory was wanting
abbrev pub GivesKey : Result (List KeyPart) KeyFault → Result (List KeyPart) KeyFault → Type 0
GivesKey (Ok parts) key = key ≡ Ok parts
GivesKey (Err fault) key = Refuses fault key

-- the parts are a type that lacks as many types at its end
abbrev pub StandsFor : ℕ → List KeyPart → Type 0
StandsFor args parts =
    (n : ℕ) (more : List ℕ) → are_types (n + 1) (map key_arity parts ++ more) ≡ are_types (n + args) more

-- these parts would be more than 256 nodes, unless memory was wanting
abbrev pub Passes : KeyFault → List KeyPart → Type 0
Passes Index parts = ⊥
Passes Deep parts = 256 < length parts
Passes OutOfMemory parts = Unit {0}
