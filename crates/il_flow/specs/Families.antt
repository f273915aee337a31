-- What stands above a reference type (own; after ECMA-335 II.10.1).
use Rattle.std.specs.Prelude.{◌≡◌, ◌⊎◌, ℕ, zero, suc, ◌-◌, ◌<◌, ◌^◌, if◌then◌else◌, List, [], ◌∷◌, length, Contains}
use Rattle.std.specs.Prelude.{Option, Some, None, unwrap_or, slice_get, ◌==◌}
use Rattle.signatures.specs.declared.sig.Primitive.TheVariants as prim
use Rattle.signatures.specs.declared.key.KeyPart.{KeyPart}
use Rattle.signatures.specs.declared.key.KeyPart.TheVariants.{Prim, Vector}
use Rattle.signatures.specs.SameKeys.{same_key}
use Rattle.signatures.specs.Keys.{element_of}

-- what is told of each key: its parent and its interfaces
pub record Family : Type 0 where
  pub parent : List KeyPart → Option (List KeyPart)
  pub interfaces : List KeyPart → List (List KeyPart)

-- the key of System.Object
abbrev pub object : List KeyPart
object = Prim prim.Object ∷ []

-- an array has no parent and no interfaces but System.Object above it, whatever is told of it
abbrev pub parent_of : Family → List KeyPart → Option (List KeyPart)
parent_of family (Vector ∷ element) = None
parent_of family key = family.parent key

abbrev pub interfaces_of : Family → List KeyPart → List (List KeyPart)
interfaces_of family (Vector ∷ element) = []
interfaces_of family key = family.interfaces key

-- the interface of a type with a number: they are counted from 1, so none has the number 0
abbrev pub interface_of : Family → List KeyPart → ℕ → Option (List KeyPart)
interface_of family key n = if n == 0 then None else slice_get (family.interfaces key) (n - 1)

-- the class right above a reference type. System.Object stands above every type without a parent:
-- arrays, interfaces, and classes that extend nothing. Nothing stands above it
abbrev pub above : Family → List KeyPart → Option (List KeyPart)
above family key =
    if same_key key object then None else Some (unwrap_or (parent_of family key) object)

-- so many steps from a type to the class right above it lead from low to high
abbrev pub Climbs : Family → ℕ → List KeyPart → List KeyPart → Type 0
Climbs family zero low high = low ≡ high
Climbs family (suc n) low high =
    (next : List KeyPart) × (above family low ≡ Some next) × Climbs family n next high

-- high is low, or a class above it
abbrev pub IsOnChain : Family → List KeyPart → List KeyPart → Type 0
IsOnChain family low high = (n : ℕ) × Climbs family n low high

-- a type has another as its parent or among its interfaces
abbrev pub Names : Family → List KeyPart → List KeyPart → Type 0
Names family low high = (parent_of family low ≡ Some high) ⊎ Contains (interfaces_of family low) high

-- so many such steps lead from low to high
abbrev pub Leads : Family → ℕ → List KeyPart → List KeyPart → Type 0
Leads family zero low high = low ≡ high
Leads family (suc n) low high =
    (next : List KeyPart) × Names family low next × Leads family n next high

abbrev pub IsLed : Family → List KeyPart → List KeyPart → Type 0
IsLed family low high = (n : ℕ) × Leads family n low high

-- no chain of parents and interfaces is longer than 64, the type that it begins with left aside; no
-- parent is an array; and each interface has a number of 32 bits, as has the end of them
pub record IsFamily (family : Family) : Type 0 where
  pub short : (low high : List KeyPart) → Leads family 65 low high → ⊥
  pub no_array : (key parent : List KeyPart) → family.parent key ≡ Some parent →
      element_of parent ≡ None
  pub few : (key : List KeyPart) → length (family.interfaces key) < 2 ^ 32 - 1
