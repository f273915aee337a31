-- Which values may go into a place (own; after ECMA-335 III.1.8.1.2.3).
use Rattle.std.specs.Prelude.{◌≡◌, ◌⊎◌, ◌↔◌, IsTrue, List, ◌∷◌, Contains}
use Rattle.signatures.specs.declared.key.KeyPart.{KeyPart}
use Rattle.signatures.specs.declared.key.KeyPart.TheVariants.{Vector}
use Rattle.il_flow.specs.declared.stack.StackType.{StackType}
use Rattle.il_flow.specs.declared.stack.StackType.TheVariants.{Int32, Int64, Native, Null, Ref}
use Rattle.il_flow.specs.StackTypes.{is_reference}
use Rattle.il_flow.specs.Families.{Family, object, IsLed}

-- the type, a class or an interface above it, or System.Object
abbrev pub IsKindOf : Family → List KeyPart → List KeyPart → Type 0
IsKindOf family value place = (place ≡ object) ⊎ IsLed family value place

-- such a type, or arrays of references of which the elements suit
abbrev pub Suits : Family → List KeyPart → List KeyPart → Type 0
Suits family (Vector ∷ value) (Vector ∷ place) =
    IsKindOf family (Vector ∷ value) (Vector ∷ place)
    ⊎ (IsTrue (is_reference value) × IsTrue (is_reference place) × Suits family value place)
Suits family value place = IsKindOf family value place

-- a value of one type may go into a place of another
abbrev pub IsAssignable : Family → StackType → StackType → Type 0
IsAssignable family Int32 Int32 = Unit {0}
IsAssignable family Int32 Native = Unit {0}
IsAssignable family Int64 Int64 = Unit {0}
IsAssignable family Native Native = Unit {0}
IsAssignable family Null (Ref place) = Unit {0}
IsAssignable family (Ref value) (Ref place) = Suits family value place
IsAssignable family _ _ = ⊥

-- the keys are just those of which something holds
abbrev pub AreJust : List (List KeyPart) → (List KeyPart → Type 0) → Type 0
AreJust keys Holds = (key : List KeyPart) → Contains keys key ↔ Holds key
