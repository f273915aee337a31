-- Laws over what blobs read as (own).
use Rattle.std.specs.Prelude.{◌≡◌, ◌↔◌, ℕ, ◌%◌, ◌^◌, ◌<◌, ◌⊎◌, List, [], ◌∷◌, ◌++◌, length, slice_index, Some, Result, Ok, Err, IfSome}
use Rattle.std.specs.List.{AllByRecursion}
use Rattle.signatures.specs.declared.feature.Feature.{Feature}
use Rattle.signatures.specs.declared.feature.Feature.TheVariants.{GenericMethod, Varargs}
use Rattle.signatures.specs.declared.fault.Stop.{Stop}
use Rattle.signatures.specs.declared.fault.Stop.TheVariants as stop
use Rattle.signatures.specs.declared.sig.SigPart.{SigPart}
use Rattle.signatures.specs.declared.sig.SigPart.TheVariants.{Prim, Class, Var, Inst, Vector}
use Rattle.signatures.specs.declared.sig.MethodSig.{MethodSig}
use Rattle.signatures.specs.declared.element.Element.TheVariants as element
use Rattle.signatures.specs.Elements.{element_of}
use Rattle.signatures.specs.Kinds.{generic_head, generic_this_head, vararg_head, vararg_this_head}
use Rattle.signatures.specs.Grammar.{no_table}

abbrev pub AreBytes : List ℕ → Type 0
AreBytes bytes = (k : ℕ) → slice_index bytes k < 0x100

-- a blob reads as a signature exactly where it spells it
abbrev pub ReadsAsSpelled : {A : Type 0} → (A → List ℕ → Type 0) → (List ℕ → Result A Stop) → Type 0
ReadsAsSpelled {A} Spelled reading =
    (blob : List ℕ) (value : A) → AreBytes blob → (reading blob ≡ Ok value) ↔ Spelled value blob

-- some spelling begins with these bytes
abbrev pub IsFront : {A : Type 0} → (A → List ℕ → Type 0) → List ℕ → Type 0
IsFront {A} Spelled front = (value : A) × (more : List ℕ) × Spelled value (front ++ more)

-- the byte after a front begins something that is left out: where a type stands, by the table of element types
abbrev pub OfTypes : List ℕ → ℕ → Feature → Type 0
OfTypes front byte feature = element_of byte ≡ Some (element.Feature feature)

-- a head of methods that are left out
abbrev pub IsHead : ℕ → Feature → Type 0
IsHead byte feature =
    (((byte ≡ generic_head) ⊎ (byte ≡ generic_this_head)) × (feature ≡ GenericMethod))
    ⊎ (((byte ≡ vararg_head) ⊎ (byte ≡ vararg_this_head)) × (feature ≡ Varargs))

-- in the signature of a method also its head
abbrev pub OfMethods : List ℕ → ℕ → Feature → Type 0
OfMethods front byte feature = OfTypes front byte feature ⊎ ((front ≡ []) × IsHead byte feature)

-- a reading stops after a front for good: no spelling begins with the front and the byte after it. It stops for
-- a feature at the byte that begins what is left out, and else with just the rest left; with none left, the blob
-- is cut
abbrev pub Stops : {A : Type 0} → (List ℕ → ℕ → Feature → Type 0) → (A → List ℕ → Type 0)
    → List ℕ → List ℕ → Stop → Type 0
Stops LeavesOut Spelled front [] end = end ≡ stop.Bad 0
Stops LeavesOut Spelled front (byte ∷ rest) (stop.Bad left) =
    (left ≡ length (byte ∷ rest)) × ¬ IsFront Spelled (front ++ byte ∷ [])
Stops LeavesOut Spelled front (byte ∷ rest) (stop.Feature feature) =
    LeavesOut front byte feature × ¬ IsFront Spelled (front ++ byte ∷ [])

-- wherever a reading stops, a spelling begins with all that stands before, and the reading stops there for good
abbrev pub StopsAtFirst : {A B : Type 0} → (List ℕ → ℕ → Feature → Type 0) → (A → List ℕ → Type 0)
    → (List ℕ → Result B Stop) → Type 0
StopsAtFirst LeavesOut Spelled reading =
    (blob : List ℕ) (end : Stop) → AreBytes blob → reading blob ≡ Err end
    → (front : List ℕ) × (rest : List ℕ) × (blob ≡ front ++ rest) × IsFront Spelled front
    × Stops LeavesOut Spelled front rest end

-- the numbers of a part have at most the 29 bits of a compressed number, and that of a class has the tag of a
-- table
abbrev pub IsNumbered : SigPart → Type 0
IsNumbered (Prim prim) = Unit {0}
IsNumbered (Class class) = (class < 2 ^ 29) × (class % 4 < no_table)
IsNumbered (Var number) = number < 2 ^ 29
IsNumbered (Inst class args) = (class < 2 ^ 29) × (class % 4 < no_table) × (args < 2 ^ 29)
IsNumbered Vector = Unit {0}

abbrev pub AreNumbered : List SigPart → Type 0
AreNumbered parts = AllByRecursion IsNumbered parts

abbrev pub IsMethodNumbered : MethodSig → Type 0
IsMethodNumbered sig = IfSome sig.result AreNumbered × AllByRecursion AreNumbered sig.params
