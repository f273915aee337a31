-- Types as lists of parts from the left, each part before the types that it is made of (own). The
-- order is that of ECMA-335 II.23.2.12.
use Rattle.std.specs.Prelude.{◌≡◌, ℕ, zero, suc, ◌+◌, Bool, true, false, List, [], ◌∷◌, map, drop, IsTrue}
use Rattle.std.specs.List.{AllByRecursion, flat_map}
use Rattle.signatures.specs.declared.sig.SigPart.{SigPart}
use Rattle.signatures.specs.declared.sig.SigPart.TheVariants.{Prim, Class, Var, Inst, Vector}

-- how many types come next, of which a part is made
abbrev pub arity : SigPart → ℕ
arity (Prim prim) = 0
arity (Class class) = 0
arity (Var number) = 0
arity (Inst class args) = args
arity Vector = 1

-- parts of these arities are n types, one after another, each of them whole
abbrev pub are_types : ℕ → List ℕ → Bool
are_types zero [] = true
are_types (suc n) [] = false
are_types zero (a ∷ arities) = false
are_types (suc n) (a ∷ arities) = are_types (n + a) arities

-- the parts are one type
abbrev pub IsType : {P : Type 0} → (P → ℕ) → List P → Type 0
IsType arity_of parts = IsTrue (are_types 1 (map arity_of parts))

abbrev pub IsSig : List SigPart → Type 0
IsSig parts = IsType arity parts

-- types one after another are the parts that come after the first
abbrev pub AreMadeOf : {P : Type 0} → (P → ℕ) → List P → List (List P) → Type 0
AreMadeOf arity_of parts types =
    (flat_map (λ type. type) types ≡ drop 1 parts) × AllByRecursion (IsType arity_of) types
