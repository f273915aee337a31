-- Keys of closed types, as lists of parts from the left, each part before the types that it is made
-- of (own).
use Rattle.std.specs.Prelude.{Option, Some, None, ℕ, ◌+◌, ◌==◌, ◌&&◌, ◌||◌, not, nat_lt, max, Bool, true, List, [], ◌∷◌, take, drop, length, IsTrue}
use Rattle.std.specs.List.{list_all}
use Rattle.signatures.specs.declared.key.KeyPart.{KeyPart}
use Rattle.signatures.specs.declared.key.KeyPart.TheVariants.{Prim, Class, Vector}
use Rattle.signatures.specs.Types.{IsType}

-- how many types come next, of which a part is made
abbrev pub key_arity : KeyPart → ℕ
key_arity (Prim prim) = 0
key_arity (Class assembly row args) = args
key_arity Vector = 1

-- the parts are one type
abbrev pub IsKey : List KeyPart → Type 0
IsKey parts = IsType key_arity parts

-- a part is no row of assembly 0 that has a key of its own: System.Object is row 1, System.String 2
abbrev pub is_proper : KeyPart → Bool
is_proper (Prim prim) = true
is_proper (Class assembly row args) = not ((assembly == 0) && ((row == 1) || (row == 2)))
is_proper Vector = true

abbrev pub IsProper : List KeyPart → Type 0
IsProper parts = IsTrue (list_all is_proper parts)

-- a key that can be shared
abbrev pub IsTypeKey : List KeyPart → Type 0
IsTypeKey parts = IsKey parts × IsProper parts

-- the greatest of numbers, 0 where there is none
abbrev pub greatest : List ℕ → ℕ
greatest [] = 0
greatest (n ∷ numbers) = max n (greatest numbers)

-- the levels of each of the types that parts spell, in their order: one more than the most that the
-- types have of which it is made
abbrev pub levels_of : List KeyPart → List ℕ
levels_of [] = []
levels_of (part ∷ parts) =
    (greatest (take (key_arity part) (levels_of parts)) + 1) ∷ drop (key_arity part) (levels_of parts)

-- more than 256 nodes, or more than 16 levels
abbrev pub is_deep : List KeyPart → Bool
is_deep parts = nat_lt 256 (length parts) || nat_lt 16 (greatest (levels_of parts))

-- the element of an array
abbrev pub element_of : List KeyPart → Option (List KeyPart)
element_of [] = None
element_of (Prim prim ∷ parts) = None
element_of (Class assembly row args ∷ parts) = None
element_of (Vector ∷ parts) = Some parts
