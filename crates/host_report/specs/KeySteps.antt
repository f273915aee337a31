-- The text of a key from the left, part by part: what a part begins with, what ends with it, and a comma where
-- another argument follows (own).
use Rattle.std.specs.Prelude.{ℕ, ◌+◌, ◌-◌, nat_lt, ◌==◌, if◌then◌else◌, List, [], ◌∷◌, ◌++◌, codes, decimal}
use Rattle.signatures.specs.declared.key.KeyPart.{KeyPart}
use Rattle.signatures.specs.declared.key.KeyPart.TheVariants.{Prim, Class, Vector}
use Rattle.signatures.specs.Keys.{key_arity}
use Rattle.host_report.specs.KeyText.{primitive_text}

abbrev pub opening : KeyPart → List ℕ
opening (Prim prim) = primitive_text prim
opening (Class assembly row args) =
    codes "[" ++ decimal assembly ++ codes "]" ++ decimal row ++ (if args == 0 then [] else codes "<")
opening Vector = []

-- what stands behind the type that a part begins
abbrev pub ending_of : KeyPart → List ℕ
ending_of (Prim prim) = []
ending_of (Class assembly row args) = codes ">"
ending_of Vector = codes "[]"

-- what stands behind the types that end where so many types in a row have ended, by the parts before these,
-- the nearest first: a part that is made of just as many has ended with them
abbrev pub endings : ℕ → List KeyPart → List ℕ
endings types [] = []
endings types (part ∷ before) =
    if nat_lt types (key_arity part) then []
    else (if key_arity part == types then ending_of part else [])
    ++ endings ((types - key_arity part) + 1) before

-- a part that is made of nothing ends a type
abbrev pub ending : List KeyPart → KeyPart → List ℕ
ending before part = if key_arity part == 0 then endings 1 before else []

abbrev pub comma : KeyPart → List KeyPart → List ℕ
comma part [] = []
comma part (next ∷ parts) = if key_arity part == 0 then codes "," else []

abbrev pub texts_from : List KeyPart → List KeyPart → List ℕ
texts_from before [] = []
texts_from before (part ∷ parts) =
    opening part ++ ending before part ++ comma part parts ++ texts_from (part ∷ before) parts
