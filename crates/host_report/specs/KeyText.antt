-- The text of a key: `[assembly]row`, with its arguments between angle brackets, an element's text with `[]`
-- after it, or the name of a primitive (own).
use Rattle.std.specs.Prelude.{ℕ, ◌^◌, ◌<◌, List, [], ◌∷◌, ◌++◌, get_or, take, drop, codes, decimal}
use Rattle.std.specs.List.{AllByRecursion}
use Rattle.signatures.specs.declared.sig.Primitive.{Primitive}
use Rattle.signatures.specs.declared.sig.Primitive.TheVariants as primitives
use Rattle.signatures.specs.declared.key.KeyPart.{KeyPart}
use Rattle.signatures.specs.declared.key.KeyPart.TheVariants.{Prim, Class, Vector}

abbrev pub primitive_text : Primitive → List ℕ
primitive_text primitives.Bool = codes "bool"
primitive_text primitives.Char = codes "char"
primitive_text primitives.Int8 = codes "int8"
primitive_text primitives.UInt8 = codes "uint8"
primitive_text primitives.Int16 = codes "int16"
primitive_text primitives.UInt16 = codes "uint16"
primitive_text primitives.Int32 = codes "int32"
primitive_text primitives.UInt32 = codes "uint32"
primitive_text primitives.Int64 = codes "int64"
primitive_text primitives.UInt64 = codes "uint64"
primitive_text primitives.Native = codes "native"
primitive_text primitives.UNative = codes "unative"
primitive_text primitives.Text = codes "string"
primitive_text primitives.Object = codes "object"

-- texts, each after a comma
abbrev pub after_commas : List (List ℕ) → List ℕ
after_commas [] = []
after_commas (text ∷ texts) = codes "," ++ text ++ after_commas texts

-- the arguments of a class: nothing where it has none
abbrev pub arguments_text : List (List ℕ) → List ℕ
arguments_text [] = []
arguments_text (text ∷ texts) = codes "<" ++ text ++ after_commas texts ++ codes ">"

-- the first of texts as the element of an array
abbrev pub array_texts : List (List ℕ) → List (List ℕ)
array_texts [] = []
array_texts (text ∷ texts) = (text ++ codes "[]") ∷ texts

-- the texts of the types that parts spell, in their order: a part's own, and then those of the types of which
-- it is made
abbrev pub key_texts : List KeyPart → List (List ℕ)
key_texts [] = []
key_texts (Prim prim ∷ parts) = primitive_text prim ∷ key_texts parts
key_texts (Class assembly row args ∷ parts) =
    (codes "[" ++ decimal assembly ++ codes "]" ++ decimal row ++ arguments_text (take args (key_texts parts)))
    ∷ drop args (key_texts parts)
key_texts (Vector ∷ parts) = array_texts (key_texts parts)

-- the text of the one type that the parts of a key are
abbrev pub key_text : List KeyPart → List ℕ
key_text key = get_or (key_texts key) 0 []

-- the numbers of a part are of 32 bits
abbrev pub IsKeyNumbers : KeyPart → Type 0
IsKeyNumbers (Prim prim) = Unit {0}
IsKeyNumbers (Class assembly row args) = (assembly < 2 ^ 32) × (row < 2 ^ 32) × (args < 2 ^ 32)
IsKeyNumbers Vector = Unit {0}

abbrev pub AreKeyNumbers : List KeyPart → Type 0
AreKeyNumbers key = AllByRecursion IsKeyNumbers key
