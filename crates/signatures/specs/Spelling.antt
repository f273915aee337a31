-- How signatures are spelled in bytes (ECMA-335 II.23.2): the grammar from its values, apart from how
-- bytes are read.
-- Own: modifiers may stand before an argument of a GENERICINST and in a TypeSpec too, and a count may be 0 also
-- in a GENERICINST and in a LocalVarSig.
use Rattle.std.specs.Prelude.{◌≡◌, ◌≢◌, ℕ, zero, suc, ◌%◌, ◌⊎◌, Bool, true, false, List, [], ◌∷◌, ◌++◌, length, Option, Some, None}
use Rattle.cli_words.specs.Compressed.{Spells}
use Rattle.signatures.specs.declared.sig.SigPart.{SigPart}
use Rattle.signatures.specs.declared.sig.SigPart.TheVariants.{Prim, Class, Var, Inst, Vector}
use Rattle.signatures.specs.declared.sig.MethodSig.{MethodSig}
use Rattle.signatures.specs.declared.element.Element.TheVariants as element
use Rattle.signatures.specs.Elements.{element_of, void_byte, class_byte, cmod_reqd, cmod_opt}
use Rattle.signatures.specs.Kinds.{field_kind, locals_kind, head_of}
use Rattle.signatures.specs.Grammar.{no_table}
use Rattle.signatures.specs.Types.{IsSig}

-- a TypeDefOrRefOrSpecEncoded (II.23.2.8): its tag is that of a table
abbrev pub SpellsClass : List ℕ → ℕ → Type 0
SpellsClass bytes class = Spells bytes class × (class % 4 ≢ no_table)

-- so many CustomMods (II.23.2.7): CMOD_REQD or CMOD_OPT, and a class
abbrev pub SpellsModifiers : ℕ → List ℕ → Type 0
SpellsModifiers zero bytes = bytes ≡ []
SpellsModifiers (suc count) bytes =
    (byte : ℕ) × (number : List ℕ) × (class : ℕ) × (more : List ℕ)
    × ((byte ≡ cmod_reqd) ⊎ (byte ≡ cmod_opt)) × SpellsClass number class × SpellsModifiers count more
    × (bytes ≡ byte ∷ (number ++ more))

abbrev pub AreModifiers : List ℕ → Type 0
AreModifiers bytes = (count : ℕ) × SpellsModifiers count bytes

-- what a type is, before the types that it is made of (II.23.2.12)
abbrev pub SpellsPart : SigPart → List ℕ → Type 0
SpellsPart (Prim prim) bytes =
    (byte : ℕ) × (element_of byte ≡ Some (element.Prim prim)) × (bytes ≡ byte ∷ [])
SpellsPart (Class class) bytes =
    (byte : ℕ) × (number : List ℕ) × (element_of byte ≡ Some element.Class) × SpellsClass number class
    × (bytes ≡ byte ∷ number)
SpellsPart (Var n) bytes =
    (byte : ℕ) × (number : List ℕ) × (element_of byte ≡ Some element.Var) × Spells number n
    × (bytes ≡ byte ∷ number)
SpellsPart (Inst class args) bytes =
    (byte : ℕ) × (number : List ℕ) × (count : List ℕ) × (element_of byte ≡ Some element.Inst)
    × SpellsClass number class × Spells count args × (bytes ≡ byte ∷ class_byte ∷ (number ++ count))
SpellsPart Vector bytes = (byte : ℕ) × (element_of byte ≡ Some element.Vector) × (bytes ≡ byte ∷ [])

-- parts one after another, each after its modifiers
abbrev pub SpellsParts : List SigPart → List ℕ → Type 0
SpellsParts [] bytes = bytes ≡ []
SpellsParts (part ∷ parts) bytes =
    (modifiers : List ℕ) × (own : List ℕ) × (others : List ℕ)
    × AreModifiers modifiers × SpellsPart part own × SpellsParts parts others
    × (bytes ≡ modifiers ++ (own ++ others))

-- a Type (II.23.2.12)
abbrev pub SpellsType : List SigPart → List ℕ → Type 0
SpellsType sig bytes = IsSig sig × SpellsParts sig bytes

-- types one after another
abbrev pub SpellsTypes : List (List SigPart) → List ℕ → Type 0
SpellsTypes [] bytes = bytes ≡ []
SpellsTypes (sig ∷ sigs) bytes =
    (first : List ℕ) × (others : List ℕ) × SpellsType sig first × SpellsTypes sigs others
    × (bytes ≡ first ++ others)

-- a RetType (II.23.2.11): a type, or VOID after its modifiers
abbrev pub SpellsResult : Option (List SigPart) → List ℕ → Type 0
SpellsResult (Some sig) bytes = SpellsType sig bytes
SpellsResult None bytes = (modifiers : List ℕ) × AreModifiers modifiers × (bytes ≡ modifiers ++ void_byte ∷ [])

-- a FieldSig (II.23.2.4)
abbrev pub SpellsField : List SigPart → List ℕ → Type 0
SpellsField sig bytes = (type : List ℕ) × SpellsType sig type × (bytes ≡ field_kind ∷ type)

-- a LocalVarSig (II.23.2.6)
abbrev pub SpellsLocals : List (List SigPart) → List ℕ → Type 0
SpellsLocals sigs bytes =
    (count : List ℕ) × (types : List ℕ) × Spells count (length sigs) × SpellsTypes sigs types
    × (bytes ≡ locals_kind ∷ (count ++ types))

-- a MethodDefSig (II.23.2.1)
abbrev pub SpellsMethod : MethodSig → List ℕ → Type 0
SpellsMethod sig bytes =
    (count : List ℕ) × (own : List ℕ) × (types : List ℕ) × Spells count (length sig.params)
    × SpellsResult sig.result own × SpellsTypes sig.params types
    × (bytes ≡ head_of sig.has_this ∷ (count ++ (own ++ types)))
