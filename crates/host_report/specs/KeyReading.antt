-- What the reader takes of a key (own: the reader's view). It goes from the right end of the text to the left:
-- so the brackets of an array come before its element, and a class comes after its arguments are counted.
use Rattle.std.specs.Prelude.{ℕ, ◌+◌, ◌^◌, Bool, true, false, ◌&&◌, ◌||◌, ◌==◌, nat_lt, List, [], ◌∷◌, map, reverse, Option, Some, None, if◌then◌else◌}
use Rattle.std.specs.List.{find, list_all}
use Rattle.std.specs.Option.{option_map, option_and_then}
use Rattle.std.specs.Str.{bytes_eq}
use Rattle.signatures.specs.declared.sig.Primitive.{Primitive}
use Rattle.signatures.specs.declared.sig.Primitive.TheVariants as primitives
use Rattle.signatures.specs.declared.key.KeyPart.{KeyPart}
use Rattle.signatures.specs.declared.key.KeyPart.TheVariants.{Prim, Class, Vector}
use Rattle.signatures.specs.Keys.{is_proper, key_arity}
use Rattle.signatures.specs.Types.{are_types}
use Rattle.host_report.specs.declared.key_reading.Draft.{Draft}
use Rattle.host_report.specs.declared.key_reading.Outer.{Outer}
use Rattle.host_report.specs.declared.key_reading.Outer.TheVariants as outer
use Rattle.host_report.specs.FieldReading.{parsed, valued, word_read}
use Rattle.host_report.specs.KeyText.{primitive_text}

-- what was read of a key
pub record KeyDraft : Type 0 where
  -- the number behind the brackets that are open
  pub row : Option ℕ
  -- how many arguments the class has that comes next
  pub args : ℕ
  -- what the next type is part of, the innermost first
  pub outers : List Outer
  pub parts : List KeyPart

-- what the code keeps, whose lists go the other way
abbrev pub drafted : Draft → KeyDraft
drafted draft = record {
  row = draft.row;
  args = draft.args;
  outers = reverse draft.outers.items;
  parts = reverse draft.parts.items;
}

-- a type may come next
abbrev pub ready : List Outer → List KeyPart → KeyDraft
ready outers parts = record { row = None; args = 0; outers = outers; parts = parts }

-- after a type that is the element of no array
abbrev pub argument_counted : List Outer → List KeyPart → Option KeyDraft
argument_counted [] parts = Some (ready [] parts)
argument_counted (outer.Array ∷ outers) parts = None
argument_counted (outer.Class args ∷ outers) parts =
    if nat_lt (args + 1) (2 ^ 32) then Some (ready (outer.Class (args + 1) ∷ outers) parts) else None

abbrev pub is_array_next : List Outer → Bool
is_array_next [] = false
is_array_next (outer.Array ∷ outers) = true
is_array_next (outer.Class args ∷ outers) = false

-- after a type: the arrays begin of which it is the element, and it is one more argument of a class
abbrev pub closed : List Outer → List KeyPart → Option KeyDraft
closed [] parts = Some (ready [] parts)
closed (outer.Array ∷ outers) parts = closed outers (Vector ∷ parts)
closed (outer.Class args ∷ outers) parts = argument_counted (outer.Class args ∷ outers) parts

-- each primitive once
abbrev pub all_primitives : List Primitive
all_primitives =
    primitives.Bool
    ∷ primitives.Char
    ∷ primitives.Int8
    ∷ primitives.UInt8
    ∷ primitives.Int16
    ∷ primitives.UInt16
    ∷ primitives.Int32
    ∷ primitives.UInt32
    ∷ primitives.Int64
    ∷ primitives.UInt64
    ∷ primitives.Native
    ∷ primitives.UNative
    ∷ primitives.Text
    ∷ primitives.Object
    ∷ []

unfoldable pub primitive_named : List ℕ → Option Primitive
primitive_named name = find (λ prim. bytes_eq (primitive_text prim) name) all_primitives

-- the primitive that a word names, where there is a word; behind a class there is none
abbrev pub settled : List ℕ → KeyDraft → Option KeyDraft
settled [] draft = Some draft
settled (byte ∷ word) draft =
    option_and_then (λ prim. closed draft.outers (Prim prim ∷ draft.parts)) (primitive_named (byte ∷ word))

-- a bracket opens: of an array, or of a class, whose assembly is between the brackets and whose row behind
abbrev pub opened : Option ℕ → List ℕ → KeyDraft → Option KeyDraft
opened None word draft = Some (ready (outer.Array ∷ draft.outers) draft.parts)
opened (Some row) word draft =
    option_and_then (λ assembly. closed draft.outers (Class assembly row draft.args ∷ draft.parts)) (parsed 32 word)

-- all arguments of a class were read
abbrev pub counted : List Outer → List KeyPart → Option KeyDraft
counted [] parts = None
counted (outer.Array ∷ outers) parts = None
counted (outer.Class args ∷ outers) parts =
    Some (record { row = None; args = args; outers = outers; parts = parts })

-- a comma, a bracket or an angle bracket
abbrev pub is_mark : ℕ → Bool
is_mark byte = (byte == 44) || ((byte == 60) || ((byte == 62) || ((byte == 91) || (byte == 93))))

-- a mark with a word behind it
abbrev pub marked : ℕ → List ℕ → KeyDraft → Option KeyDraft
marked mark word draft =
    if mark == 44 then settled word draft
    else if mark == 60 then option_and_then (λ draft. counted draft.outers draft.parts) (settled word draft)
    else if mark == 62 then Some (ready (outer.Class 0 ∷ draft.outers) draft.parts)
    else if mark == 91 then opened draft.row word draft
    else Some (record { row = parsed 32 word; args = draft.args; outers = draft.outers; parts = draft.parts })

-- no word stands before a mark
abbrev pub wordless : Option KeyDraft → Option (List ℕ × KeyDraft)
wordless draft = option_map (λ draft. ([], draft)) draft

abbrev pub stepped : ℕ → List ℕ → KeyDraft → Option (List ℕ × KeyDraft)
stepped byte word draft =
    if is_mark byte then wordless (marked byte word draft) else Some (byte ∷ word, draft)

abbrev pub taken : ℕ → Option (List ℕ × KeyDraft) → Option (List ℕ × KeyDraft)
taken byte read = option_and_then (λ read. stepped byte read.0 read.1) read

-- the word at the front, and what was read behind it
abbrev pub scanned : List ℕ → Option (List ℕ × KeyDraft)
scanned [] = Some ([], ready [] [])
scanned (byte ∷ bytes) = taken byte (scanned bytes)

abbrev pub all_settled : Option (List ℕ × KeyDraft) → Option KeyDraft
all_settled read = option_and_then (λ read. settled read.0 read.1) read

abbrev pub parts_read : List ℕ → Option (List KeyPart)
parts_read text = option_map (λ draft. draft.parts) (all_settled (scanned text))

abbrev pub if_key : List KeyPart → Option (List KeyPart)
if_key parts = if are_types 1 (map key_arity parts) && list_all is_proper parts then Some parts else None

abbrev pub key_of : List ℕ → Option (List KeyPart)
key_of word = option_and_then if_key (parts_read word)

abbrev pub key_read : List ℕ → Option (List KeyPart × List ℕ)
key_read text = valued key_of (word_read text)
