-- The grammar of signatures (ECMA-335 II.23.2). What is read at the front of bytes is given with the
-- bytes after it. A reading ends where the grammar does not go on, or at a thing that is left out.
-- Own: modifiers may stand before an argument of a GENERICINST and in a TypeSpec too, a count may be 0 also in a
-- GENERICINST and in a LocalVarSig, and a method with an explicit `this` has no reading.
use Rattle.std.specs.Prelude.{ℕ, zero, suc, ◌+◌, ◌%◌, ◌==◌, ◌||◌, Bool, true, false, nat_lt, if◌then◌else◌, List, [], ◌∷◌, length, drop, Option, Some, None, Result, Ok, Err}
use Rattle.std.specs.Option.{option_map_or}
use Rattle.cli_words.specs.Compressed.{number_at_front}
use Rattle.signatures.specs.declared.feature.Feature.TheVariants.{ValueType, GenericMethod, Varargs}
use Rattle.signatures.specs.declared.fault.Stop.{Stop}
use Rattle.signatures.specs.declared.fault.Stop.TheVariants as stop
use Rattle.signatures.specs.declared.sig.SigPart.{SigPart}
use Rattle.signatures.specs.declared.sig.SigPart.TheVariants as part
use Rattle.signatures.specs.declared.sig.MethodSig.{MethodSig}
use Rattle.signatures.specs.declared.element.Element.{Element}
use Rattle.signatures.specs.declared.element.Element.TheVariants.{Prim, Class, Var, Inst, Vector, Feature}
use Rattle.signatures.specs.Elements.{element_of, void_byte, value_type_byte, class_byte, cmod_reqd, cmod_opt}
use Rattle.signatures.specs.Kinds.{field_kind, locals_kind, default_head, default_this_head, generic_head, generic_this_head, vararg_head, vararg_this_head}
use Rattle.signatures.specs.Types.{arity}

-- what is read at the front of bytes, and the bytes after it, or why the reading ends
abbrev pub Reading : Type 0 → Type 0
Reading A = Result (A × List ℕ) Stop

-- one reading, and then another that goes on with what the first gave
infixl 10 ◌>>=◌
abbrev pub ◌>>=◌ : {A B : Type 0} → Result A Stop → (A → Result B Stop) → Result B Stop
(Ok x) >>= next = next x
(Err end) >>= next = Err end

-- nothing that is due begins with the first of these bytes, or the blob ends here
abbrev pub nothing_at : {A : Type 0} → List ℕ → Result A Stop
nothing_at bytes = Err (stop.Bad (length bytes))

-- how many bytes are left from the place on at which bytes are no number: no number begins with E0
-- or more, and any other one is cut
abbrev pub unread : List ℕ → ℕ
unread [] = 0
unread (a ∷ rest) = if nat_lt a 0xE0 then 0 else length (a ∷ rest)

abbrev pub after_number : List ℕ → Option (ℕ × ℕ) → Reading ℕ
after_number bytes (Some found) = Ok (found.0, drop found.1 bytes)
after_number bytes None = Err (stop.Bad (unread bytes))

-- a compressed number (II.23.2)
unfoldable pub number_at : List ℕ → Reading ℕ
number_at bytes = after_number bytes (number_at_front bytes)

-- the tag that names no table in a TypeDefOrRefOrSpecEncoded (II.23.2.8)
abbrev pub no_table : ℕ
no_table = 3

-- a TypeDefOrRefOrSpecEncoded (II.23.2.8): a number whose tag names a table. The last byte of the
-- number has the tag
unfoldable pub class_at : List ℕ → Reading ℕ
class_at bytes = do
  class ← number_at bytes
  if class.0 % 4 == no_table then Err (stop.Bad (length class.1 + 1)) else Ok class

-- the bytes after a first byte of CMOD_REQD or CMOD_OPT (II.23.2.7)
abbrev pub past_modifier : List ℕ → Option (List ℕ)
past_modifier [] = None
past_modifier (byte ∷ rest) = if (byte == cmod_reqd) || (byte == cmod_opt) then Some rest else None

-- the bytes after so many CustomMods (II.23.2.7) at the most
unfoldable pub after_modifiers : ℕ → List ℕ → Result (List ℕ) Stop
after_modifiers zero bytes = Ok bytes
after_modifiers (suc steps) bytes =
    option_map_or (λ rest. class_at rest >>= λ class. after_modifiers steps class.1)
    (past_modifier bytes) (Ok bytes)

-- the bytes after all the CustomMods that there are
abbrev pub modifiers_at : List ℕ → Result (List ℕ) Stop
modifiers_at bytes = after_modifiers (length bytes) bytes

-- what is generic in a GENERICINST: CLASS, its number and the count of its arguments
unfoldable pub generic_at : List ℕ → Reading SigPart
generic_at [] = nothing_at []
generic_at (byte ∷ rest) =
    if byte == class_byte
    then (do
      class ← class_at rest
      args ← number_at class.1
      Ok (part.Inst class.0 args.0, args.1))
    else (if byte == value_type_byte then Err (stop.Feature ValueType) else nothing_at (byte ∷ rest))

-- the rest of a part that a byte began
abbrev pub begun : List ℕ → Option Element → List ℕ → Reading SigPart
begun bytes (Some (Prim prim)) rest = Ok (part.Prim prim, rest)
begun bytes (Some Class) rest = class_at rest >>= λ class. Ok (part.Class class.0, class.1)
begun bytes (Some Var) rest = number_at rest >>= λ number. Ok (part.Var number.0, number.1)
begun bytes (Some Inst) rest = generic_at rest
begun bytes (Some Vector) rest = Ok (part.Vector, rest)
begun bytes (Some (Feature name)) rest = Err (stop.Feature name)
begun bytes None rest = nothing_at bytes

-- what a type is, before the types that it is made of (II.23.2.12)
unfoldable pub bare_part_at : List ℕ → Reading SigPart
bare_part_at [] = nothing_at []
bare_part_at (byte ∷ rest) = begun (byte ∷ rest) (element_of byte) rest

-- the same after modifiers
unfoldable pub part_at : List ℕ → Reading SigPart
part_at bytes = modifiers_at bytes >>= bare_part_at

-- n types, one after another, with this many parts at the most. The first type is what it is, and
-- then come the types that it is made of
unfoldable pub types_at : ℕ → ℕ → List ℕ → Reading (List SigPart)
types_at steps zero bytes = Ok ([], bytes)
types_at zero (suc n) bytes = nothing_at []
types_at (suc steps) (suc n) bytes = do
  first ← part_at bytes
  others ← types_at steps (n + arity first.0) first.1
  Ok (first.0 ∷ others.0, others.1)

-- a Type (II.23.2.12): each part takes a byte at the least
unfoldable pub type_at : List ℕ → Reading (List SigPart)
type_at bytes = types_at (length bytes) 1 bytes

abbrev pub bare_result_at : List ℕ → Reading (Option (List SigPart))
bare_result_at [] = nothing_at []
bare_result_at (byte ∷ rest) =
    if byte == void_byte then Ok (None, rest)
    else (type_at (byte ∷ rest) >>= λ type. Ok (Some type.0, type.1))

-- a RetType (II.23.2.11): a type, or VOID
unfoldable pub result_at : List ℕ → Reading (Option (List SigPart))
result_at bytes = modifiers_at bytes >>= bare_result_at

-- this many types (II.23.2.10, II.23.2.6)
unfoldable pub sigs_at : ℕ → List ℕ → Reading (List (List SigPart))
sigs_at zero bytes = Ok ([], bytes)
sigs_at (suc n) bytes = do
  first ← type_at bytes
  others ← sigs_at n first.1
  Ok (first.0 ∷ others.0, others.1)

-- the byte that a signature of a kind begins with
unfoldable pub after_kind : ℕ → List ℕ → Result (List ℕ) Stop
after_kind kind [] = nothing_at []
after_kind kind (byte ∷ rest) = if byte == kind then Ok rest else nothing_at (byte ∷ rest)

-- the first byte of a method's signature (II.23.2.1): DEFAULT, with HASTHIS or without. GENERIC and
-- VARARG are left out
unfoldable pub head_at : List ℕ → Reading Bool
head_at [] = nothing_at []
head_at (byte ∷ rest) =
    if byte == default_head then Ok (false, rest)
    else (if byte == default_this_head then Ok (true, rest)
    else (if (byte == generic_head) || (byte == generic_this_head) then Err (stop.Feature GenericMethod)
    else (if (byte == vararg_head) || (byte == vararg_this_head) then Err (stop.Feature Varargs)
    else nothing_at (byte ∷ rest))))

-- a MethodDefSig (II.23.2.1)
unfoldable pub method_at : List ℕ → Reading MethodSig
method_at bytes = do
  head ← head_at bytes
  count ← number_at head.1
  result ← result_at count.1
  params ← sigs_at count.0 result.1
  Ok (record { has_this = head.0; result = result.0; params = params.0 }, params.1)

-- a LocalVarSig (II.23.2.6)
unfoldable pub locals_at : List ℕ → Reading (List (List SigPart))
locals_at bytes = do
  begun ← after_kind locals_kind bytes
  count ← number_at begun
  sigs_at count.0 count.1

-- a FieldSig (II.23.2.4)
unfoldable pub field_at : List ℕ → Reading (List SigPart)
field_at bytes = after_kind field_kind bytes >>= type_at
