-- The text of a key is read as that key, and what is read is a key.
use Rattle.std.proofs.Common.{◌≡◌, ◌≢◌, ℕ, zero, suc, ◌+◌, ◌-◌, ◌%◌, ◌^◌, ◌<◌, ◌≤◌, Bool, true, false, List, [], ◌∷◌, ◌++◌, length, take, drop, get_or, map, Option, Some, None, refl, sym, ◌∙◌, ap, subst, append_assoc, append-nil, arith, lt-ltb, ltb-true, decimal, drop-cons}
use Rattle.std.specs.Prelude.{codes, nat_lt, ◌==◌, ◌&&◌, not}
use Rattle.std.specs.List.{AllByRecursion, list_all}
use Rattle.std.specs.Option.{IfSome, option_map, option_and_then}
use Rattle.std.proofs.lemmas.Bool.{false≢true, and_parts, cond_both, ne_eqb, eq-eqb}
use Rattle.std.proofs.lemmas.List.{take-append-drop, length-take-le}
use Rattle.std.proofs.lemmas.Fmt.{decimal_by_steps}
use Rattle.signatures.specs.declared.sig.Primitive.{Primitive}
use Rattle.signatures.specs.declared.sig.Primitive.TheVariants as primitives
use Rattle.signatures.specs.declared.key.KeyPart.{KeyPart}
use Rattle.signatures.specs.declared.key.KeyPart.TheVariants.{Prim, Class, Vector}
use Rattle.signatures.specs.Keys.{IsTypeKey, key_arity, is_proper}
use Rattle.signatures.specs.Types.{are_types}
use Rattle.host_report.specs.declared.key_reading.Outer.{Outer}
use Rattle.host_report.specs.declared.key_reading.Outer.TheVariants as outer
use Rattle.host_report.specs.FieldReading.{parsed, word_read}
use Rattle.host_report.specs.KeyText.{primitive_text, after_commas, arguments_text, array_texts, key_texts, key_text, AreKeyNumbers}
use Rattle.host_report.specs.KeyReading.{KeyDraft, ready, closed, primitive_named, settled, opened, counted, marked, is_mark, wordless, stepped, taken, scanned, all_settled, parts_read, if_key, key_of, key_read}
use Rattle.host_report.specs.declared.unread.Unread.{Unread}
use Rattle.host_report.specs.declared.unread.Unread.TheVariants.{Differs, OutOfMemory}
use Rattle.host_report.specs.Reading.{IsTail}
use Rattle.host_report.proofs.FieldReadingLemmas.{Lacks, parsed_decimal, parsed_none, parsed_small, valued_is, valued_spelled, tail_begins}
use Rattle.host_report.proofs.KeyLemmas.{length-key_texts}

all_both : {T : Type 0} (P : T → Type 0) (xs ys : List T) → AllByRecursion P xs → AllByRecursion P ys → AllByRecursion P (xs ++ ys)
all_both P [] ys all more = more
all_both P (x ∷ xs) ys (here, all) more = (here, all_both P xs ys all more)

lacks_both : (xs ys : List ℕ) → Lacks 32 xs → Lacks 32 ys → Lacks 32 (xs ++ ys)
lacks_both xs ys x y = all_both (λ byte. byte ≢ 32) xs ys x y

-- no mark, and no space
abbrev IsPlain : ℕ → Type 0
IsPlain byte = (is_mark byte ≡ false) × (byte ≢ 32)

abbrev ArePlain : List ℕ → Type 0
ArePlain word = AllByRecursion IsPlain word

plain_lacks : (word : List ℕ) → ArePlain word → Lacks 32 word
plain_lacks [] plain = tt
plain_lacks (byte ∷ word) (here, plain) = (here.1, plain_lacks word plain)

digit_plain : (n : ℕ) → n < 10 → IsPlain (48 + n)
digit_plain n low = (
  rw (
    ne_eqb (48 + n) 44 (λ e. omega (arith, e)),
    ne_eqb (48 + n) 60 (λ e. omega (arith, e, low)),
    ne_eqb (48 + n) 62 (λ e. omega (arith, e, low)),
    ne_eqb (48 + n) 91 (λ e. omega (arith, e, low)),
    ne_eqb (48 + n) 93 (λ e. omega (arith, e, low)),
  ) refl,
  λ e. omega (arith, e),
)

decimal_plain : (n : ℕ) → n < 2 ^ 32 → ArePlain (decimal n)
decimal_plain n small =
    decimal_by_steps (λ n digits. ArePlain digits)
    (λ n low. (digit_plain n low, tt))
    (λ n digits high plain. all_both IsPlain digits ((48 + n % 10) ∷ []) plain (digit_plain (n % 10) (omega arith), tt))
    n (omega (arith, small))

-- a word goes before the word behind it
word_scanned : (word suffix next : List ℕ) (draft : KeyDraft) → ArePlain word →
    scanned suffix ≡ Some (next, draft) → scanned (word ++ suffix) ≡ Some (word ++ next, draft)
word_scanned [] suffix next draft plain e = e
word_scanned (byte ∷ word) suffix next draft (here, plain) e =
    ap (taken byte) (word_scanned word suffix next draft plain e) ∙ rw (here.0) refl

-- the same where no word is behind it
whole_word : (word suffix : List ℕ) (draft : KeyDraft) → ArePlain word →
    scanned suffix ≡ Some ([], draft) → scanned (word ++ suffix) ≡ Some (word, draft)
whole_word word suffix draft plain e =
    word_scanned word suffix [] draft plain e ∙ ap (λ w. Some (w, draft)) (append-nil word)

abbrev is_plain : ℕ → Bool
is_plain byte = not (is_mark byte) && not (byte == 32)

opposite : (b : Bool) → not b ≡ true → b ≡ false
opposite true e = sym e
opposite false e = refl

plain_tested : (word : List ℕ) → list_all is_plain word ≡ true → ArePlain word
plain_tested [] e = tt
plain_tested (byte ∷ word) e =
    let parts = and_parts (is_plain byte) (list_all is_plain word) e in
    let here = and_parts (not (is_mark byte)) (not (byte == 32)) parts.0 in
    ((opposite (is_mark byte) here.0, λ same. false≢true (sym (opposite (byte == 32) here.1) ∙ eq-eqb byte 32 same)), plain_tested word parts.1)

-- the name of a primitive is read as the primitive
primitive_is : (prim : Primitive) → (list_all is_plain (primitive_text prim) ≡ true)
    × ((draft : KeyDraft) → settled (primitive_text prim) draft ≡ closed draft.outers (Prim prim ∷ draft.parts))
unfolding primitive_named
primitive_is primitives.Bool = (refl, λ draft. refl)
primitive_is primitives.Char = (refl, λ draft. refl)
primitive_is primitives.Int8 = (refl, λ draft. refl)
primitive_is primitives.UInt8 = (refl, λ draft. refl)
primitive_is primitives.Int16 = (refl, λ draft. refl)
primitive_is primitives.UInt16 = (refl, λ draft. refl)
primitive_is primitives.Int32 = (refl, λ draft. refl)
primitive_is primitives.UInt32 = (refl, λ draft. refl)
primitive_is primitives.Int64 = (refl, λ draft. refl)
primitive_is primitives.UInt64 = (refl, λ draft. refl)
primitive_is primitives.Native = (refl, λ draft. refl)
primitive_is primitives.UNative = (refl, λ draft. refl)
primitive_is primitives.Text = (refl, λ draft. refl)
primitive_is primitives.Object = (refl, λ draft. refl)

-- a comma ends a type, and so does an angle bracket
comma_taken : (read : Option (List ℕ × KeyDraft)) (draft : KeyDraft) → all_settled read ≡ Some draft →
    taken 44 read ≡ Some ([], draft)
comma_taken None draft e = absurd cc
comma_taken (Some (word, before)) draft e = ap wordless e

angle_taken : (read : Option (List ℕ × KeyDraft)) (draft next : KeyDraft) → all_settled read ≡ Some draft →
    counted draft.outers draft.parts ≡ Some next → taken 60 read ≡ Some ([], next)
angle_taken None draft next e count = absurd cc
angle_taken (Some (word, before)) draft next e count =
    ap (λ draft. wordless (option_and_then (λ draft. counted draft.outers draft.parts) draft)) e ∙ ap wordless count

-- types one after another
abbrev joined : List (List KeyPart) → List KeyPart
joined [] = []
joined (type ∷ types) = type ++ joined types

-- wherever the text stands, it is read as these parts, which are one type
record IsReadAs (text : List ℕ) (type : List KeyPart) : Type 0 where
  pub lacks : Lacks 32 text
  pub read : (suffix : List ℕ) (outers : List Outer) (parts : List KeyPart) (after : KeyDraft) →
      scanned suffix ≡ Some ([], ready outers parts) → closed outers (type ++ parts) ≡ Some after →
      all_settled (scanned (text ++ suffix)) ≡ Some after

abbrev AreReadAs : List (List ℕ) → List (List KeyPart) → Type 0
AreReadAs [] [] = Unit {0}
AreReadAs [] (type ∷ types) = ⊥
AreReadAs (text ∷ texts) [] = ⊥
AreReadAs (text ∷ texts) (type ∷ types) = IsReadAs text type × AreReadAs texts types

take_read : (n : ℕ) (texts : List (List ℕ)) (types : List (List KeyPart)) → AreReadAs texts types → AreReadAs (take n texts) (take n types)
take_read zero texts types are = tt
take_read (suc n) [] [] are = tt
take_read (suc n) [] (type ∷ types) are = are
take_read (suc n) (text ∷ texts) [] are = are
take_read (suc n) (text ∷ texts) (type ∷ types) (is, are) = (is, take_read n texts types are)

drop_read : (n : ℕ) (texts : List (List ℕ)) (types : List (List KeyPart)) → AreReadAs texts types → AreReadAs (drop n texts) (drop n types)
drop_read zero texts types are = are
drop_read (suc n) [] [] are = tt
drop_read (suc n) [] (type ∷ types) are = absurd are
drop_read (suc n) (text ∷ texts) [] are = absurd are
drop_read (suc n) (text ∷ texts) (type ∷ types) (is, are) = drop_read n texts types are

joined_both : (xs ys : List (List KeyPart)) → joined (xs ++ ys) ≡ joined xs ++ joined ys
joined_both [] ys = refl
joined_both (x ∷ xs) ys = ap (λ t. x ++ t) (joined_both xs ys) ∙ sym (append_assoc x (joined xs) (joined ys))

joined_parted : (n : ℕ) (types : List (List KeyPart)) → joined (take n types) ++ joined (drop n types) ≡ joined types
joined_parted n types = sym (joined_both (take n types) (drop n types)) ∙ ap joined (take-append-drop n types)

-- a primitive
primitive_read : (prim : Primitive) → IsReadAs (primitive_text prim) (Prim prim ∷ [])
primitive_read prim =
    let plain = plain_tested (primitive_text prim) (primitive_is prim).0 in record {
      lacks = plain_lacks (primitive_text prim) plain;
      read = λ suffix outers parts after e end.
          ap all_settled (whole_word (primitive_text prim) suffix (ready outers parts) plain e)
          ∙ (primitive_is prim).1 (ready outers parts) ∙ end;
    }

nothing_parsed : parsed 32 [] ≡ None
nothing_parsed = parsed_none 32 [] [] refl (λ is. omega (arith, is.0.0))

-- an array
array_read : (text : List ℕ) (type : List KeyPart) → IsReadAs text type → IsReadAs (text ++ codes "[]") (Vector ∷ type)
array_read text type is = record {
  lacks = lacks_both text (codes "[]") is.lacks (λ e. omega (arith, e), (λ e. omega (arith, e), tt));
  read = λ suffix outers parts after e end.
      let array : scanned (codes "[]" ++ suffix) ≡ Some ([], ready (outer.Array ∷ outers) parts) =
      ap (λ read. taken 91 (taken 93 read)) e
      ∙ ap (λ row. taken 91 (Some ([], record { row = row; args = 0; outers = outers; parts = parts }))) nothing_parsed in
      ap (λ t. all_settled (scanned t)) (append_assoc text (codes "[]") suffix)
      ∙ is.read (codes "[]" ++ suffix) (outer.Array ∷ outers) parts after array end;
}

class_text : (a r s : List ℕ) → (((codes "[" ++ a) ++ codes "]") ++ r) ++ s ≡ 91 ∷ (a ++ (93 ∷ (r ++ s)))
class_text a r s = simp append_assoc

-- a class whose arguments were read
class_head : (assembly row args : ℕ) (suffix : List ℕ) (outers : List Outer) (parts : List KeyPart) (after : KeyDraft) → assembly < 2 ^ 32 → row < 2 ^ 32 →
    scanned suffix ≡ Some ([], record { row = None; args = args; outers = outers; parts = parts }) →
    closed outers (Class assembly row args ∷ parts) ≡ Some after →
    all_settled (scanned ((((codes "[" ++ decimal assembly) ++ codes "]") ++ decimal row) ++ suffix)) ≡ Some after
class_head assembly row args suffix outers parts after low small e end =
    let behind : Option ℕ → KeyDraft = λ row. record { row = row; args = args; outers = outers; parts = parts } in
    let row_read : scanned (decimal row ++ suffix) ≡ Some (decimal row, behind None) = whole_word (decimal row) suffix (behind None) (decimal_plain row small) e in
    let bracket : scanned (93 ∷ (decimal row ++ suffix)) ≡ Some ([], behind (Some row)) =
    ap (taken 93) row_read ∙ ap (λ row. Some ([], behind row)) (parsed_decimal 32 row small (omega (arith, small))) in
    let assembly_read : scanned (decimal assembly ++ (93 ∷ (decimal row ++ suffix))) ≡ Some (decimal assembly, behind (Some row)) =
    whole_word (decimal assembly) (93 ∷ (decimal row ++ suffix)) (behind (Some row)) (decimal_plain assembly low) bracket in
    ap (λ t. all_settled (scanned t)) (class_text (decimal assembly) (decimal row) suffix)
    ∙ ap (λ read. all_settled (taken 91 read)) assembly_read
    ∙ ap (λ there. all_settled (wordless (option_and_then (λ assembly. closed outers (Class assembly row args ∷ parts)) there))) (parsed_decimal 32 assembly low (omega (arith, low)))
    ∙ ap (λ there. all_settled (wordless there)) end

-- the arguments of a class, before what stands behind them
arguments_read : (text : List ℕ) (texts : List (List ℕ)) (type : List KeyPart) (types : List (List KeyPart)) (suffix : List ℕ) (outers : List Outer) (parts : List KeyPart) →
    IsReadAs text type → AreReadAs texts types → length texts + 1 < 2 ^ 32 →
    scanned suffix ≡ Some ([], ready (outer.Class 0 ∷ outers) parts) →
    all_settled (scanned (text ++ (after_commas texts ++ suffix))) ≡ Some (ready (outer.Class (length texts + 1) ∷ outers) ((type ++ joined types) ++ parts))
arguments_read text [] type [] suffix outers parts is are small e =
    is.read suffix (outer.Class 0 ∷ outers) parts _ e
    (ap (λ t. Some (ready (outer.Class 1 ∷ outers) (t ++ parts))) (sym (append-nil type)))
arguments_read text [] type (other ∷ types) suffix outers parts is are small e = absurd are
arguments_read text (other ∷ texts) type [] suffix outers parts is are small e = absurd are
arguments_read text (other ∷ texts) type (kind ∷ types) suffix outers parts is (first, are) small e =
    let more = arguments_read other texts kind types suffix outers parts first are (omega (arith, small)) e in
    let read : scanned (44 ∷ (other ++ (after_commas texts ++ suffix))) ≡ Some ([], ready (outer.Class (length texts + 1) ∷ outers) ((kind ++ joined types) ++ parts)) =
    comma_taken (scanned (other ++ (after_commas texts ++ suffix))) (ready (outer.Class (length texts + 1) ∷ outers) ((kind ++ joined types) ++ parts)) more in
    let count : (length texts + 1) + 1 ≡ suc (length texts) + 1 = omega arith in
    let end : closed (outer.Class (length texts + 1) ∷ outers) (type ++ ((kind ++ joined types) ++ parts)) ≡ Some (ready (outer.Class (suc (length texts) + 1) ∷ outers) ((type ++ (kind ++ joined types)) ++ parts)) =
    rw (lt-ltb ((length texts + 1) + 1) (2 ^ 32) (omega (arith, small)), count, sym (append_assoc type (kind ++ joined types) parts)) refl in
    ap (λ t. all_settled (scanned (text ++ t))) (commas other (after_commas texts) suffix)
    ∙ is.read (44 ∷ (other ++ (after_commas texts ++ suffix))) (outer.Class (length texts + 1) ∷ outers) ((kind ++ joined types) ++ parts) _ read end
  where
    commas : (other more suffix : List ℕ) → ((codes "," ++ other) ++ more) ++ suffix ≡ 44 ∷ (other ++ (more ++ suffix))
    commas other more suffix = simp append_assoc

class_joined : (h t m s : List ℕ) → (h ++ (((codes "<" ++ t) ++ m) ++ codes ">")) ++ s ≡ h ++ (60 ∷ (t ++ (m ++ (62 ∷ s))))
class_joined h t m s = simp append_assoc

-- the text before the arguments of a class
abbrev class_front : ℕ → ℕ → List ℕ
class_front assembly row = codes "[" ++ decimal assembly ++ codes "]" ++ decimal row

front_lacks : (assembly row : ℕ) → assembly < 2 ^ 32 → row < 2 ^ 32 → Lacks 32 (class_front assembly row)
front_lacks assembly row low small =
    let a = plain_lacks (decimal assembly) (decimal_plain assembly low) in
    let r = plain_lacks (decimal row) (decimal_plain row small) in
    lacks_both (codes "[" ++ decimal assembly ++ codes "]") (decimal row)
    (lacks_both (codes "[" ++ decimal assembly) (codes "]") (λ e. omega (arith, e), a) (λ e. omega (arith, e), tt)) r

commas_lack : (texts : List (List ℕ)) (types : List (List KeyPart)) → AreReadAs texts types → Lacks 32 (after_commas texts)
commas_lack [] types are = tt
commas_lack (text ∷ texts) [] are = absurd are
commas_lack (text ∷ texts) (type ∷ types) (is, are) =
    lacks_both (codes "," ++ text) (after_commas texts) (λ e. omega (arith, e), is.lacks) (commas_lack texts types are)

-- a class
class_read : (assembly row : ℕ) (texts : List (List ℕ)) (types : List (List KeyPart)) → assembly < 2 ^ 32 → row < 2 ^ 32 → length texts < 2 ^ 32 →
    AreReadAs texts types → IsReadAs (class_front assembly row ++ arguments_text texts) (Class assembly row (length texts) ∷ joined types)
class_read assembly row [] (type ∷ types) low small few are = absurd are
class_read assembly row (text ∷ texts) [] low small few are = absurd are
class_read assembly row [] [] low small few are = record {
  lacks = lacks_both (class_front assembly row) [] (front_lacks assembly row low small) tt;
  read = λ suffix outers parts after e end.
      ap (λ t. all_settled (scanned (t ++ suffix))) (append-nil (class_front assembly row))
      ∙ class_head assembly row 0 suffix outers parts after low small e end;
}
class_read assembly row (text ∷ texts) (type ∷ types) low small few (is, are) = record {
  lacks = lacks_both (class_front assembly row) (arguments_text (text ∷ texts)) (front_lacks assembly row low small)
      (lacks_both (codes "<" ++ text ++ after_commas texts) (codes ">")
      (lacks_both (codes "<" ++ text) (after_commas texts) (λ e. omega (arith, e), is.lacks) (commas_lack texts types are)) (λ e. omega (arith, e), tt));
  read = λ suffix outers parts after e end.
      let count : length texts + 1 ≡ suc (length texts) = omega arith in
      let kinds : List KeyPart = (type ++ joined types) ++ parts in
      let last : scanned (62 ∷ suffix) ≡ Some ([], ready (outer.Class 0 ∷ outers) parts) = ap (taken 62) e in
      let arguments = arguments_read text texts type types (62 ∷ suffix) outers parts is are (omega (arith, few)) last in
      let first : scanned (60 ∷ (text ++ (after_commas texts ++ (62 ∷ suffix)))) ≡ Some ([], record { row = None; args = suc (length texts); outers = outers; parts = kinds }) =
      angle_taken (scanned (text ++ (after_commas texts ++ (62 ∷ suffix)))) (ready (outer.Class (length texts + 1) ∷ outers) kinds) _ arguments
      (ap (λ n. Some (record { row = None; args = n; outers = outers; parts = kinds })) count) in
      ap (λ t. all_settled (scanned t)) (class_joined (class_front assembly row) text (after_commas texts) suffix)
      ∙ class_head assembly row (suc (length texts)) (60 ∷ (text ++ (after_commas texts ++ (62 ∷ suffix)))) outers kinds after low small first end;
}

-- the texts that parts spell are read as the types that they are
record AreTypes (texts : List (List ℕ)) (parts : List KeyPart) : Type 0 where
  pub types : List (List KeyPart)
  pub whole : joined types ≡ parts
  pub read : AreReadAs texts types

array_types : (texts : List (List ℕ)) (types : List (List KeyPart)) (parts : List KeyPart) (n : ℕ) → length texts ≡ suc n →
    joined types ≡ parts → AreReadAs texts types → AreTypes (array_texts texts) (Vector ∷ parts)
array_types [] types parts n count whole are = absurd cc
array_types (text ∷ texts) [] parts n count whole are = absurd are
array_types (text ∷ texts) (type ∷ types) parts n count whole (is, are) = record {
  types = (Vector ∷ type) ∷ types;
  whole = ap (λ parts. Vector ∷ parts) whole;
  read = (array_read text type is, are);
}

types_read : (n : ℕ) (parts : List KeyPart) → are_types n (map key_arity parts) ≡ true → AreKeyNumbers parts → AreTypes (key_texts parts) parts
types_read n [] e numbers = record { types = []; whole = refl; read = tt }
types_read zero (part ∷ parts) e numbers = absurd cc
types_read (suc n) (Prim prim ∷ parts) e (_, numbers) =
    let more = types_read (n + 0) parts e numbers in record {
      types = (Prim prim ∷ []) ∷ more.types;
      whole = ap (λ parts. Prim prim ∷ parts) more.whole;
      read = (primitive_read prim, more.read);
    }
types_read (suc n) (Class assembly row args ∷ parts) e ((low, small, few), numbers) =
    let more = types_read (n + args) parts e numbers in
    let texts = key_texts parts in
    let count : length (take args texts) ≡ args = length-take-le args texts (omega (arith, length-key_texts (n + args) parts e)) in
    let read = class_read assembly row (take args texts) (take args more.types) low small (omega (arith, few, count)) (take_read args texts more.types more.read) in record {
      types = (Class assembly row args ∷ joined (take args more.types)) ∷ drop args more.types;
      whole = ap (λ parts. Class assembly row args ∷ parts) (joined_parted args more.types ∙ more.whole);
      read = (
        subst (λ n. IsReadAs (class_front assembly row ++ arguments_text (take args texts)) (Class assembly row n ∷ joined (take args more.types))) count read,
        drop_read args texts more.types more.read,
      );
    }
types_read (suc n) (Vector ∷ parts) e (_, numbers) =
    let more = types_read (n + 1) parts e numbers in
    array_types (key_texts parts) more.types parts n (length-key_texts (n + 1) parts e ∙ omega arith) more.whole more.read

-- the text of the one type that a key is
record IsKeyText (text : List ℕ) (key : List KeyPart) : Type 0 where
  pub lacks : Lacks 32 text
  pub read : parts_read text ≡ Some key

one_type : (texts : List (List ℕ)) (types : List (List KeyPart)) (key : List KeyPart) → length texts ≡ 1 → joined types ≡ key → AreReadAs texts types →
    IsKeyText (get_or texts 0 []) key
one_type [] types key count whole are = absurd cc
one_type (text ∷ other ∷ texts) types key count whole are = absurd cc
one_type (text ∷ []) [] key count whole are = absurd are
one_type (text ∷ []) (type ∷ other ∷ types) key count whole are = absurd are.1
one_type (text ∷ []) (type ∷ []) key count whole are = record {
  lacks = are.0.lacks;
  read =
      ap (λ t. option_map (λ (draft : KeyDraft). draft.parts) (all_settled (scanned t))) (sym (append-nil text))
      ∙ ap (option_map (λ (draft : KeyDraft). draft.parts)) (are.0.read [] [] [] (ready [] (type ++ [])) refl refl)
      ∙ ap Some whole;
}

key_is_text : (key : List KeyPart) → IsTypeKey key → AreKeyNumbers key → IsKeyText (key_text key) key
key_is_text key is numbers =
    let types = types_read 1 key is.0 numbers in
    one_type (key_texts key) types.types key (length-key_texts 1 key is.0) types.whole types.read

key_kept : (key : List KeyPart) → IsTypeKey key → if_key key ≡ Some key
key_kept key is = rw (is.0, is.1) refl

-- the text of a key is read as the key
pub key_spelled : (key : List KeyPart) (tail : List ℕ) → IsTypeKey key → AreKeyNumbers key → IsTail tail →
    key_read (key_text key ++ tail) ≡ Some (key, drop 1 tail)
key_spelled key tail is numbers ends =
    let text = key_is_text key is numbers in
    valued_spelled key_of 32 (key_text key) tail key text.lacks (tail_begins tail ends)
    (ap (option_and_then if_key) text.read ∙ key_kept key is)

-- what holds of what is read next
some_then : {A B : Type 0} (P : A → Type 0) (Q : B → Type 0) (next : A → Option B) (there : Option A) →
    IfSome there P → ((a : A) → P a → IfSome (next a) Q) → IfSome (option_and_then next there) Q
some_then P Q next None holds follows = tt
some_then P Q next (Some a) holds follows = follows a holds

some_from : {A : Type 0} (P : A → Type 0) (there : Option A) → ((a : A) → there ≡ Some a → P a) → IfSome there P
some_from P None holds = tt
some_from P (Some a) holds = holds a refl

abbrev IsOuterSmall : Outer → Type 0
IsOuterSmall outer.Array = Unit {0}
IsOuterSmall (outer.Class args) = args < 2 ^ 32

-- all numbers are of 32 bits
record IsSmall (draft : KeyDraft) : Type 0 where
  pub row : IfSome draft.row (λ row. row < 2 ^ 32)
  pub args : draft.args < 2 ^ 32
  pub outers : AllByRecursion IsOuterSmall draft.outers
  pub parts : AreKeyNumbers draft.parts

ready_small : (outers : List Outer) (parts : List KeyPart) → AllByRecursion IsOuterSmall outers → AreKeyNumbers parts → IsSmall (ready outers parts)
ready_small outers parts around numbers = record { row = tt; args = omega arith; outers = around; parts = numbers }

closed_small : (outers : List Outer) (parts : List KeyPart) → AllByRecursion IsOuterSmall outers → AreKeyNumbers parts → IfSome (closed outers parts) IsSmall
closed_small [] parts around numbers = ready_small [] parts tt numbers
closed_small (outer.Array ∷ outers) parts (_, around) numbers = closed_small outers (Vector ∷ parts) around (tt, numbers)
closed_small (outer.Class args ∷ outers) parts (_, around) numbers =
    cond_both (nat_lt (args + 1) (2 ^ 32)) (Some (ready (outer.Class (args + 1) ∷ outers) parts)) None (λ there. IfSome there IsSmall)
    (λ e. ready_small (outer.Class (args + 1) ∷ outers) parts (ltb-true (args + 1) (2 ^ 32) e, around) numbers)
    (λ _. tt)

settled_small : (word : List ℕ) (draft : KeyDraft) → IsSmall draft → IfSome (settled word draft) IsSmall
settled_small [] draft small = small
settled_small (byte ∷ word) draft small =
    some_then (λ _. Unit {0}) IsSmall (λ prim. closed draft.outers (Prim prim ∷ draft.parts)) (primitive_named (byte ∷ word))
    (some_from (λ _. Unit {0}) (primitive_named (byte ∷ word)) (λ _ _. tt))
    (λ prim _. closed_small draft.outers (Prim prim ∷ draft.parts) small.outers (tt, small.parts))

opened_small : (row : Option ℕ) (word : List ℕ) (draft : KeyDraft) → IfSome row (λ row. row < 2 ^ 32) → IsSmall draft → IfSome (opened row word draft) IsSmall
opened_small None word draft low small = ready_small (outer.Array ∷ draft.outers) draft.parts (tt, small.outers) small.parts
opened_small (Some row) word draft low small =
    some_then (λ assembly. assembly < 2 ^ 32) IsSmall (λ assembly. closed draft.outers (Class assembly row draft.args ∷ draft.parts)) (parsed 32 word)
    (some_from (λ assembly. assembly < 2 ^ 32) (parsed 32 word) (parsed_small 32 word))
    (λ assembly own. closed_small draft.outers (Class assembly row draft.args ∷ draft.parts) small.outers ((own, low, small.args), small.parts))

counted_small : (outers : List Outer) (parts : List KeyPart) → AllByRecursion IsOuterSmall outers → AreKeyNumbers parts → IfSome (counted outers parts) IsSmall
counted_small [] parts around numbers = tt
counted_small (outer.Array ∷ outers) parts around numbers = tt
counted_small (outer.Class args ∷ outers) parts (few, around) numbers = record { row = tt; args = few; outers = around; parts = numbers }

marked_small : (mark : ℕ) (word : List ℕ) (draft : KeyDraft) → IsSmall draft → IfSome (marked mark word draft) IsSmall
marked_small mark word draft small =
    let own : Option KeyDraft → Type 0 = λ there. IfSome there IsSmall in
    let settles = settled_small word draft small in
    let begins = some_then IsSmall IsSmall (λ draft. counted draft.outers draft.parts) (settled word draft) settles (λ draft small. counted_small draft.outers draft.parts small.outers small.parts) in
    let ends = ready_small (outer.Class 0 ∷ draft.outers) draft.parts (omega arith, small.outers) small.parts in
    let numbered : IsSmall (record { row = parsed 32 word; args = draft.args; outers = draft.outers; parts = draft.parts }) = record { row = some_from (λ row. row < 2 ^ 32) (parsed 32 word) (parsed_small 32 word); args = small.args; outers = small.outers; parts = small.parts } in
    cond_both (mark == 44) _ _ own (λ _. settles) (λ _.
    cond_both (mark == 60) _ _ own (λ _. begins) (λ _.
    cond_both (mark == 62) _ _ own (λ _. ends) (λ _.
    cond_both (mark == 91) _ _ own (λ _. opened_small draft.row word draft small.row small) (λ _. numbered))))

wordless_small : (there : Option KeyDraft) → IfSome there IsSmall → IfSome (wordless there) (λ read. IsSmall read.1)
wordless_small None small = tt
wordless_small (Some draft) small = small

stepped_small : (byte : ℕ) (word : List ℕ) (draft : KeyDraft) → IsSmall draft → IfSome (stepped byte word draft) (λ read. IsSmall read.1)
stepped_small byte word draft small =
    cond_both (is_mark byte) (wordless (marked byte word draft)) (Some (byte ∷ word, draft)) (λ there. IfSome there (λ read. IsSmall read.1))
    (λ _. wordless_small (marked byte word draft) (marked_small byte word draft small))
    (λ _. small)

scanned_small : (text : List ℕ) → IfSome (scanned text) (λ read. IsSmall read.1)
scanned_small [] = ready_small [] [] tt tt
scanned_small (byte ∷ text) =
    some_then (λ read. IsSmall read.1) (λ read. IsSmall read.1) (λ read. stepped byte read.0 read.1) (scanned text) (scanned_small text)
    (λ read small. stepped_small byte read.0 read.1 small)

parts_small : (there : Option KeyDraft) → IfSome there IsSmall → IfSome (option_map (λ draft. draft.parts) there) AreKeyNumbers
parts_small None small = tt
parts_small (Some draft) small = small.parts

abbrev IsRange : List KeyPart → Type 0
IsRange key = IsTypeKey key × AreKeyNumbers key

if_key_range : (parts : List KeyPart) → AreKeyNumbers parts → IfSome (if_key parts) IsRange
if_key_range parts numbers =
    let whole = are_types 1 (map key_arity parts) in
    cond_both (whole && list_all is_proper parts) (Some parts) None (λ there. IfSome there IsRange)
    (λ e. (and_parts whole (list_all is_proper parts) e, numbers))
    (λ _. tt)

key_of_range : (word : List ℕ) → IfSome (key_of word) IsRange
key_of_range word =
    let drafts = some_then (λ read. IsSmall read.1) IsSmall (λ read. settled read.0 read.1) (scanned word) (scanned_small word) (λ read small. settled_small read.0 read.1 small) in
    some_then AreKeyNumbers IsRange if_key (parts_read word) (parts_small (all_settled (scanned word)) drafts) if_key_range

-- what is read is a key
pub key_in_range : (text : List ℕ) (key : List KeyPart) (rest : List ℕ) → key_read text ≡ Some (key, rest) → IsTypeKey key × AreKeyNumbers key
key_in_range text key rest read =
    subst (λ there. IfSome there IsRange) (valued_is key_of (word_read text) key rest read) (key_of_range (word_read text).0)

-- a byte that is no mark stands before a word
pub word_goes_on : (text : List ℕ) (at end : ℕ) (draft : KeyDraft) → at < end → end ≤ length text → is_mark (get_or text at 0) ≡ false →
    stepped (get_or text at 0) (take (end - (at + 1)) (drop (at + 1) text)) draft ≡ Some (take (end - at) (drop at text), draft)
word_goes_on text at end draft before within plain =
    let byte = get_or text at 0 in
    let next : suc at ≡ at + 1 = omega arith in
    let here : drop at text ≡ byte ∷ drop (at + 1) text = drop-cons text at 0 (omega (arith, before, within)) ∙ ap (λ k. byte ∷ drop k text) next in
    let count : end - at ≡ suc (end - (at + 1)) = omega (arith, before) in
    rw plain (ap (λ bytes. Some (bytes, draft)) (sym (ap (λ k. take k (drop at text)) count ∙ ap (take (suc (end - (at + 1)))) here)))

-- what is refused from some place on is refused
none_from : (n : ℕ) (text : List ℕ) → scanned (drop n text) ≡ None → scanned text ≡ None
none_from zero text e = e
none_from (suc n) [] e = e
none_from (suc n) (byte ∷ text) e = ap (taken byte) (none_from n text e)

-- nothing is read, unless memory was wanting
abbrev pub Fails : {V : Type 0} → Unread → Option V → Type 0
Fails Differs there = there ≡ None
Fails OutOfMemory there = Unit {0}

-- what is refused at a byte is refused
pub refused : (text : List ℕ) (at end : ℕ) (draft : KeyDraft) (unread : Unread) →
    0 < at → at ≤ length text → scanned (drop at text) ≡ Some (take (end - at) (drop at text), draft) →
    Fails unread (stepped (get_or text (at - 1) 0) (take (end - ((at - 1) + 1)) (drop ((at - 1) + 1) text)) draft) →
    Fails unread (parts_read text)
refused text at end draft OutOfMemory some within e fails = tt
refused text at end draft Differs some within e fails =
    let byte = get_or text (at - 1) 0 in
    let back : (at - 1) + 1 ≡ at = omega (arith, some) in
    let next : suc (at - 1) ≡ at = omega (arith, some) in
    let here : drop (at - 1) text ≡ byte ∷ drop at text = drop-cons text (at - 1) 0 (omega (arith, some, within)) ∙ ap (λ k. byte ∷ drop k text) next in
    let none : scanned (drop (at - 1) text) ≡ None =
    ap scanned here ∙ ap (taken byte) e ∙ sym (ap (λ k. stepped byte (take (end - k) (drop k text)) draft) back) ∙ fails in
    ap (λ read. option_map (λ (draft : KeyDraft). draft.parts) (all_settled read)) (none_from (at - 1) text none)
