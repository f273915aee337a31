-- What is read is spelled by the bytes that the reading took.
use Rattle.std.proofs.Common.{◌≡◌, ℕ, zero, suc, ◌+◌, ◌%◌, ◌⊎◌, inl, inr, ◌||◌, Bool, true, false, cond, List, [], ◌∷◌, ◌++◌, length, take, drop, Option, Some, None, Result, Ok, Err, refl, sym, ap, ◌∙◌, subst, append_assoc, arith}
use Rattle.std.specs.Prelude.{MatchOption, ◌==◌}
use Rattle.std.specs.Option.{option_map_or}
use Rattle.std.proofs.lemmas.List.{take-append-drop, append-nil}
use Rattle.std.proofs.lemmas.Bool.{eqb-true, eqb-false, or_cases}
use Rattle.std.proofs.lemmas.Option.{cond_some}
use Rattle.cli_words.specs.Compressed.{Spells, number_at_front}
use Rattle.cli_words.proofs.Spelled.{told_at}
use Rattle.signatures.specs.declared.feature.Feature.TheVariants.{ValueType, GenericMethod, Varargs}
use Rattle.signatures.specs.declared.fault.Stop.{Stop}
use Rattle.signatures.specs.declared.fault.Stop.TheVariants.{Bad, Feature}
use Rattle.signatures.specs.declared.sig.SigPart.{SigPart}
use Rattle.signatures.specs.declared.sig.SigPart.TheVariants.{Prim, Class, Var, Inst, Vector}
use Rattle.signatures.specs.declared.sig.MethodSig.{MethodSig}
use Rattle.signatures.specs.declared.element.Element.{Element}
use Rattle.signatures.specs.declared.element.Element.TheVariants as element
use Rattle.signatures.specs.Types.{arity, are_types}
use Rattle.signatures.specs.Elements.{element_of, void_byte, class_byte, value_type_byte, cmod_reqd, cmod_opt}
use Rattle.signatures.specs.Kinds.{field_kind, locals_kind, head_of, default_head, default_this_head, generic_head, generic_this_head, vararg_head, vararg_this_head}
use Rattle.signatures.specs.Grammar.{Reading, ◌>>=◌, nothing_at, after_number, number_at, class_at, past_modifier, after_modifiers, modifiers_at, generic_at, begun, bare_part_at, part_at, types_at, type_at, bare_result_at, result_at, sigs_at, after_kind, head_at, method_at, locals_at, field_at}
use Rattle.signatures.specs.Spelling.{SpellsClass, SpellsModifiers, AreModifiers, SpellsPart, SpellsParts, SpellsType, SpellsTypes, SpellsResult, SpellsField, SpellsLocals, SpellsMethod}
use Rattle.signatures.specs.Signatures.{whole}
use Rattle.signatures.specs.Laws.{AreBytes}
use Rattle.signatures.proofs.Loops.{bind_ok, ok_pair, types-whole}

-- a front of the bytes is a spelling of the value, and the rest follows it
abbrev pub Takes : {A : Type 0} → (A → List ℕ → Type 0) → List ℕ → A → List ℕ → Type 0
Takes Spelled bytes value rest = (front : List ℕ) × Spelled value front × (bytes ≡ front ++ rest)

pub bytes-rest : (front rest : List ℕ) → AreBytes (front ++ rest) → AreBytes rest
bytes-rest [] rest small = small
bytes-rest (x ∷ front) rest small = bytes-rest front rest (λ k. small (suc k))

pub bytes-after : (bytes front rest : List ℕ) → bytes ≡ front ++ rest → AreBytes bytes → AreBytes rest
bytes-after bytes front rest e small = bytes-rest front rest (subst AreBytes e small)

-- a guard let a value through
pub guard_ok : {A : Type 0} (b : Bool) (stop : Stop) (x y : A) → ◌≡◌ {A = Result A Stop} (cond b (Err stop) (Ok x)) (Ok y) → (b ≡ false) × (x ≡ y)
guard_ok true stop x y h = absurd cc
guard_ok {A} false stop x y h =
    let value : Result A Stop → A = λ r. elim r [ Ok z ↦ z | Err stop ↦ x ] in (refl, ap value h)

both_stop : {A : Type 0} (b : Bool) (stop other : Stop) (x : A) → ¬ ◌≡◌ {A = Result A Stop} (cond b (Err stop) (Err other)) (Ok x)
both_stop true stop other x h = absurd cc
both_stop false stop other x h = absurd cc

number_found : (bytes rest : List ℕ) (n : ℕ) (found : Option (ℕ × ℕ)) → MatchOption found ((m : ℕ) (taken : ℕ) → ¬ Spells (take taken bytes) m) (λ it. Spells (take it.1 bytes) it.0)
    → after_number bytes found ≡ Ok (n, rest) → Takes (λ n front. Spells front n) bytes n rest
number_found bytes rest n None told h = absurd cc
number_found bytes rest n (Some it) told h =
    let e = ok_pair it.0 n (drop it.1 bytes) rest _ refl h in
    (take it.1 bytes, subst (λ m. Spells (take it.1 bytes) m) e.0 told, sym (take-append-drop it.1 bytes) ∙ ap (λ (zs : List ℕ). take it.1 bytes ++ zs) e.1)

pub number-found : (bytes rest : List ℕ) (n : ℕ) → AreBytes bytes → number_at bytes ≡ Ok (n, rest) → Takes (λ n front. Spells front n) bytes n rest
unfolding number_at
number-found bytes rest n small h = number_found bytes rest n (number_at_front bytes) (told_at bytes 0 (number_at_front bytes) small refl) h

pub same_ok : {A : Type 0} (x y : A) → ◌≡◌ {A = Result A Stop} (Ok x) (Ok y) → x ≡ y
same_ok {A} x y h = let value : Result A Stop → A = λ r. elim r [ Ok z ↦ z | Err stop ↦ x ] in ap value h

pub bind_pair : {A B : Type 0} (r : Reading A) (f : A × List ℕ → Result B Stop) (y : B) → (r >>= f) ≡ Ok y → (x : A) × (rest : List ℕ) × (r ≡ Ok (x, rest)) × (f (x, rest) ≡ Ok y)
bind_pair (Ok (x, rest)) f y h = (x, rest, refl, h)
bind_pair (Err stop) f y h = absurd cc

pub takes-same : {A : Type 0} (P : A → List ℕ → Type 0) (bytes : List ℕ) (x y : A) (r s : List ℕ) → ◌≡◌ {A = Reading A} (Ok (x, r)) (Ok (y, s)) → Takes P bytes x r → Takes P bytes y s
takes-same P bytes x y r s h t =
    let e = ok_pair x y r s _ refl h in
    subst (λ z. Takes P bytes z s) e.0 (subst (λ z. Takes P bytes x z) e.1 t)

pub class-found : (bytes rest : List ℕ) (n : ℕ) → AreBytes bytes → class_at bytes ≡ Ok (n, rest) → Takes (λ n front. SpellsClass front n) bytes n rest
unfolding class_at
class-found bytes rest n small h =
    let a = bind_pair (number_at bytes) _ _ h in
    let g = guard_ok (a.0 % 4 == 3) _ (a.0, a.1) (n, rest) a.3 in
    let t = number-found bytes a.1 a.0 small a.2 in
    takes-same (λ n front. SpellsClass front n) bytes a.0 n a.1 rest (ap (λ x. Ok x) g.1) (t.0, (t.1, eqb-false (a.0 % 4) 3 g.0), t.2)

pub past_modifier-found : (bytes after : List ℕ) → past_modifier bytes ≡ Some after → (byte : ℕ) × ((byte ≡ 0x1F) ⊎ (byte ≡ 0x20)) × (bytes ≡ byte ∷ after)
past_modifier-found [] after h = absurd cc
past_modifier-found (byte ∷ bytes) after h =
    let e = cond_some _ bytes after h in
    let begins : (byte ≡ 0x1F) ⊎ (byte ≡ 0x20) =
    elim (or_cases (byte == 0x1F) (byte == 0x20) e.0) [ inl x ↦ inl (eqb-true byte 0x1F x) | inr x ↦ inr (eqb-true byte 0x20 x) ] in
    (byte, begins, ap (λ (zs : List ℕ). byte ∷ zs) e.1)

-- the bytes after modifiers
abbrev pub TakesModifiers : List ℕ → List ℕ → Type 0
TakesModifiers bytes rest = (front : List ℕ) × AreModifiers front × (bytes ≡ front ++ rest)

pub modifiers_found : (steps : ℕ) (bytes rest : List ℕ) → AreBytes bytes → after_modifiers steps bytes ≡ Ok rest → TakesModifiers bytes rest
unfolding after_modifiers
modifiers_found zero bytes rest small h = ([], (0, refl), same_ok bytes rest h)
modifiers_found (suc steps) bytes rest small h =
    elim (past_modifier bytes) as (λ o. past_modifier bytes ≡ o → option_map_or (λ after. class_at after >>= λ class. after_modifiers steps class.1) o (Ok bytes) ≡ Ok rest → TakesModifiers bytes rest) [
      | None ↦ λ e h. ([], (0, refl), same_ok bytes rest h)
      | Some after ↦ λ e h.
          let b = bind_pair (class_at after) _ _ h in
          let p = past_modifier-found bytes after e in
          let small_after = bytes-after bytes (p.0 ∷ []) after p.2 small in
          let c = class-found after b.1 b.0 small_after b.2 in
          let i = modifiers_found steps b.1 rest (bytes-after after c.0 b.1 c.2 small_after) b.3 in
          let joined : after ≡ (c.0 ++ i.0) ++ rest = c.2 ∙ (ap (λ (zs : List ℕ). c.0 ++ zs) i.2 ∙ sym (append_assoc c.0 i.0 rest)) in
          (p.0 ∷ (c.0 ++ i.0), (suc i.1.0, (p.0, c.0, b.0, i.0, p.1, c.1, i.1.1, refl)), p.2 ∙ ap (λ (zs : List ℕ). p.0 ∷ zs) joined)
    ] refl h

pub generic-found : (byte : ℕ) (bytes rest : List ℕ) (part : SigPart) → AreBytes bytes → element_of byte ≡ Some element.Inst → generic_at bytes ≡ Ok (part, rest) → Takes SpellsPart (byte ∷ bytes) part rest
unfolding generic_at
generic-found byte [] rest part small e h = absurd cc
generic-found byte (next ∷ bytes) rest part small e h =
    elim (next == 0x12) as (λ b. (next == 0x12) ≡ b → ◌≡◌ {A = Reading SigPart} (cond b (class_at bytes >>= λ class. (number_at class.1 >>= λ args. Ok (Inst class.0 args.0, args.1))) (cond (next == 0x11) (Err (Feature ValueType)) (nothing_at (next ∷ bytes)))) (Ok (part, rest)) → Takes SpellsPart (byte ∷ next ∷ bytes) part rest) [
      | true ↦ λ b h.
          let small_bytes : AreBytes bytes = λ k. small (suc k) in
          let x = bind_pair (class_at bytes) _ _ h in
          let c = class-found bytes x.1 x.0 small_bytes x.2 in
          let y = bind_pair (number_at x.1) _ _ x.3 in
          let n = number-found x.1 y.1 y.0 (bytes-after bytes c.0 x.1 c.2 small_bytes) y.2 in
          let joined : bytes ≡ (c.0 ++ n.0) ++ y.1 = c.2 ∙ (ap (λ (zs : List ℕ). c.0 ++ zs) n.2 ∙ sym (append_assoc c.0 n.0 y.1)) in
          takes-same SpellsPart (byte ∷ next ∷ bytes) (Inst x.0 y.0) part y.1 rest y.3
          (byte ∷ 0x12 ∷ (c.0 ++ n.0), (byte, c.0, n.0, e, c.1, n.1, refl), ap (λ (z : ℕ). byte ∷ z ∷ bytes) (eqb-true next 0x12 b) ∙ ap (λ (zs : List ℕ). byte ∷ 0x12 ∷ zs) joined)
      | false ↦ λ b h. absurd (both_stop (next == 0x11) _ _ _ h)
    ] refl h

pub bare_part-found : (bytes rest : List ℕ) (part : SigPart) → AreBytes bytes → bare_part_at bytes ≡ Ok (part, rest) → Takes SpellsPart bytes part rest
unfolding bare_part_at
bare_part-found [] rest part small h = absurd cc
bare_part-found (byte ∷ bytes) rest part small h = begun-found (element_of byte) refl h where
  begun-found : (o : Option Element) → element_of byte ≡ o → begun (byte ∷ bytes) o bytes ≡ Ok (part, rest) → Takes SpellsPart (byte ∷ bytes) part rest
  begun-found None e h = absurd cc
  begun-found (Some (element.Feature name)) e h = absurd cc
  begun-found (Some (element.Prim prim)) e h = takes-same SpellsPart (byte ∷ bytes) (Prim prim) part bytes rest h (byte ∷ [], (byte, e, refl), refl)
  begun-found (Some element.Vector) e h = takes-same SpellsPart (byte ∷ bytes) Vector part bytes rest h (byte ∷ [], (byte, e, refl), refl)
  begun-found (Some element.Class) e h =
      let x = bind_pair (class_at bytes) _ _ h in
      let c = class-found bytes x.1 x.0 (λ k. small (suc k)) x.2 in
      takes-same SpellsPart (byte ∷ bytes) (Class x.0) part x.1 rest x.3 (byte ∷ c.0, (byte, c.0, e, c.1, refl), ap (λ (zs : List ℕ). byte ∷ zs) c.2)
  begun-found (Some element.Var) e h =
      let x = bind_pair (number_at bytes) _ _ h in
      let c = number-found bytes x.1 x.0 (λ k. small (suc k)) x.2 in
      takes-same SpellsPart (byte ∷ bytes) (Var x.0) part x.1 rest x.3 (byte ∷ c.0, (byte, c.0, e, c.1, refl), ap (λ (zs : List ℕ). byte ∷ zs) c.2)
  begun-found (Some element.Inst) e h = generic-found byte bytes rest part (λ k. small (suc k)) e h

-- the bytes after a part, and modifiers before it
abbrev pub TakesPart : List ℕ → SigPart → List ℕ → Type 0
TakesPart bytes part rest =
    (modifiers : List ℕ) × (own : List ℕ) × AreModifiers modifiers × SpellsPart part own × (bytes ≡ modifiers ++ (own ++ rest))

pub part-found : (bytes rest : List ℕ) (part : SigPart) → AreBytes bytes → part_at bytes ≡ Ok (part, rest) → TakesPart bytes part rest
unfolding part_at
part-found bytes rest part small h =
    let a = bind_ok (modifiers_at bytes) _ _ h in
    let m = modifiers_found (length bytes) bytes a.0 small a.1 in
    let b = bare_part-found a.0 rest part (bytes-after bytes m.0 a.0 m.2 small) a.2 in
    (m.0, b.0, m.1, b.1, m.2 ∙ ap (λ (zs : List ℕ). m.0 ++ zs) b.2)

pub types-found : (steps n : ℕ) (bytes rest : List ℕ) (parts : List SigPart) → AreBytes bytes → types_at steps n bytes ≡ Ok (parts, rest) → Takes SpellsParts bytes parts rest
unfolding types_at
types-found steps zero bytes rest parts small h = takes-same SpellsParts bytes [] parts bytes rest h ([], refl, refl)
types-found zero (suc n) bytes rest parts small h = absurd cc
types-found (suc steps) (suc n) bytes rest parts small h =
    let a = bind_pair (part_at bytes) _ _ h in
    let b = bind_pair (types_at steps (n + arity a.0) a.1) _ _ a.3 in
    let p = part-found bytes a.1 a.0 small a.2 in
    let front : bytes ≡ (p.0 ++ p.1) ++ a.1 = p.4 ∙ sym (append_assoc p.0 p.1 a.1) in
    let i = types-found steps (n + arity a.0) a.1 b.1 b.0 (bytes-after bytes (p.0 ++ p.1) a.1 front small) b.2 in
    let joined : bytes ≡ (p.0 ++ (p.1 ++ i.0)) ++ b.1 =
    p.4 ∙ (ap (λ (zs : List ℕ). p.0 ++ (p.1 ++ zs)) i.2 ∙ (ap (λ (zs : List ℕ). p.0 ++ zs) (sym (append_assoc p.1 i.0 b.1)) ∙ sym (append_assoc p.0 (p.1 ++ i.0) b.1))) in
    takes-same SpellsParts bytes (a.0 ∷ b.0) parts b.1 rest b.3
    (p.0 ++ (p.1 ++ i.0), (p.0, p.1, i.0, p.2, p.3, i.1, refl), joined)

pub type-found : (bytes rest : List ℕ) (sig : List SigPart) → AreBytes bytes → type_at bytes ≡ Ok (sig, rest) → Takes SpellsType bytes sig rest
unfolding type_at
type-found bytes rest sig small h =
    let t = types-found (length bytes) 1 bytes rest sig small h in
    (t.0, (types-whole (length bytes) 1 bytes rest sig h, t.1), t.2)

modifiers-append : (count : ℕ) (xs ys : List ℕ) → SpellsModifiers count xs → AreModifiers ys → AreModifiers (xs ++ ys)
modifiers-append zero xs ys h m = subst (λ zs. AreModifiers (zs ++ ys)) (sym h) m
modifiers-append (suc count) xs ys h m =
    let i = modifiers-append count h.3 ys h.6 m in
    (suc i.0, (h.0, h.1, h.2, h.3 ++ ys, h.4, h.5, i.1, ap (λ (zs : List ℕ). zs ++ ys) h.7 ∙ ap (λ (zs : List ℕ). h.0 ∷ zs) (append_assoc h.1 h.3 ys)))

-- modifiers may stand before any type
pub type-after : (sig : List SigPart) (modifiers bytes : List ℕ) → AreModifiers modifiers → SpellsType sig bytes → SpellsType sig (modifiers ++ bytes)
type-after [] modifiers bytes m h = absurd (no_sig h.0) where
  no_sig : ¬ (are_types 1 [] ≡ true)
  no_sig h = absurd cc
type-after (part ∷ parts) modifiers bytes m h =
    let p = h.1 in
    (h.0, (modifiers ++ p.0, p.1, p.2, modifiers-append m.0 modifiers p.0 m.1 p.3, p.4, p.5, ap (λ (zs : List ℕ). modifiers ++ zs) p.6 ∙ sym (append_assoc modifiers p.0 (p.1 ++ p.2))))

bare_result-found : (modifiers bytes rest : List ℕ) (result : Option (List SigPart)) → AreModifiers modifiers → AreBytes bytes → bare_result_at bytes ≡ Ok (result, rest) → Takes SpellsResult (modifiers ++ bytes) result rest
bare_result-found modifiers [] rest result m small h = absurd cc
bare_result-found modifiers (byte ∷ bytes) rest result m small h =
    elim (byte == 0x01) as (λ b. (byte == 0x01) ≡ b → ◌≡◌ {A = Reading (Option (List SigPart))} (cond b (Ok (None, bytes)) (type_at (byte ∷ bytes) >>= λ type. Ok (Some type.0, type.1))) (Ok (result, rest)) → Takes SpellsResult (modifiers ++ byte ∷ bytes) result rest) [
      | true ↦ λ e h.
          takes-same SpellsResult (modifiers ++ byte ∷ bytes) None result bytes rest h
          (modifiers ++ 0x01 ∷ [], (modifiers, m, refl), ap (λ (z : ℕ). modifiers ++ z ∷ bytes) (eqb-true byte 0x01 e) ∙ sym (append_assoc modifiers (0x01 ∷ []) bytes))
      | false ↦ λ e h.
          let a = bind_pair (type_at (byte ∷ bytes)) _ _ h in
          let t = type-found (byte ∷ bytes) a.1 a.0 small a.2 in
          takes-same SpellsResult (modifiers ++ byte ∷ bytes) (Some a.0) result a.1 rest a.3
          (modifiers ++ t.0, type-after a.0 modifiers t.0 m t.1, ap (λ (zs : List ℕ). modifiers ++ zs) t.2 ∙ sym (append_assoc modifiers t.0 a.1))
    ] refl h

pub result-found : (bytes rest : List ℕ) (result : Option (List SigPart)) → AreBytes bytes → result_at bytes ≡ Ok (result, rest) → Takes SpellsResult bytes result rest
unfolding result_at
result-found bytes rest result small h =
    let a = bind_ok (modifiers_at bytes) _ _ h in
    let m = modifiers_found (length bytes) bytes a.0 small a.1 in
    subst (λ zs. Takes SpellsResult zs result rest) (sym m.2) (bare_result-found m.0 a.0 rest result m.1 (bytes-after bytes m.0 a.0 m.2 small) a.2)

pub sigs-found : (count : ℕ) (bytes rest : List ℕ) (sigs : List (List SigPart)) → AreBytes bytes → sigs_at count bytes ≡ Ok (sigs, rest) → Takes (λ sigs front. (length sigs ≡ count) × SpellsTypes sigs front) bytes sigs rest
unfolding sigs_at
sigs-found zero bytes rest sigs small h = takes-same (λ sigs front. (length sigs ≡ 0) × SpellsTypes sigs front) bytes [] sigs bytes rest h ([], (refl, refl), refl)
sigs-found (suc count) bytes rest sigs small h =
    let a = bind_pair (type_at bytes) _ _ h in
    let b = bind_pair (sigs_at count a.1) _ _ a.3 in
    let t = type-found bytes a.1 a.0 small a.2 in
    let i = sigs-found count a.1 b.1 b.0 (bytes-after bytes t.0 a.1 t.2 small) b.2 in
    takes-same (λ sigs front. (length sigs ≡ suc count) × SpellsTypes sigs front) bytes (a.0 ∷ b.0) sigs b.1 rest b.3
    (t.0 ++ i.0, (ap (λ (k : ℕ). suc k) i.1.0, (t.0, i.0, t.1, i.1.1, refl)), t.2 ∙ (ap (λ (zs : List ℕ). t.0 ++ zs) i.2 ∙ sym (append_assoc t.0 i.0 b.1)))

pub kind-found : (kind : ℕ) (bytes rest : List ℕ) → after_kind kind bytes ≡ Ok rest → bytes ≡ kind ∷ rest
unfolding after_kind
kind-found kind [] rest h = absurd cc
kind-found kind (byte ∷ bytes) rest h =
    elim (byte == kind) as (λ b. (byte == kind) ≡ b → cond b (Ok bytes) (nothing_at (byte ∷ bytes)) ≡ Ok rest → byte ∷ bytes ≡ kind ∷ rest) [
      | true ↦ λ e h. ap (λ (z : ℕ). z ∷ bytes) (eqb-true byte kind e) ∙ ap (λ (zs : List ℕ). kind ∷ zs) (same_ok bytes rest h)
      | false ↦ λ e h. absurd cc
    ] refl h

pub field-found : (bytes rest : List ℕ) (sig : List SigPart) → AreBytes bytes → field_at bytes ≡ Ok (sig, rest) → Takes SpellsField bytes sig rest
unfolding field_at
field-found bytes rest sig small h =
    let a = bind_ok (after_kind field_kind bytes) _ _ h in
    let k = kind-found field_kind bytes a.0 a.1 in
    let t = type-found a.0 rest sig (bytes-after bytes (field_kind ∷ []) a.0 k small) a.2 in
    (field_kind ∷ t.0, (t.0, t.1, refl), k ∙ ap (λ (zs : List ℕ). field_kind ∷ zs) t.2)

pub locals-found : (bytes rest : List ℕ) (sigs : List (List SigPart)) → AreBytes bytes → locals_at bytes ≡ Ok (sigs, rest) → Takes SpellsLocals bytes sigs rest
unfolding locals_at
locals-found bytes rest sigs small h =
    let a = bind_ok (after_kind locals_kind bytes) _ _ h in
    let k = kind-found locals_kind bytes a.0 a.1 in
    let small_rest = bytes-after bytes (locals_kind ∷ []) a.0 k small in
    let b = bind_pair (number_at a.0) _ _ a.2 in
    let n = number-found a.0 b.1 b.0 small_rest b.2 in
    let t = sigs-found b.0 b.1 rest sigs (bytes-after a.0 n.0 b.1 n.2 small_rest) b.3 in
    let joined : a.0 ≡ (n.0 ++ t.0) ++ rest = n.2 ∙ (ap (λ (zs : List ℕ). n.0 ++ zs) t.2 ∙ sym (append_assoc n.0 t.0 rest)) in
    (locals_kind ∷ (n.0 ++ t.0), (n.0, t.0, subst (λ m. Spells n.0 m) (sym t.1.0) n.1, t.1.1, refl), k ∙ ap (λ (zs : List ℕ). locals_kind ∷ zs) joined)

pub chosen : {A : Type 0} (b : Bool) (x y z : A) → cond b x y ≡ z → ((b ≡ true) × (x ≡ z)) ⊎ (y ≡ z)
chosen true x y z h = inl (refl, h)
chosen false x y z h = inr h

no_head : {A : Type 0} (b d : Bool) (x y z : Stop) (value : A) → ¬ ◌≡◌ {A = Result A Stop} (cond b (Err x) (cond d (Err y) (Err z))) (Ok value)
no_head true d x y z value h = absurd cc
no_head false d x y z value h = both_stop d y z value h

pub head-found : (bytes rest : List ℕ) (has_this : Bool) → head_at bytes ≡ Ok (has_this, rest) → bytes ≡ head_of has_this ∷ rest
unfolding head_at
head-found [] rest has_this h = absurd cc
head-found (byte ∷ bytes) rest has_this h =
    let Goal : Bool → List ℕ → Type 0 = λ this after. byte ∷ bytes ≡ head_of this ∷ after in
    let ends : (this : Bool) → byte ≡ head_of this → ◌≡◌ {A = Reading Bool} (Ok (this, bytes)) (Ok (has_this, rest)) → Goal has_this rest =
    λ this e k.
    let p = ok_pair this has_this bytes rest _ refl k in
    let front : byte ∷ bytes ≡ head_of this ∷ bytes = ap (λ (z : ℕ). z ∷ bytes) e in
    subst (λ z. byte ∷ bytes ≡ head_of has_this ∷ z) p.1 (subst (λ z. byte ∷ bytes ≡ head_of z ∷ bytes) p.0 front) in
    elim (chosen (byte == 0x00) _ _ _ h) [
      | inl p ↦ ends false (eqb-true byte 0x00 p.0) p.1
      | inr others ↦ elim (chosen (byte == 0x20) _ _ _ others) [
        | inl p ↦ ends true (eqb-true byte 0x20 p.0) p.1
        | inr none ↦ absurd (no_head ((byte == 0x10) || (byte == 0x30)) ((byte == 0x05) || (byte == 0x25)) (Feature GenericMethod) (Feature Varargs) (Bad (length (byte ∷ bytes))) (has_this, rest) none)
      ]
    ]

pub method-found : (bytes rest : List ℕ) (sig : MethodSig) → AreBytes bytes → method_at bytes ≡ Ok (sig, rest) → Takes SpellsMethod bytes sig rest
unfolding method_at
method-found bytes rest sig small h =
    let a = bind_pair (head_at bytes) _ _ h in
    let head = head-found bytes a.1 a.0 a.2 in
    let small_a = bytes-after bytes (head_of a.0 ∷ []) a.1 head small in
    let b = bind_pair (number_at a.1) _ _ a.3 in
    let n = number-found a.1 b.1 b.0 small_a b.2 in
    let small_b = bytes-after a.1 n.0 b.1 n.2 small_a in
    let c = bind_pair (result_at b.1) _ _ b.3 in
    let r = result-found b.1 c.1 c.0 small_b c.2 in
    let d = bind_pair (sigs_at b.0 c.1) _ _ c.3 in
    let t = sigs-found b.0 c.1 d.1 d.0 (bytes-after b.1 r.0 c.1 r.2 small_b) d.2 in
    let types : b.1 ≡ (r.0 ++ t.0) ++ d.1 = r.2 ∙ (ap (λ (zs : List ℕ). r.0 ++ zs) t.2 ∙ sym (append_assoc r.0 t.0 d.1)) in
    let counted : a.1 ≡ (n.0 ++ (r.0 ++ t.0)) ++ d.1 = n.2 ∙ (ap (λ (zs : List ℕ). n.0 ++ zs) types ∙ sym (append_assoc n.0 (r.0 ++ t.0) d.1)) in
    takes-same SpellsMethod bytes (record { has_this = a.0; result = c.0; params = d.0 }) sig d.1 rest d.3 (
      head_of a.0 ∷ (n.0 ++ (r.0 ++ t.0)),
      (n.0, r.0, t.0, subst (λ m. Spells n.0 m) (sym t.1.0) n.1, r.1, t.1.1, refl),
      head ∙ ap (λ (zs : List ℕ). head_of a.0 ∷ zs) counted,
    )

bytes-take : (n : ℕ) (bytes : List ℕ) → AreBytes bytes → AreBytes (take n bytes)
bytes-take zero bytes small k = omega arith
bytes-take (suc n) [] small k = omega arith
bytes-take (suc n) (byte ∷ bytes) small zero = small 0
bytes-take (suc n) (byte ∷ bytes) small (suc k) = bytes-take n bytes (λ i. small (suc i)) k

-- the bytes of a span are bytes
pub bytes-cut : (bytes : List ℕ) (at len : ℕ) → AreBytes bytes → AreBytes (take len (drop at bytes))
bytes-cut bytes at len small =
    bytes-take len (drop at bytes) (bytes-rest (take at bytes) (drop at bytes) (subst AreBytes (sym (take-append-drop at bytes)) small))
