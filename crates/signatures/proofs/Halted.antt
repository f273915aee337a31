-- Where the readings of types and of whole signatures halt.
use Rattle.std.proofs.Common.{◌≡◌, ℕ, zero, suc, ◌+◌, ◌%◌, ◌≤◌, ◌⊎◌, inl, inr, ◌||◌, Bool, true, false, cond, List, [], ◌∷◌, ◌++◌, map, length, Option, Some, None, Result, Ok, Err, refl, sym, ap, ◌∙◌, subst, append_assoc, length-append, arith}
use Rattle.std.specs.Prelude.{◌==◌}
use Rattle.std.specs.Option.{option_map_or}
use Rattle.std.proofs.lemmas.List.{append-nil}
use Rattle.std.proofs.lemmas.Bool.{eqb-true, or_cases}
use Rattle.std.proofs.lemmas.Option.{same_Some}
use Rattle.cli_words.specs.Compressed.{Spells}
use Rattle.signatures.specs.declared.feature.Feature.TheVariants.{ValueType, GenericMethod, Varargs}
use Rattle.signatures.specs.declared.fault.Stop.{Stop}
use Rattle.signatures.specs.declared.fault.Stop.TheVariants.{Bad, Feature}
use Rattle.signatures.specs.declared.sig.Primitive.TheVariants.{Int32}
use Rattle.signatures.specs.declared.sig.SigPart.{SigPart}
use Rattle.signatures.specs.declared.sig.SigPart.TheVariants.{Prim, Class, Var, Inst, Vector}
use Rattle.signatures.specs.declared.sig.MethodSig.{MethodSig}
use Rattle.signatures.specs.declared.element.Element.{Element}
use Rattle.signatures.specs.declared.element.Element.TheVariants as element
use Rattle.signatures.specs.Types.{arity, are_types}
use Rattle.signatures.specs.Elements.{element_of, void_byte, value_type_byte, class_byte, cmod_reqd, cmod_opt}
use Rattle.signatures.specs.Kinds.{field_kind, locals_kind, head_of, default_head, default_this_head, generic_head, generic_this_head, vararg_head, vararg_this_head}
use Rattle.signatures.specs.Grammar.{Reading, ◌>>=◌, nothing_at, number_at, class_at, past_modifier, after_modifiers, modifiers_at, generic_at, begun, bare_part_at, part_at, types_at, type_at, bare_result_at, result_at, sigs_at, after_kind, head_at, method_at, locals_at, field_at}
use Rattle.signatures.specs.Spelling.{SpellsClass, AreModifiers, SpellsPart, SpellsParts, SpellsType, SpellsTypes, SpellsResult, SpellsField, SpellsLocals, SpellsMethod}
use Rattle.signatures.specs.Laws.{AreBytes, IsFront, OfTypes, OfMethods, IsHead}
use Rattle.signatures.proofs.Loops.{past_modifier-shorter, modifiers_end}
use Rattle.signatures.proofs.Found.{bytes-after, number-found, class-found, past_modifier-found, modifiers_found, part-found, type-found, type-after, result-found, kind-found, head-found}
use Rattle.signatures.proofs.Again.{number-again, class-again, begins, modifier_step, modifiers_again, no_modifier, part-begins, part-again, type-again, result-again, head-again}
use Rattle.signatures.proofs.Halts.{Halts, Told, Ends, same_end, either_ends, bind-ends, bad_at, feature_at, cut_at, first, halts-after, types-after, FrontOfClass, class_begun, number-halts, class-halts}

-- the bytes after modifiers, with steps enough
abbrev EndsModifiers : List ℕ → Stop → Type 0
EndsModifiers bytes end = (steps : ℕ) → length bytes ≤ steps → after_modifiers steps bytes ≡ Err end

abbrev FrontOfModifiers : List ℕ → Type 0
FrontOfModifiers front = (more : List ℕ) × AreModifiers (front ++ more)

modifiers-on : (steps byte n : ℕ) (number others : List ℕ) (end : Stop) → (byte ≡ cmod_reqd) ⊎ (byte ≡ cmod_opt) → SpellsClass number n → EndsModifiers others end
    → length (byte ∷ (number ++ others)) ≤ steps → after_modifiers steps (byte ∷ (number ++ others)) ≡ Err end
modifiers-on zero byte n number others end is spelled ends enough = absurd (omega arith)
modifiers-on (suc steps) byte n number others end is spelled ends enough =
    modifier_step steps (byte ∷ (number ++ others)) (number ++ others) others n (begins byte (number ++ others) is) (class-again number others n spelled)
    ∙ ends steps (omega (arith, length-append number others))

pub modifiers-halt : (steps : ℕ) (bytes : List ℕ) (end : Stop) → AreBytes bytes → after_modifiers steps bytes ≡ Err end → Halts OfTypes FrontOfModifiers EndsModifiers bytes end
unfolding after_modifiers
modifiers-halt zero bytes end small h = absurd cc
modifiers-halt (suc steps) bytes end small h =
    elim (past_modifier bytes) as (λ o. past_modifier bytes ≡ o → option_map_or (λ rest. class_at rest >>= λ class. after_modifiers steps class.1) o (Ok bytes) ≡ Err end → Halts OfTypes FrontOfModifiers EndsModifiers bytes end) [
      | None ↦ λ e h. absurd cc
      | Some after ↦ λ e h.
          let p = past_modifier-found bytes after e in
          let small_after = bytes-after bytes (p.0 ∷ []) after p.2 small in
          either_ends (class_at after) _ end (Halts OfTypes FrontOfModifiers EndsModifiers bytes end) h
          (λ none. types-after (p.0 ∷ []) after bytes end p.2
          (λ front f. (f.1, (1, (p.0, front ++ f.1, f.0, [], p.1, f.2, refl, ap (λ (zs : List ℕ). p.0 ∷ zs) (sym (append-nil (front ++ f.1)))))))
          (λ others s same ends steps enough. modifiers_end steps (p.0 ∷ others) others s (after_modifiers steps (p.0 ∷ others)) enough (begins p.0 others p.1) ends refl)
          (class-halts after end small_after none))
          (λ x found later.
          let c = class-found after x.1 x.0 small_after found in
          types-after (p.0 ∷ c.0) x.1 bytes end (p.2 ∙ ap (λ (zs : List ℕ). p.0 ∷ zs) c.2)
          (λ front f. (f.0, (suc f.1.0, (p.0, c.0, x.0, front ++ f.0, p.1, c.1, f.1.1, ap (λ (zs : List ℕ). p.0 ∷ zs) (append_assoc c.0 front f.0)))))
          (λ others s same ends steps enough. modifiers-on steps p.0 x.0 c.0 others s p.1 c.1 ends enough)
          (modifiers-halt steps x.1 end (bytes-after after c.0 x.1 c.2 small_after) later))
    ] refl h

-- no modifier begins where those that there are end
no-more : (steps : ℕ) (bytes rest : List ℕ) → AreBytes bytes → length bytes ≤ steps → after_modifiers steps bytes ≡ Ok rest → past_modifier rest ≡ None
unfolding after_modifiers
no-more steps [] rest small enough h = none steps h where
  same : ◌≡◌ {A = Result (List ℕ) Stop} (Ok []) (Ok rest) → past_modifier rest ≡ None
  same e = let value : Result (List ℕ) Stop → List ℕ = λ r. elim r [ Ok x ↦ x | Err s ↦ [] ] in ap (λ (zs : List ℕ). past_modifier zs) (sym (ap value e))

  none : (steps : ℕ) → after_modifiers steps [] ≡ Ok rest → past_modifier rest ≡ None
  none zero e = same e
  none (suc n) e = same e
no-more zero (byte ∷ bytes) rest small enough h = absurd (omega arith)
no-more (suc steps) (byte ∷ bytes) rest small enough h =
    elim (past_modifier (byte ∷ bytes)) as (λ o. past_modifier (byte ∷ bytes) ≡ o → option_map_or (λ rest. class_at rest >>= λ class. after_modifiers steps class.1) o (Ok (byte ∷ bytes)) ≡ Ok rest → past_modifier rest ≡ None) [
      | None ↦ λ e h.
          let value : Result (List ℕ) Stop → List ℕ = λ r. elim r [ Ok x ↦ x | Err s ↦ [] ] in
          subst (λ zs. past_modifier zs ≡ None) (ap value h) e
      | Some after ↦ λ e h.
          let p = past_modifier-found (byte ∷ bytes) after e in
          let lt = past_modifier-shorter (byte ∷ bytes) after e in
          let small_after = bytes-after (byte ∷ bytes) (p.0 ∷ []) after p.2 small in
          elim (class_at after) as (λ r. class_at after ≡ r → (r >>= λ class. after_modifiers steps class.1) ≡ Ok rest → past_modifier rest ≡ None) [
            | Err s ↦ λ found h. absurd cc
            | Ok x ↦ λ found h.
                let c = class-found after x.1 x.0 small_after found in
                let size : length after ≡ length c.0 + length x.1 = ap (λ (zs : List ℕ). length zs) c.2 ∙ length-append c.0 x.1 in
                no-more steps x.1 rest (bytes-after after c.0 x.1 c.2 small_after) (omega (arith, size, lt)) h
          ] refl h
    ] refl h

-- what begins as bytes that begin with no modifier
begins-same : (others rest : List ℕ) → first others ≡ first rest → past_modifier rest ≡ None → past_modifier others ≡ None
begins-same [] rest e h = refl
begins-same (x ∷ others) [] e h = absurd cc
begins-same (x ∷ others) (y ∷ rest) e h =
    let same : x ≡ y = same_Some x y e in
    let at : (b : Bool) → cond b (Some rest) None ≡ None → cond b (Some others) None ≡ None = λ b. elim b as (λ b. cond b (Some rest) None ≡ None → cond b (Some others) None ≡ None) [ true ↦ λ k. absurd cc | false ↦ λ k. refl ] in
    subst (λ z. past_modifier (z ∷ others) ≡ None) (sym same) (at ((y == cmod_reqd) || (y == cmod_opt)) h)

-- modifiers are passed over again before what begins with none
passed : (modifiers others : List ℕ) → AreModifiers modifiers → past_modifier others ≡ None → modifiers_at (modifiers ++ others) ≡ Ok others
passed modifiers others m none = modifiers_again m.0 (length (modifiers ++ others)) modifiers others m.1 none (omega arith)

-- parts
abbrev FrontOfPart : List ℕ → Type 0
FrontOfPart front = IsFront SpellsPart front

part_begun : FrontOfPart []
unfolding element_of
part_begun = (Prim Int32, 0x08 ∷ [], (0x08, refl, refl))

generic_begun : (byte : ℕ) → element_of byte ≡ Some element.Inst → FrontOfPart (byte ∷ [])
generic_begun byte e = (Inst 0 0, class_byte ∷ 0 ∷ 0 ∷ [], (byte, 0 ∷ [], 0 ∷ [], e, (inl (omega arith, refl), λ e. absurd cc), inl (omega arith, refl), refl))

value_type : (others : List ℕ) → generic_at (value_type_byte ∷ others) ≡ Err (Feature ValueType)
unfolding generic_at
value_type others = refl

value_type-left_out : element_of value_type_byte ≡ Some (element.Feature ValueType)
unfolding element_of
value_type-left_out = refl

generic_class : (others : List ℕ) (s : Stop) → class_at others ≡ Err s → generic_at (class_byte ∷ others) ≡ Err s
unfolding generic_at
generic_class others s e = rw e refl

generic_count : (number others : List ℕ) (n : ℕ) (s : Stop) → SpellsClass number n → number_at others ≡ Err s → generic_at (class_byte ∷ (number ++ others)) ≡ Err s
unfolding generic_at
generic_count number others n s c e = rw (class-again number others n c, e) refl

generic_none : (byte : ℕ) (others : List ℕ) → (byte == class_byte) ≡ false → (byte == value_type_byte) ≡ false → generic_at (byte ∷ others) ≡ Err (Bad (length (byte ∷ others)))
unfolding generic_at
generic_none byte others c v = rw (c, v) refl

-- what is left out is told at its first byte, and what begins nothing as well
pub halts_bad : {L : List ℕ → ℕ → _ → Type 0} {F : List ℕ → Type 0} {R : List ℕ → Stop → Type 0} (byte : ℕ) (rest : List ℕ) (end : Stop)
    → F [] → Bad (length (byte ∷ rest)) ≡ end → ((others : List ℕ) → R (byte ∷ others) (Bad (length (byte ∷ others)))) → Halts L F R (byte ∷ rest) end
halts_bad {L} {F} {R} byte rest end goes e reads = record { front = []; rest = byte ∷ rest; split = refl; goes = goes; told = bad_at L R [] byte rest end (sym e) reads }

generic-halts : (byte : ℕ) (bytes : List ℕ) (end : Stop) → AreBytes bytes → element_of byte ≡ Some element.Inst → generic_at bytes ≡ Err end
    → Halts OfTypes (λ front. FrontOfPart (byte ∷ front)) (Ends generic_at) bytes end
unfolding generic_at
generic-halts byte [] end small e h = cut_at [] end (generic_begun byte e) (sym (same_end (Bad 0) end h))
generic-halts byte (next ∷ bytes) end small e h = by_class (next == class_byte) refl h where
  Goal : Type 0
  Goal = Halts OfTypes (λ front. FrontOfPart (byte ∷ front)) (Ends generic_at) (next ∷ bytes) end

  small_bytes : AreBytes bytes
  small_bytes = λ k. small (suc k)

  by_value_type : (next == class_byte) ≡ false → (b : Bool) → (next == value_type_byte) ≡ b → ◌≡◌ {A = Reading SigPart} (cond b (Err (Feature ValueType)) (nothing_at (next ∷ bytes))) (Err end) → Goal
  by_value_type c true v h =
      let is = eqb-true next value_type_byte v in
      record {
        front = [];
        rest = next ∷ bytes;
        split = refl;
        goes = generic_begun byte e;
        told = feature_at OfTypes (Ends generic_at) [] next bytes ValueType end (sym (same_end (Feature ValueType) end h))
            (subst (λ z. element_of z ≡ Some (element.Feature ValueType)) (sym is) value_type-left_out)
            (λ others. subst (λ z. generic_at (z ∷ others) ≡ Err (Feature ValueType)) (sym is) (value_type others));
      }
  by_value_type c false v h = halts_bad next bytes end (generic_begun byte e) (same_end (Bad (length (next ∷ bytes))) end h) (λ others. generic_none next others c v)

  by_class : (b : Bool) → (next == class_byte) ≡ b → ◌≡◌ {A = Reading SigPart} (cond b (class_at bytes >>= λ class. (number_at class.1 >>= λ args. Ok (Inst class.0 args.0, args.1))) (cond (next == value_type_byte) (Err (Feature ValueType)) (nothing_at (next ∷ bytes)))) (Err end) → Goal
  by_class false c h = by_value_type c (next == value_type_byte) refl h
  by_class true c h =
      let is : next ∷ bytes ≡ class_byte ∷ bytes = ap (λ (z : ℕ). z ∷ bytes) (eqb-true next class_byte c) in
      either_ends (class_at bytes) _ end Goal h
      (λ none. types-after (class_byte ∷ []) bytes (next ∷ bytes) end is
      (λ front f. (Inst f.0 0, f.1 ++ 0 ∷ [], (byte, front ++ f.1, 0 ∷ [], e, f.2, inl (omega arith, refl), ap (λ (zs : List ℕ). byte ∷ class_byte ∷ zs) (sym (append_assoc front f.1 (0 ∷ []))))))
      (λ others s same ends. generic_class others s ends)
      (class-halts bytes end small_bytes none))
      (λ x found later.
      let t = class-found bytes x.1 x.0 small_bytes found in
      either_ends (number_at x.1) _ end Goal later
      (λ none. types-after (class_byte ∷ t.0) x.1 (next ∷ bytes) end (is ∙ ap (λ (zs : List ℕ). class_byte ∷ zs) t.2)
      (λ front f. (Inst x.0 f.0, f.1, (byte, t.0, front ++ f.1, e, t.1, f.2.0, ap (λ (zs : List ℕ). byte ∷ class_byte ∷ zs) (append_assoc t.0 front f.1))))
      (λ others s same ends. generic_count t.0 others x.0 s t.1 ends)
      (number-halts x.1 end (bytes-after bytes t.0 x.1 t.2 small_bytes) none))
      (λ y found. λ e. absurd cc))

begun_class : (byte : ℕ) (others : List ℕ) (s : Stop) → element_of byte ≡ Some element.Class → class_at others ≡ Err s → bare_part_at (byte ∷ others) ≡ Err s
unfolding bare_part_at
begun_class byte others s e h = rw (e, h) refl

begun_var : (byte : ℕ) (others : List ℕ) (s : Stop) → element_of byte ≡ Some element.Var → number_at others ≡ Err s → bare_part_at (byte ∷ others) ≡ Err s
unfolding bare_part_at
begun_var byte others s e h = rw (e, h) refl

begun_generic : (byte : ℕ) (others : List ℕ) (s : Stop) → element_of byte ≡ Some element.Inst → generic_at others ≡ Err s → bare_part_at (byte ∷ others) ≡ Err s
unfolding bare_part_at
begun_generic byte others s e h = rw (e, h) refl

begun_none : (byte : ℕ) (others : List ℕ) → element_of byte ≡ None → bare_part_at (byte ∷ others) ≡ Err (Bad (length (byte ∷ others)))
unfolding bare_part_at
begun_none byte others e = rw e refl

begun_feature : (byte : ℕ) (others : List ℕ) (name : _) → element_of byte ≡ Some (element.Feature name) → bare_part_at (byte ∷ others) ≡ Err (Feature name)
unfolding bare_part_at
begun_feature byte others name e = rw e refl

bare_part-halts : (bytes : List ℕ) (end : Stop) → AreBytes bytes → bare_part_at bytes ≡ Err end → Halts OfTypes FrontOfPart (Ends bare_part_at) bytes end
unfolding bare_part_at
bare_part-halts [] end small h = cut_at [] end part_begun (sym (same_end (Bad 0) end h))
bare_part-halts (byte ∷ bytes) end small h = by_element (element_of byte) refl h where
  Goal : Type 0
  Goal = Halts OfTypes FrontOfPart (Ends bare_part_at) (byte ∷ bytes) end

  small_bytes : AreBytes bytes
  small_bytes = λ k. small (suc k)

  by_element : (o : Option Element) → element_of byte ≡ o → begun (byte ∷ bytes) o bytes ≡ Err end → Goal
  by_element None e h = halts_bad byte bytes end part_begun (same_end (Bad (length (byte ∷ bytes))) end h) (λ others. begun_none byte others e)
  by_element (Some (element.Feature name)) e h =
      record {
        front = [];
        rest = byte ∷ bytes;
        split = refl;
        goes = part_begun;
        told = feature_at OfTypes (Ends bare_part_at) [] byte bytes name end (sym (same_end (Feature name) end h)) e (λ others. begun_feature byte others name e);
      }
  by_element (Some (element.Prim prim)) e h = absurd cc
  by_element (Some element.Vector) e h = absurd cc
  by_element (Some element.Class) e h =
      either_ends (class_at bytes) _ end Goal h
      (λ none. types-after (byte ∷ []) bytes (byte ∷ bytes) end refl
      (λ front f. (Class f.0, f.1, (byte, front ++ f.1, e, f.2, refl)))
      (λ others s same ends. begun_class byte others s e ends)
      (class-halts bytes end small_bytes none))
      (λ x found k. absurd cc)
  by_element (Some element.Var) e h =
      either_ends (number_at bytes) _ end Goal h
      (λ none. types-after (byte ∷ []) bytes (byte ∷ bytes) end refl
      (λ front f. (Var f.0, f.1, (byte, front ++ f.1, e, f.2.0, refl)))
      (λ others s same ends. begun_var byte others s e ends)
      (number-halts bytes end small_bytes none))
      (λ x found k. absurd cc)
  by_element (Some element.Inst) e h =
      types-after (byte ∷ []) bytes (byte ∷ bytes) end refl
      (λ front f. f)
      (λ others s same ends. begun_generic byte others s e ends)
      (generic-halts byte bytes end small_bytes e h)

-- parts after modifiers
abbrev FrontOfModified : List ℕ → Type 0
FrontOfModified front =
    (part : SigPart) × (modifiers : List ℕ) × (own : List ℕ) × (more : List ℕ) × AreModifiers modifiers × SpellsPart part own × (front ++ more ≡ modifiers ++ own)

part_passed : (others : List ℕ) (s : Stop) → EndsModifiers others s → part_at others ≡ Err s
unfolding part_at
part_passed others s ends = bind-ends (modifiers_at others) bare_part_at s (ends (length others) (omega arith))

part_on : (modifiers others : List ℕ) (s : Stop) → AreModifiers modifiers → past_modifier others ≡ None → bare_part_at others ≡ Err s → part_at (modifiers ++ others) ≡ Err s
unfolding part_at
part_on modifiers others s m none ends = rw (passed modifiers others m none) ends

int32-part : SpellsPart (Prim Int32) (0x08 ∷ [])
unfolding element_of
int32-part = (0x08, refl, refl)

part-halts : (bytes : List ℕ) (end : Stop) → AreBytes bytes → part_at bytes ≡ Err end → Halts OfTypes FrontOfModified (Ends part_at) bytes end
unfolding part_at
part-halts bytes end small h =
    either_ends (modifiers_at bytes) bare_part_at end (Halts OfTypes FrontOfModified (Ends part_at) bytes end) h
    (λ none. types-after [] bytes bytes end refl
    (λ front f. (Prim Int32, front ++ f.0, 0x08 ∷ [], f.0 ++ 0x08 ∷ [], f.1, int32-part, sym (append_assoc front f.0 (0x08 ∷ []))))
    (λ others s same ends. part_passed others s ends)
    (modifiers-halt (length bytes) bytes end small none))
    (λ rest found later.
    let m = modifiers_found (length bytes) bytes rest small found in
    let none = no-more (length bytes) bytes rest small (omega arith) found in
    types-after m.0 rest bytes end m.2
    (λ front f. (f.0, m.0, front ++ f.1, f.1, m.1, f.2, append_assoc m.0 front f.1))
    (λ others s same ends. part_on m.0 others s m.1 (begins-same others rest same none) ends)
    (bare_part-halts rest end (bytes-after bytes m.0 rest m.2 small) later))

-- so many types, each int32
types_filled : (n : ℕ) → (parts : List SigPart) × (bytes : List ℕ) × (are_types n (map arity parts) ≡ true) × SpellsParts parts bytes
types_filled zero = ([], [], refl, refl)
types_filled (suc n) =
    let i = types_filled n in
    let k : n + 0 ≡ n = omega arith in
    (Prim Int32 ∷ i.0, 0x08 ∷ i.1, ap (λ (m : ℕ). are_types m (map arity i.0)) k ∙ i.2, ([], 0x08 ∷ [], i.1, (0, refl), int32-part, i.3, refl))

abbrev FrontOfTypes : ℕ → List ℕ → Type 0
FrontOfTypes n front = (parts : List SigPart) × (more : List ℕ) × (are_types n (map arity parts) ≡ true) × SpellsParts parts (front ++ more)

abbrev EndsTypes : ℕ → List ℕ → Stop → Type 0
EndsTypes n bytes end = (steps : ℕ) → length bytes ≤ steps → types_at steps n bytes ≡ Err end

part_at-nil : part_at [] ≡ Err (Bad 0)
unfolding part_at bare_part_at after_modifiers
part_at-nil = refl

types_stopped : (n steps : ℕ) (bytes : List ℕ) (s : Stop) → part_at bytes ≡ Err s → length bytes ≤ steps → types_at steps (suc n) bytes ≡ Err s
unfolding types_at
types_stopped n zero [] s h enough = ap (λ e. Err e) (same_end (Bad 0) s (sym part_at-nil ∙ h))
types_stopped n zero (byte ∷ bytes) s h enough = absurd (omega arith)
types_stopped n (suc steps) bytes s h enough = rw h refl

types_on : (n steps : ℕ) (modifiers own others : List ℕ) (part : SigPart) (s : Stop) → AreModifiers modifiers → SpellsPart part own → EndsTypes (n + arity part) others s
    → length ((modifiers ++ own) ++ others) ≤ steps → types_at steps (suc n) ((modifiers ++ own) ++ others) ≡ Err s
unfolding types_at
types_on n steps modifiers own others part s m spelled ends enough =
    let b = part-begins part own spelled in
    let size : length own ≡ suc (length b.1) = ap (λ (zs : List ℕ). length zs) b.4 in
    let all : length ((modifiers ++ own) ++ others) ≡ (length modifiers + length own) + length others =
    length-append (modifiers ++ own) others ∙ ap (λ (k : ℕ). k + length others) (length-append modifiers own) in
    on steps (omega (arith, size, all)) where
      on : (steps : ℕ) → length others + 1 ≤ steps → types_at steps (suc n) ((modifiers ++ own) ++ others) ≡ Err s
      on zero enough = absurd (omega arith)
      on (suc steps) enough = rw (append_assoc modifiers own others, part-again part modifiers own others m spelled, ends steps (omega arith)) refl

types-halt : (steps n : ℕ) (bytes : List ℕ) (end : Stop) → AreBytes bytes → length bytes ≤ steps → types_at steps n bytes ≡ Err end → Halts OfTypes (FrontOfTypes n) (EndsTypes n) bytes end
unfolding types_at
types-halt steps zero bytes end small enough h = absurd cc
types-halt zero (suc n) (byte ∷ bytes) end small enough h = absurd (omega arith)
types-halt zero (suc n) [] end small enough h =
    let f = types_filled (suc n) in
    cut_at [] end (f.0, f.1, f.2, f.3) (sym (same_end (Bad 0) end h))
types-halt (suc steps) (suc n) bytes end small enough h =
    either_ends (part_at bytes) _ end (Halts OfTypes (FrontOfTypes (suc n)) (EndsTypes (suc n)) bytes end) h
    (λ none. types-after [] bytes bytes end refl
    (λ front f.
    let others = types_filled (n + arity f.0) in (
      f.0 ∷ others.0,
      f.3 ++ others.1,
      others.2,
      (
        f.1,
        f.2,
        others.1,
        f.4,
        f.5,
        others.3,
        sym (append_assoc front f.3 others.1) ∙ (ap (λ (zs : List ℕ). zs ++ others.1) f.6 ∙ append_assoc f.1 f.2 others.1),
      ),
    ))
    (λ others s same ends steps enough. types_stopped n steps others s ends enough)
    (part-halts bytes end small none))
    (λ x found later.
    let p = part-found bytes x.1 x.0 small found in
    let front : bytes ≡ (p.0 ++ p.1) ++ x.1 = p.4 ∙ sym (append_assoc p.0 p.1 x.1) in
    let b = part-begins x.0 p.1 p.3 in
    let own : length p.1 ≡ suc (length b.1) = ap (λ (zs : List ℕ). length zs) b.4 in
    let size : length bytes ≡ (length p.0 + length p.1) + length x.1 =
    ap (λ (zs : List ℕ). length zs) front ∙ (length-append (p.0 ++ p.1) x.1 ∙ ap (λ (k : ℕ). k + length x.1) (length-append p.0 p.1)) in
    either_ends (types_at steps (n + arity x.0) x.1) _ end (Halts OfTypes (FrontOfTypes (suc n)) (EndsTypes (suc n)) bytes end) later
    (λ none. types-after (p.0 ++ p.1) x.1 bytes end front
    (λ rest f. (x.0 ∷ f.0, f.1, f.2, (p.0, p.1, rest ++ f.1, p.2, p.3, f.3, append_assoc (p.0 ++ p.1) rest f.1 ∙ append_assoc p.0 p.1 (rest ++ f.1))))
    (λ others s same ends steps enough. types_on n steps p.0 p.1 others x.0 s p.2 p.3 ends enough)
    (types-halt steps (n + arity x.0) x.1 end (bytes-after bytes (p.0 ++ p.1) x.1 front small) (omega (arith, own, size)) none))
    (λ y k e. absurd cc))

pub type-halts : (bytes : List ℕ) (end : Stop) → AreBytes bytes → type_at bytes ≡ Err end → Halts OfTypes (IsFront SpellsType) (Ends type_at) bytes end
unfolding type_at
type-halts bytes end small h =
    types-after [] bytes bytes end refl (λ front f. (f.0, f.1, (f.2, f.3))) (λ others s same ends. ends (length others) (omega arith))
    (types-halt (length bytes) 1 bytes end small (omega arith) h)

int32-type : SpellsType (Prim Int32 ∷ []) (0x08 ∷ [])
int32-type = (refl, ([], 0x08 ∷ [], [], (0, refl), int32-part, refl, refl))

-- so many types, one after another
sigs_filled : (n : ℕ) → (sigs : List (List SigPart)) × (bytes : List ℕ) × (length sigs ≡ n) × SpellsTypes sigs bytes
sigs_filled zero = ([], [], refl, refl)
sigs_filled (suc n) =
    let i = sigs_filled n in
    ((Prim Int32 ∷ []) ∷ i.0, 0x08 ∷ i.1, ap (λ (k : ℕ). suc k) i.2, (0x08 ∷ [], i.1, int32-type, i.3, refl))

abbrev FrontOfSigs : ℕ → List ℕ → Type 0
FrontOfSigs count front = (sigs : List (List SigPart)) × (more : List ℕ) × (length sigs ≡ count) × SpellsTypes sigs (front ++ more)

sigs_stopped : (count : ℕ) (others : List ℕ) (s : Stop) → type_at others ≡ Err s → sigs_at (suc count) others ≡ Err s
unfolding sigs_at
sigs_stopped count others s e = rw e refl

sigs_on : (count : ℕ) (own others : List ℕ) (sig : List SigPart) (s : Stop) → SpellsType sig own → sigs_at count others ≡ Err s → sigs_at (suc count) (own ++ others) ≡ Err s
unfolding sigs_at
sigs_on count own others sig s spelled e = rw (type-again sig own others spelled, e) refl

sigs-halt : (count : ℕ) (bytes : List ℕ) (end : Stop) → AreBytes bytes → sigs_at count bytes ≡ Err end → Halts OfTypes (FrontOfSigs count) (Ends (sigs_at count)) bytes end
unfolding sigs_at
sigs-halt zero bytes end small h = absurd cc
sigs-halt (suc count) bytes end small h =
    either_ends (type_at bytes) _ end (Halts OfTypes (FrontOfSigs (suc count)) (Ends (sigs_at (suc count))) bytes end) h
    (λ none. types-after [] bytes bytes end refl
    (λ front f.
    let others = sigs_filled count in
    (f.0 ∷ others.0, f.1 ++ others.1, ap (λ (k : ℕ). suc k) others.2, (front ++ f.1, others.1, f.2, others.3, sym (append_assoc front f.1 others.1))))
    (λ others s same ends. sigs_stopped count others s ends)
    (type-halts bytes end small none))
    (λ x found later.
    let t = type-found bytes x.1 x.0 small found in
    either_ends (sigs_at count x.1) _ end (Halts OfTypes (FrontOfSigs (suc count)) (Ends (sigs_at (suc count))) bytes end) later
    (λ none. types-after t.0 x.1 bytes end t.2
    (λ front f. (x.0 ∷ f.0, f.1, ap (λ (k : ℕ). suc k) f.2, (t.0, front ++ f.1, t.1, f.3, append_assoc t.0 front f.1)))
    (λ others s same ends. sigs_on count t.0 others x.0 s t.1 ends)
    (sigs-halt count x.1 end (bytes-after bytes t.0 x.1 t.2 small) none))
    (λ y k e. absurd cc))

-- results
result_passed : (others : List ℕ) (s : Stop) → EndsModifiers others s → result_at others ≡ Err s
unfolding result_at
result_passed others s ends = bind-ends (modifiers_at others) bare_result_at s (ends (length others) (omega arith))

result_on : (modifiers others rest : List ℕ) (byte : ℕ) (s : Stop) → AreModifiers modifiers → past_modifier others ≡ None → first others ≡ Some byte → (byte == void_byte) ≡ false → type_at others ≡ Err s
    → result_at (modifiers ++ others) ≡ Err s
unfolding result_at
result_on modifiers [] rest byte s m none begins typed ends = absurd cc
result_on modifiers (x ∷ others) rest byte s m none begins typed ends =
    let same : x ≡ byte = same_Some x byte begins in
    let tested : (x == void_byte) ≡ false = ap (λ (z : ℕ). z == void_byte) same ∙ typed in
    rw (passed modifiers (x ∷ others) m none, tested, ends) refl

pub result-halts : (bytes : List ℕ) (end : Stop) → AreBytes bytes → result_at bytes ≡ Err end → Halts OfTypes (IsFront SpellsResult) (Ends result_at) bytes end
unfolding result_at
result-halts bytes end small h =
    either_ends (modifiers_at bytes) bare_result_at end Goal h
    (λ none. types-after [] bytes bytes end refl
    (λ front f. (Some (Prim Int32 ∷ []), f.0 ++ 0x08 ∷ [], subst (λ zs. SpellsType (Prim Int32 ∷ []) zs) (append_assoc front f.0 (0x08 ∷ [])) (type-after (Prim Int32 ∷ []) (front ++ f.0) (0x08 ∷ []) f.1 int32-type)))
    (λ others s same ends. result_passed others s ends)
    (modifiers-halt (length bytes) bytes end small none))
    (λ rest found later.
    let m = modifiers_found (length bytes) bytes rest small found in
    after m.0 rest m.1 m.2 (no-more (length bytes) bytes rest small (omega arith) found) (bytes-after bytes m.0 rest m.2 small) later) where
      Goal : Type 0
      Goal = Halts OfTypes (IsFront SpellsResult) (Ends result_at) bytes end

      typed : (modifiers : List ℕ) (byte : ℕ) (rest : List ℕ) → AreModifiers modifiers → bytes ≡ modifiers ++ byte ∷ rest → past_modifier (byte ∷ rest) ≡ None → AreBytes (byte ∷ rest)
          → (b : Bool) → (byte == void_byte) ≡ b → ◌≡◌ {A = Reading (Option (List SigPart))} (cond b (Ok (None, rest)) (type_at (byte ∷ rest) >>= λ type. Ok (Some type.0, type.1))) (Err end) → Goal
      typed modifiers byte rest m e none small_rest true v h = absurd cc
      typed modifiers byte rest m e none small_rest false v h =
          either_ends (type_at (byte ∷ rest)) _ end Goal h
          (λ stopped. types-after modifiers (byte ∷ rest) bytes end e
          (λ front f. (Some f.0, f.1, subst (λ zs. SpellsType f.0 zs) (sym (append_assoc modifiers front f.1)) (type-after f.0 modifiers (front ++ f.1) m f.2)))
          (λ others s same ends. result_on modifiers others rest byte s m (begins-same others (byte ∷ rest) same none) same v ends)
          (type-halts (byte ∷ rest) end small_rest stopped))
          (λ x found k. absurd cc)

      after : (modifiers rest : List ℕ) → AreModifiers modifiers → bytes ≡ modifiers ++ rest → past_modifier rest ≡ None → AreBytes rest → bare_result_at rest ≡ Err end → Goal
      after modifiers [] m e none small_rest h =
          let cut : bytes ≡ modifiers = e ∙ append-nil modifiers in
          cut_at bytes end (Some (Prim Int32 ∷ []), 0x08 ∷ [], subst (λ zs. SpellsType (Prim Int32 ∷ []) (zs ++ 0x08 ∷ [])) (sym cut) (type-after (Prim Int32 ∷ []) modifiers (0x08 ∷ []) m int32-type)) (sym (same_end (Bad 0) end h))
      after modifiers (byte ∷ rest) m e none small_rest h = typed modifiers byte rest m e none small_rest (byte == void_byte) refl h

-- fields
field_begun : IsFront SpellsField []
field_begun = (Prim Int32 ∷ [], field_kind ∷ 0x08 ∷ [], (0x08 ∷ [], int32-type, refl))

field_on : (others : List ℕ) (s : Stop) → type_at others ≡ Err s → field_at (field_kind ∷ others) ≡ Err s
unfolding field_at after_kind
field_on others s e = e

field_none : (byte : ℕ) (others : List ℕ) → (byte == field_kind) ≡ false → field_at (byte ∷ others) ≡ Err (Bad (length (byte ∷ others)))
unfolding field_at after_kind
field_none byte others e = rw e refl

pub field-halts : (bytes : List ℕ) (end : Stop) → AreBytes bytes → field_at bytes ≡ Err end → Halts OfTypes (IsFront SpellsField) (Ends field_at) bytes end
unfolding field_at after_kind
field-halts [] end small h = cut_at [] end field_begun (sym (same_end (Bad 0) end h))
field-halts (byte ∷ bytes) end small h = by_kind (byte == field_kind) refl h where
  by_kind : (b : Bool) → (byte == field_kind) ≡ b → (cond b (Ok bytes) (nothing_at (byte ∷ bytes)) >>= type_at) ≡ Err end → Halts OfTypes (IsFront SpellsField) (Ends field_at) (byte ∷ bytes) end
  by_kind false e h = halts_bad byte bytes end field_begun (same_end (Bad (length (byte ∷ bytes))) end h) (λ others. field_none byte others e)
  by_kind true e h =
      types-after (field_kind ∷ []) bytes (byte ∷ bytes) end (ap (λ (z : ℕ). z ∷ bytes) (eqb-true byte field_kind e))
      (λ front f. (f.0, f.1, (front ++ f.1, f.2, refl)))
      (λ others s same ends. field_on others s ends)
      (type-halts bytes end (λ k. small (suc k)) h)

-- locals
locals_begun : IsFront SpellsLocals []
locals_begun = ([], locals_kind ∷ 0 ∷ [], (0 ∷ [], [], inl (omega arith, refl), refl, refl))

locals_count : (others : List ℕ) (s : Stop) → number_at others ≡ Err s → locals_at (locals_kind ∷ others) ≡ Err s
unfolding locals_at after_kind
locals_count others s e = rw e refl

locals_on : (count others : List ℕ) (n : ℕ) (s : Stop) → Spells count n → sigs_at n others ≡ Err s → locals_at (locals_kind ∷ (count ++ others)) ≡ Err s
unfolding locals_at after_kind
locals_on count others n s spelled e = rw (number-again count others n spelled, e) refl

locals_none : (byte : ℕ) (others : List ℕ) → (byte == locals_kind) ≡ false → locals_at (byte ∷ others) ≡ Err (Bad (length (byte ∷ others)))
unfolding locals_at after_kind
locals_none byte others e = rw e refl

pub locals-halt : (bytes : List ℕ) (end : Stop) → AreBytes bytes → locals_at bytes ≡ Err end → Halts OfTypes (IsFront SpellsLocals) (Ends locals_at) bytes end
unfolding locals_at after_kind
locals-halt [] end small h = cut_at [] end locals_begun (sym (same_end (Bad 0) end h))
locals-halt (byte ∷ bytes) end small h = by_kind (byte == locals_kind) refl h where
  Goal : Type 0
  Goal = Halts OfTypes (IsFront SpellsLocals) (Ends locals_at) (byte ∷ bytes) end

  by_kind : (b : Bool) → (byte == locals_kind) ≡ b → (cond b (Ok bytes) (nothing_at (byte ∷ bytes)) >>= λ begun. (number_at begun >>= λ count. sigs_at count.0 count.1)) ≡ Err end → Goal
  by_kind false e h = halts_bad byte bytes end locals_begun (same_end (Bad (length (byte ∷ bytes))) end h) (λ others. locals_none byte others e)
  by_kind true e h =
      let small_bytes : AreBytes bytes = λ k. small (suc k) in
      let is : byte ∷ bytes ≡ locals_kind ∷ bytes = ap (λ (z : ℕ). z ∷ bytes) (eqb-true byte locals_kind e) in
      either_ends (number_at bytes) _ end Goal h
      (λ none. types-after (locals_kind ∷ []) bytes (byte ∷ bytes) end is
      (λ front f.
      let types = sigs_filled f.0 in
      (types.0, f.1 ++ types.1, (front ++ f.1, types.1, subst (λ n. Spells (front ++ f.1) n) (sym types.2) f.2.0, types.3, ap (λ (zs : List ℕ). locals_kind ∷ zs) (sym (append_assoc front f.1 types.1)))))
      (λ others s same ends. locals_count others s ends)
      (number-halts bytes end small_bytes none))
      (λ x found later.
      let n = number-found bytes x.1 x.0 small_bytes found in
      types-after (locals_kind ∷ n.0) x.1 (byte ∷ bytes) end (is ∙ ap (λ (zs : List ℕ). locals_kind ∷ zs) n.2)
      (λ front f. (f.0, f.1, (n.0, front ++ f.1, subst (λ m. Spells n.0 m) (sym f.2) n.1, f.3, ap (λ (zs : List ℕ). locals_kind ∷ zs) (append_assoc n.0 front f.1))))
      (λ others s same ends. locals_on n.0 others x.0 s n.1 ends)
      (sigs-halt x.0 x.1 end (bytes-after bytes n.0 x.1 n.2 small_bytes) later))

-- methods
abbrev signed : Bool → Option (List SigPart) → List (List SigPart) × List ℕ → Reading MethodSig
signed has_this result params = Ok (record { has_this = has_this; result = result; params = params.0 }, params.1)

abbrev signature : Bool → Option (List SigPart) → List (List SigPart) → MethodSig
signature has_this result params = record { has_this = has_this; result = result; params = params }

void-result : SpellsResult None (void_byte ∷ [])
void-result = ([], (0, refl), refl)

method_begun : IsFront SpellsMethod []
method_begun = (signature false None [], default_head ∷ 0 ∷ void_byte ∷ [], (0 ∷ [], void_byte ∷ [], [], inl (omega arith, refl), void-result, refl, refl))

method_count : (has_this : Bool) (others : List ℕ) (s : Stop) → number_at others ≡ Err s → method_at (head_of has_this ∷ others) ≡ Err s
unfolding method_at
method_count has_this others s e = rw (head-again has_this others, e) refl

method_result : (has_this : Bool) (count others : List ℕ) (n : ℕ) (s : Stop) → Spells count n → result_at others ≡ Err s → method_at (head_of has_this ∷ (count ++ others)) ≡ Err s
unfolding method_at
method_result has_this count others n s spelled e = rw (head-again has_this (count ++ others), number-again count others n spelled, e) refl

method_params : (has_this : Bool) (count own others : List ℕ) (n : ℕ) (result : Option (List SigPart)) (s : Stop) → Spells count n → SpellsResult result own → sigs_at n others ≡ Err s
    → method_at (head_of has_this ∷ (count ++ (own ++ others))) ≡ Err s
unfolding method_at
method_params has_this count own others n result s spelled typed e =
    rw (head-again has_this (count ++ (own ++ others)), number-again count (own ++ others) n spelled, result-again result own others typed, e) refl

method_head : (bytes : List ℕ) (s : Stop) → head_at bytes ≡ Err s → method_at bytes ≡ Err s
unfolding method_at
method_head bytes s e = rw e refl

-- a head that is left out, or none
head-halts : (bytes : List ℕ) (end : Stop) → head_at bytes ≡ Err end → Halts OfMethods (IsFront SpellsMethod) (Ends head_at) bytes end
unfolding head_at
head-halts [] end h = cut_at [] end method_begun (sym (same_end (Bad 0) end h))
head-halts (byte ∷ bytes) end h = plain (byte == default_head) refl h where
  Goal : Type 0
  Goal = Halts OfMethods (IsFront SpellsMethod) (Ends head_at) (byte ∷ bytes) end

  told_feature : (name : _) → IsHead byte name → ◌≡◌ {A = Reading Bool} (Err (Feature name)) (Err end) → ((others : List ℕ) → head_at (byte ∷ others) ≡ Err (Feature name)) → Goal
  told_feature name is e reads = record {
    front = [];
    rest = byte ∷ bytes;
    split = refl;
    goes = method_begun;
    told = feature_at OfMethods (Ends head_at) [] byte bytes name end (sym (same_end (Feature name) end e)) (inr (refl, is)) reads;
  }

  varargs : (byte == default_head) ≡ false → (byte == default_this_head) ≡ false → ((byte == generic_head) || (byte == generic_this_head)) ≡ false
      → (b : Bool) → ((byte == vararg_head) || (byte == vararg_this_head)) ≡ b → ◌≡◌ {A = Reading Bool} (cond b (Err (Feature Varargs)) (nothing_at (byte ∷ bytes))) (Err end) → Goal
  varargs p t g true v h =
      let is = elim (or_cases (byte == vararg_head) (byte == vararg_this_head) v) as (λ x. (byte ≡ vararg_head) ⊎ (byte ≡ vararg_this_head)) [ inl x ↦ inl (eqb-true byte vararg_head x) | inr x ↦ inr (eqb-true byte vararg_this_head x) ] in
      told_feature Varargs (inr (is, refl)) h (λ others. rw (p, t, g, v) refl)
  varargs p t g false v h = halts_bad byte bytes end method_begun (same_end (Bad (length (byte ∷ bytes))) end h) (λ others. rw (p, t, g, v) refl)

  generic : (byte == default_head) ≡ false → (byte == default_this_head) ≡ false → (b : Bool) → ((byte == generic_head) || (byte == generic_this_head)) ≡ b
      → ◌≡◌ {A = Reading Bool} (cond b (Err (Feature GenericMethod)) (cond ((byte == vararg_head) || (byte == vararg_this_head)) (Err (Feature Varargs)) (nothing_at (byte ∷ bytes)))) (Err end) → Goal
  generic p t true g h =
      let is = elim (or_cases (byte == generic_head) (byte == generic_this_head) g) as (λ x. (byte ≡ generic_head) ⊎ (byte ≡ generic_this_head)) [ inl x ↦ inl (eqb-true byte generic_head x) | inr x ↦ inr (eqb-true byte generic_this_head x) ] in
      told_feature GenericMethod (inl (is, refl)) h (λ others. rw (p, t, g) refl)
  generic p t false g h = varargs p t g ((byte == vararg_head) || (byte == vararg_this_head)) refl h

  this : (byte == default_head) ≡ false → (b : Bool) → (byte == default_this_head) ≡ b
      → ◌≡◌ {A = Reading Bool} (cond b (Ok (true, bytes)) (cond ((byte == generic_head) || (byte == generic_this_head)) (Err (Feature GenericMethod)) (cond ((byte == vararg_head) || (byte == vararg_this_head)) (Err (Feature Varargs)) (nothing_at (byte ∷ bytes))))) (Err end) → Goal
  this p true t h = absurd cc
  this p false t h = generic p t ((byte == generic_head) || (byte == generic_this_head)) refl h

  plain : (b : Bool) → (byte == default_head) ≡ b
      → ◌≡◌ {A = Reading Bool} (cond b (Ok (false, bytes)) (cond (byte == default_this_head) (Ok (true, bytes)) (cond ((byte == generic_head) || (byte == generic_this_head)) (Err (Feature GenericMethod)) (cond ((byte == vararg_head) || (byte == vararg_this_head)) (Err (Feature Varargs)) (nothing_at (byte ∷ bytes)))))) (Err end) → Goal
  plain true p h = absurd cc
  plain false p h = this p (byte == default_this_head) refl h

pub method-halts : (bytes : List ℕ) (end : Stop) → AreBytes bytes → method_at bytes ≡ Err end → Halts OfMethods (IsFront SpellsMethod) (Ends method_at) bytes end
unfolding method_at
method-halts bytes end small h =
    either_ends (head_at bytes) _ end Goal h
    (λ none. halts-after [] bytes bytes end refl (λ front byte name n. n) (λ front f. f) (λ others s same ends. method_head others s ends) (head-halts bytes end none))
    (λ x found later.
    let head = head-found bytes x.1 x.0 found in
    after_head x.0 x.1 head (bytes-after bytes (head_of x.0 ∷ []) x.1 head small) later) where
      Goal : Type 0
      Goal = Halts OfMethods (IsFront SpellsMethod) (Ends method_at) bytes end

      after_result : (has_this : Bool) (result : Option (List SigPart)) (count own rest : List ℕ) (n : ℕ) → bytes ≡ (head_of has_this ∷ (count ++ own)) ++ rest → Spells count n → SpellsResult result own → AreBytes rest → sigs_at n rest ≡ Err end → Goal
      after_result has_this result count own rest n e spelled typed small_rest h =
          halts-after (head_of has_this ∷ (count ++ own)) rest bytes end e (λ front byte name n. inl n)
          (λ front f. (
            signature has_this result f.0,
            f.1,
            (
              count,
              own,
              front ++ f.1,
              subst (λ m. Spells count m) (sym f.2) spelled,
              typed,
              f.3,
              ap (λ (zs : List ℕ). head_of has_this ∷ zs) (append_assoc (count ++ own) front f.1 ∙ append_assoc count own (front ++ f.1)),
            ),
          ))
          (λ others s same ends. ap (λ (zs : List ℕ). method_at (head_of has_this ∷ zs)) (append_assoc count own others) ∙ method_params has_this count own others n result s spelled typed ends)
          (sigs-halt n rest end small_rest h)

      after_count : (has_this : Bool) (count rest : List ℕ) (n : ℕ) → bytes ≡ (head_of has_this ∷ count) ++ rest → Spells count n → AreBytes rest
          → (result_at rest >>= λ result. (sigs_at n result.1 >>= signed has_this result.0)) ≡ Err end → Goal
      after_count has_this count rest n e spelled small_rest h =
          either_ends (result_at rest) _ end Goal h
          (λ none. halts-after (head_of has_this ∷ count) rest bytes end e (λ front byte name n. inl n)
          (λ front f.
          let params = sigs_filled n in (
            signature has_this f.0 params.0,
            f.1 ++ params.1,
            (
              count,
              front ++ f.1,
              params.1,
              subst (λ m. Spells count m) (sym params.2) spelled,
              f.2,
              params.3,
              ap (λ (zs : List ℕ). head_of has_this ∷ zs) (append_assoc count front (f.1 ++ params.1) ∙ ap (λ (zs : List ℕ). count ++ zs) (sym (append_assoc front f.1 params.1))),
            ),
          ))
          (λ others s same ends. method_result has_this count others n s spelled ends)
          (result-halts rest end small_rest none))
          (λ x found later.
          let r = result-found rest x.1 x.0 small_rest found in
          let small_after = bytes-after rest r.0 x.1 r.2 small_rest in
          let joined : bytes ≡ (head_of has_this ∷ (count ++ r.0)) ++ x.1 =
          e ∙ ap (λ (zs : List ℕ). head_of has_this ∷ zs) (ap (λ (zs : List ℕ). count ++ zs) r.2 ∙ sym (append_assoc count r.0 x.1)) in
          either_ends (sigs_at n x.1) _ end Goal later
          (λ none. after_result has_this x.0 count r.0 x.1 n joined spelled r.1 small_after none)
          (λ y k z. absurd cc))

      after_head : (has_this : Bool) (rest : List ℕ) → bytes ≡ head_of has_this ∷ rest → AreBytes rest
          → (number_at rest >>= λ count. (result_at count.1 >>= λ result. (sigs_at count.0 result.1 >>= signed has_this result.0))) ≡ Err end → Goal
      after_head has_this rest e small_rest h =
          either_ends (number_at rest) _ end Goal h
          (λ none. halts-after (head_of has_this ∷ []) rest bytes end e (λ front byte name n. inl n)
          (λ front f.
          let params = sigs_filled f.0 in (
            signature has_this None params.0,
            f.1 ++ void_byte ∷ params.1,
            (
              front ++ f.1,
              void_byte ∷ [],
              params.1,
              subst (λ m. Spells (front ++ f.1) m) (sym params.2) f.2.0,
              void-result,
              params.3,
              ap (λ (zs : List ℕ). head_of has_this ∷ zs) (sym (append_assoc front f.1 (void_byte ∷ params.1))),
            ),
          ))
          (λ others s same ends. method_count has_this others s ends)
          (number-halts rest end small_rest none))
          (λ x found later.
          let n = number-found rest x.1 x.0 small_rest found in
          after_count has_this n.0 x.1 x.0 (e ∙ ap (λ (zs : List ℕ). head_of has_this ∷ zs) n.2) n.1 (bytes-after rest n.0 x.1 n.2 small_rest) later)
