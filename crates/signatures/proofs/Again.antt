-- What is spelled is read, whatever bytes follow it.
use Rattle.std.proofs.Common.{◌≡◌, ℕ, zero, suc, ◌+◌, ◌-◌, ◌%◌, ◌≤◌, ◌⊎◌, inl, inr, ◌||◌, Bool, true, false, cond, List, [], ◌∷◌, ◌++◌, map, length, Option, Some, None, Ok, refl, sym, ap, ◌∙◌, subst, append_assoc, length-append, arith}
use Rattle.std.specs.Prelude.{◌==◌}
use Rattle.std.proofs.lemmas.List.{append-nil}
use Rattle.std.proofs.lemmas.Bool.{eqb-true, ne_eqb}
use Rattle.std.proofs.Math.Seq.{drop-append_seam}
use Rattle.cli_words.specs.Compressed.{Spells}
use Rattle.cli_words.proofs.Spelled.{compressed_spelled}
use Rattle.signatures.specs.declared.sig.SigPart.{SigPart}
use Rattle.signatures.specs.declared.sig.SigPart.TheVariants.{Prim, Class, Var, Inst, Vector}
use Rattle.signatures.specs.declared.sig.MethodSig.{MethodSig}
use Rattle.signatures.specs.declared.element.Element.{Element}
use Rattle.signatures.specs.declared.element.Element.TheVariants as element
use Rattle.signatures.specs.Types.{arity, are_types}
use Rattle.signatures.specs.Elements.{element_of}
use Rattle.signatures.specs.Kinds.{head_of}
use Rattle.signatures.specs.Grammar.{number_at, class_at, past_modifier, after_modifiers, generic_at, bare_part_at, part_at, types_at, type_at, bare_result_at, result_at, sigs_at, after_kind, head_at, method_at, locals_at, field_at}
use Rattle.signatures.specs.Spelling.{SpellsClass, SpellsModifiers, AreModifiers, SpellsPart, SpellsParts, SpellsType, SpellsTypes, SpellsResult, SpellsField, SpellsLocals, SpellsMethod}
use Rattle.signatures.proofs.Loops.{modifiers_done}

pub number-again : (bytes rest : List ℕ) (n : ℕ) → Spells bytes n → number_at (bytes ++ rest) ≡ Ok (n, rest)
unfolding number_at
number-again bytes rest n s = rw (compressed_spelled rest bytes n s, drop-append_seam bytes rest) refl

pub class-again : (bytes rest : List ℕ) (n : ℕ) → SpellsClass bytes n → class_at (bytes ++ rest) ≡ Ok (n, rest)
unfolding class_at
class-again bytes rest n s = rw (number-again bytes rest n s.0, ne_eqb (n % 4) 3 s.1) refl

pub begins : (byte : ℕ) (rest : List ℕ) → (byte ≡ 0x1F) ⊎ (byte ≡ 0x20) → past_modifier (byte ∷ rest) ≡ Some rest
begins byte rest (inl e) = subst (λ b. past_modifier (b ∷ rest) ≡ Some rest) (sym e) refl
begins byte rest (inr e) = subst (λ b. past_modifier (b ∷ rest) ≡ Some rest) (sym e) refl

pub modifier_step : (steps : ℕ) (bytes after more : List ℕ) (n : ℕ) → past_modifier bytes ≡ Some after → class_at after ≡ Ok (n, more) → after_modifiers (suc steps) bytes ≡ after_modifiers steps more
unfolding after_modifiers
modifier_step steps bytes after more n e h = rw (e, h) refl

pub modifiers_again : (count steps : ℕ) (front rest : List ℕ) → SpellsModifiers count front → past_modifier rest ≡ None → length (front ++ rest) ≤ steps → after_modifiers steps (front ++ rest) ≡ Ok rest
modifiers_again zero steps front rest h none enough =
    subst (λ zs. after_modifiers steps (zs ++ rest) ≡ Ok rest) (sym h) (modifiers_done steps rest (after_modifiers steps rest) none refl)
modifiers_again (suc count) zero front rest h none enough =
    let e : length (front ++ rest) ≡ length ((h.0 ∷ (h.1 ++ h.3)) ++ rest) = ap (λ (zs : List ℕ). length (zs ++ rest)) h.7 in
    absurd (omega (arith, e))
modifiers_again (suc count) (suc steps) front rest h none enough =
    let e : front ++ rest ≡ h.0 ∷ (h.1 ++ (h.3 ++ rest)) = ap (λ (zs : List ℕ). zs ++ rest) h.7 ∙ ap (λ (zs : List ℕ). h.0 ∷ zs) (append_assoc h.1 h.3 rest) in
    let size : length (front ++ rest) ≡ suc (length h.1 + length (h.3 ++ rest)) = ap (λ (zs : List ℕ). length zs) e ∙ ap (λ (k : ℕ). suc k) (length-append h.1 (h.3 ++ rest)) in
    let step = modifier_step steps (h.0 ∷ (h.1 ++ (h.3 ++ rest))) (h.1 ++ (h.3 ++ rest)) (h.3 ++ rest) h.2 (begins h.0 (h.1 ++ (h.3 ++ rest)) h.4) (class-again h.1 (h.3 ++ rest) h.2 h.5) in
    ap (λ (zs : List ℕ). after_modifiers (suc steps) zs) e ∙ (step ∙ modifiers_again count steps h.3 rest h.6 none (omega (arith, size)))

-- no byte begins both a modifier and a type
pub no_modifier : (byte : ℕ) (rest : List ℕ) (e : Element) → element_of byte ≡ Some e → past_modifier (byte ∷ rest) ≡ None
unfolding element_of
no_modifier byte rest e h =
    elim (byte == 0x1F) as (λ b. (byte == 0x1F) ≡ b → cond (b || (byte == 0x20)) (Some rest) None ≡ None) [
      | true ↦ λ b. let x : element_of 0x1F ≡ Some e = subst (λ z. element_of z ≡ Some e) (eqb-true byte 0x1F b) h in absurd cc
      | false ↦ λ b. elim (byte == 0x20) as (λ d. (byte == 0x20) ≡ d → cond d (Some rest) None ≡ None) [
        | true ↦ λ d. let x : element_of 0x20 ≡ Some e = subst (λ z. element_of z ≡ Some e) (eqb-true byte 0x20 d) h in absurd cc
        | false ↦ λ d. refl
      ] refl
    ] refl

-- no byte begins both void and a type
pub no_void : (byte : ℕ) (e : Element) → element_of byte ≡ Some e → (byte == 0x01) ≡ false
unfolding element_of
no_void byte e h =
    elim (byte == 0x01) as (λ b. (byte == 0x01) ≡ b → b ≡ false) [
      | true ↦ λ b. let x : element_of 0x01 ≡ Some e = subst (λ z. element_of z ≡ Some e) (eqb-true byte 0x01 b) h in absurd cc
      | false ↦ λ b. refl
    ] refl

-- the byte that a part begins with
abbrev Begins : List ℕ → Type 0
Begins own = (byte : ℕ) × (tail : List ℕ) × (e : Element) × (element_of byte ≡ Some e) × (own ≡ byte ∷ tail)

pub part-begins : (part : SigPart) (own : List ℕ) → SpellsPart part own → Begins own
part-begins (Prim prim) own h = (h.0, [], element.Prim prim, h.1, h.2)
part-begins (Class n) own h = (h.0, h.1, element.Class, h.2, h.4)
part-begins (Var n) own h = (h.0, h.1, element.Var, h.2, h.4)
part-begins (Inst n args) own h = (h.0, 0x12 ∷ (h.1 ++ h.2), element.Inst, h.3, h.6)
part-begins Vector own h = (h.0, [], element.Vector, h.1, h.2)

pub generic-again : (number count rest : List ℕ) (n args : ℕ) → SpellsClass number n → Spells count args → generic_at (0x12 ∷ ((number ++ count) ++ rest)) ≡ Ok (Inst n args, rest)
unfolding generic_at
generic-again number count rest n args c s = rw (append_assoc number count rest, class-again number (count ++ rest) n c, number-again count rest args s) refl

pub bare_part-again : (part : SigPart) (own rest : List ℕ) → SpellsPart part own → bare_part_at (own ++ rest) ≡ Ok (part, rest)
unfolding bare_part_at
bare_part-again (Prim prim) own rest h = rw (h.2, h.1) refl
bare_part-again (Class n) own rest h = rw (h.4, h.2, class-again h.1 rest n h.3) refl
bare_part-again (Var n) own rest h = rw (h.4, h.2, number-again h.1 rest n h.3) refl
bare_part-again (Inst n args) own rest h = rw (h.6, h.3) (generic-again h.1 h.2 rest n args h.4 h.5)
bare_part-again Vector own rest h = rw (h.2, h.1) refl

pub part-again : (part : SigPart) (modifiers own rest : List ℕ) → AreModifiers modifiers → SpellsPart part own → part_at (modifiers ++ (own ++ rest)) ≡ Ok (part, rest)
unfolding part_at
part-again part modifiers own rest m h =
    let b = part-begins part own h in
    let none : past_modifier (own ++ rest) ≡ None = ap (λ (zs : List ℕ). past_modifier (zs ++ rest)) b.4 ∙ no_modifier b.0 (b.1 ++ rest) b.2 b.3 in
    rw (modifiers_again m.0 (length (modifiers ++ (own ++ rest))) modifiers (own ++ rest) m.1 none (omega arith)) (bare_part-again part own rest h)

pub types_step : (steps n : ℕ) (bytes after rest : List ℕ) (first : SigPart) (others : List SigPart) → part_at bytes ≡ Ok (first, after) → types_at steps (n + arity first) after ≡ Ok (others, rest) → types_at (suc steps) (suc n) bytes ≡ Ok (first ∷ others, rest)
unfolding types_at
types_step steps n bytes after rest first others h k = rw (h, k) refl

types-none : (steps : ℕ) (rest : List ℕ) → types_at steps zero rest ≡ Ok ([], rest)
unfolding types_at
types-none steps rest = refl

pub types-again : (parts : List SigPart) (n steps : ℕ) (front rest : List ℕ) → are_types n (map arity parts) ≡ true → SpellsParts parts front → length (front ++ rest) ≤ steps → types_at steps n (front ++ rest) ≡ Ok (parts, rest)
types-again [] zero steps front rest whole h enough = subst (λ zs. types_at steps zero (zs ++ rest) ≡ Ok ([], rest)) (sym h) (types-none steps rest)
types-again [] (suc n) steps front rest whole h enough = absurd cc
types-again (part ∷ parts) zero steps front rest whole h enough = absurd cc
types-again (part ∷ parts) (suc n) steps front rest whole h enough =
    let after = h.2 ++ rest in
    let e : front ++ rest ≡ h.0 ++ (h.1 ++ after) =
    ap (λ (zs : List ℕ). zs ++ rest) h.6 ∙ (append_assoc h.0 (h.1 ++ h.2) rest ∙ ap (λ (zs : List ℕ). h.0 ++ zs) (append_assoc h.1 h.2 rest)) in
    let b = part-begins part h.1 h.4 in
    let own : length h.1 ≡ suc (length b.1) = ap (λ (zs : List ℕ). length zs) b.4 in
    let size : length (front ++ rest) ≡ length h.0 + (length h.1 + length after) =
    ap (λ (zs : List ℕ). length zs) e ∙ (length-append h.0 (h.1 ++ after) ∙ ap (λ (k : ℕ). length h.0 + k) (length-append h.1 after)) in
    let fewer : steps ≡ suc (steps - 1) = omega (arith, own, size) in
    let step = types_step (steps - 1) n (h.0 ++ (h.1 ++ after)) after rest part parts (part-again part h.0 h.1 after h.3 h.4)
    (types-again parts (n + arity part) (steps - 1) h.2 rest whole h.5 (omega (arith, own, size))) in
    ap (λ (zs : List ℕ). types_at steps (suc n) zs) e ∙ (ap (λ (k : ℕ). types_at k (suc n) (h.0 ++ (h.1 ++ after))) fewer ∙ step)

pub type-again : (sig : List SigPart) (front rest : List ℕ) → SpellsType sig front → type_at (front ++ rest) ≡ Ok (sig, rest)
unfolding type_at
type-again sig front rest h = types-again sig 1 (length (front ++ rest)) front rest h.0 h.1 (omega arith)

pub sigs-again : (sigs : List (List SigPart)) (front rest : List ℕ) → SpellsTypes sigs front → sigs_at (length sigs) (front ++ rest) ≡ Ok (sigs, rest)
unfolding sigs_at
sigs-again [] front rest h = subst (λ zs. sigs_at 0 (zs ++ rest) ≡ Ok ([], rest)) (sym h) refl
sigs-again (sig ∷ sigs) front rest h =
    let e : front ++ rest ≡ h.0 ++ (h.1 ++ rest) = ap (λ (zs : List ℕ). zs ++ rest) h.4 ∙ append_assoc h.0 h.1 rest in
    rw (e, type-again sig h.0 (h.1 ++ rest) h.2, sigs-again sigs h.1 rest h.3) refl

pub field-again : (front rest : List ℕ) (sig : List SigPart) → SpellsField sig front → field_at (front ++ rest) ≡ Ok (sig, rest)
unfolding field_at after_kind
field-again front rest sig h = rw h.2 (type-again sig h.0 rest h.1)

pub locals-again : (front rest : List ℕ) (sigs : List (List SigPart)) → SpellsLocals sigs front → locals_at (front ++ rest) ≡ Ok (sigs, rest)
unfolding locals_at after_kind
locals-again front rest sigs h = rw (h.4, append_assoc h.0 h.1 rest, number-again h.0 (h.1 ++ rest) (length sigs) h.2) (sigs-again sigs h.1 rest h.3)

pub void-again : (modifiers rest : List ℕ) → AreModifiers modifiers → result_at (modifiers ++ 0x01 ∷ rest) ≡ Ok (None, rest)
unfolding result_at
void-again modifiers rest m =
    let none : past_modifier (0x01 ∷ rest) ≡ None = refl in
    rw (modifiers_again m.0 (length (modifiers ++ 0x01 ∷ rest)) modifiers (0x01 ∷ rest) m.1 none (omega arith)) refl

bare_result-again : (sig : List SigPart) (byte : ℕ) (tail rest : List ℕ) → (byte == 0x01) ≡ false → type_at (byte ∷ tail) ≡ Ok (sig, rest) → bare_result_at (byte ∷ tail) ≡ Ok (Some sig, rest)
bare_result-again sig byte tail rest e t = rw (e, t) refl

typed-again : (part : SigPart) (parts : List SigPart) (front rest : List ℕ) → SpellsType (part ∷ parts) front → result_at (front ++ rest) ≡ Ok (Some (part ∷ parts), rest)
unfolding result_at
typed-again part parts front rest h =
    let p = h.1 in
    let after = p.1 ++ (p.2 ++ rest) in
    let e : front ++ rest ≡ p.0 ++ after =
    ap (λ (zs : List ℕ). zs ++ rest) p.6 ∙ (append_assoc p.0 (p.1 ++ p.2) rest ∙ ap (λ (zs : List ℕ). p.0 ++ zs) (append_assoc p.1 p.2 rest)) in
    let b = part-begins part p.1 p.4 in
    let starts : after ≡ b.0 ∷ (b.1 ++ (p.2 ++ rest)) = ap (λ (zs : List ℕ). zs ++ (p.2 ++ rest)) b.4 in
    let none : past_modifier after ≡ None = ap (λ (zs : List ℕ). past_modifier zs) starts ∙ no_modifier b.0 (b.1 ++ (p.2 ++ rest)) b.2 b.3 in
    let t : type_at after ≡ Ok (part ∷ parts, rest) =
    ap (λ (zs : List ℕ). type_at zs) (sym (append_assoc p.1 p.2 rest)) ∙ type-again (part ∷ parts) (p.1 ++ p.2) rest (h.0, ([], p.1, p.2, (0, refl), p.4, p.5, refl)) in
    let own : bare_result_at after ≡ Ok (Some (part ∷ parts), rest) =
    ap (λ (zs : List ℕ). bare_result_at zs) starts
    ∙ bare_result-again (part ∷ parts) b.0 (b.1 ++ (p.2 ++ rest)) rest (no_void b.0 b.2 b.3) (ap (λ (zs : List ℕ). type_at zs) (sym starts) ∙ t) in
    rw (e, modifiers_again p.3.0 (length (p.0 ++ after)) p.0 after p.3.1 none (omega arith)) own

pub result-again : (result : Option (List SigPart)) (front rest : List ℕ) → SpellsResult result front → result_at (front ++ rest) ≡ Ok (result, rest)
result-again None front rest h =
    let e : front ++ rest ≡ h.0 ++ 0x01 ∷ rest = ap (λ (zs : List ℕ). zs ++ rest) h.2 ∙ append_assoc h.0 (0x01 ∷ []) rest in
    ap (λ (zs : List ℕ). result_at zs) e ∙ void-again h.0 rest h.1
result-again (Some []) front rest h = absurd (no_sig h.0) where
  no_sig : ¬ (are_types 1 [] ≡ true)
  no_sig e = absurd cc
result-again (Some (part ∷ parts)) front rest h = typed-again part parts front rest h

pub head-again : (has_this : Bool) (rest : List ℕ) → head_at (head_of has_this ∷ rest) ≡ Ok (has_this, rest)
unfolding head_at
head-again true rest = refl
head-again false rest = refl

pub method-again : (front rest : List ℕ) (sig : MethodSig) → SpellsMethod sig front → method_at (front ++ rest) ≡ Ok (sig, rest)
unfolding method_at
method-again front rest sig h =
    rw (h.6, append_assoc h.0 (h.1 ++ h.2) rest, append_assoc h.1 h.2 rest, head-again sig.has_this (h.0 ++ (h.1 ++ (h.2 ++ rest))), number-again h.0 (h.1 ++ (h.2 ++ rest)) (length sig.params) h.3, result-again sig.result h.1 (h.2 ++ rest) h.4, sigs-again sig.params h.2 rest h.5) refl
