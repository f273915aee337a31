-- Paths of instructions.
use Rattle.std.proofs.Common.{◌≡◌, ℕ, List, [], ◌∷◌, ◌++◌, Option, Some, None, Ok, refl, sym}
use Rattle.std.proofs.Common.{ap, subst, ◌∙◌, ◌<◌, ◌≤◌, ◌+◌, true, false, cond, nat_eq, nat_le}
use Rattle.std.proofs.Common.{slice_index, length, arith, leb-true, ◌-◌, zero, suc, ◌⊎◌, inl, inr}
use Rattle.std.proofs.lemmas.Bool.{cases_lt}
use Rattle.std.specs.Option.{ok_or, option_and_then}
use Rattle.il_reader.specs.declared.instruction.Instr.{Instr}
use Rattle.il_reader.specs.declared.opcode.Form.{Form}
use Rattle.il_reader.specs.Opcodes.{form_of}
use Rattle.il_reader.specs.Instructions.{prefix, instruction_at, whole, opcode_len, opcode_at}
use Rattle.il_reader.specs.Instructions.{operand_len, operand_at}
use Rattle.il_reader.specs.Offsets.{IsNext, IsPath, AreBoundaries, IsBroken}
use Rattle.il_reader.proofs.Choices.{present, same}

-- a path goes on over one more instruction
pub IsPath-push : (code : List ℕ) (from : ℕ) (places : List ℕ) (at end : ℕ) →
    IsPath code from places at → IsNext code at end → IsPath code from (places ++ at ∷ []) end
IsPath-push code from [] at end e next = (sym e, end, next, refl)
IsPath-push code from (x ∷ places) at end path next =
    (path.0, path.1, path.2, IsPath-push code path.1 places at end path.3 next)

opcode_long : (code : List ℕ) (at : ℕ) → 0 < opcode_len code at
unfolding opcode_len
opcode_long code at = elim (nat_eq (slice_index code at) prefix) as (λ b. 0 < cond b 2 1) [
  | true ↦ omega arith
  | false ↦ omega arith
]

whole_within : (code : List ℕ) (at : ℕ) (form : Form) (found : Instr × ℕ) →
    whole code at form ≡ Some found → (at < found.1) × (found.1 ≤ length code)
unfolding whole
whole_within code at form found is =
    let from : ℕ = at + opcode_len code at in
    let end : ℕ = from + operand_len code from form in
    let instr : Instr = record { code = opcode_at code at; operand = operand_at code from form } in
    let read = present (nat_le end (length code)) (instr, end) found (sym is) in
    let ends : found.1 ≡ end = ap (λ (f : Instr × ℕ). f.1) read.1 in
    let within = leb-true end (length code) read.0 in
    let long = opcode_long code at in
    (omega (arith, ends, long), omega (arith, ends, within))

-- an instruction lies in its code
pub next_within : (code : List ℕ) (at end : ℕ) → IsNext code at end → (at < end) × (end ≤ length code)
unfolding instruction_at
next_within code at end next =
    let Is : Option Form → Type 0 =
    λ form. option_and_then (whole code at) form ≡ Some (next.0, end) →
    (at < end) × (end ≤ length code) in
    let by : (form : Option Form) → Is form =
    λ form. elim form as Is [
      | None ↦ λ is. absurd (cc (is))
      | Some form ↦ λ is. whole_within code at form (next.0, end) is
    ] in
    by (form_of (opcode_at code at)) next.1

-- each place of a path lies in the code
pub path_within : (code : List ℕ) (from : ℕ) (places : List ℕ) (to : ℕ) → IsPath code from places to →
    (k : ℕ) → k < length places → slice_index places k < length code
path_within code from [] to path k less = absurd (omega (arith, less))
path_within code from (at ∷ places) to path zero less =
    let within = next_within code at path.1 path.2 in omega (arith, within.0, within.1)
path_within code from (at ∷ places) to path (suc k) less =
    path_within code path.1 places to path.3 k (omega (arith, less))

-- no instruction stands at the end
pub none_at_end : (code : List ℕ) → instruction_at code (length code) ≡ None
none_at_end code = no (instruction_at code (length code)) refl
  where
    no : (o : Option (Instr × ℕ)) → instruction_at code (length code) ≡ o → o ≡ None
    no None is = refl
    no (Some found) is =
        let within = next_within code (length code) found.1 (found.0, is) in
        absurd (omega (arith, within.0, within.1))

-- there is one path to a place at which no instruction stands
pub one_path : (code : List ℕ) (from : ℕ) (xs ys : List ℕ) (a b : ℕ) →
    IsPath code from xs a → instruction_at code a ≡ None →
    IsPath code from ys b → instruction_at code b ≡ None → (xs ≡ ys) × (a ≡ b)
one_path code from [] [] a b p no-a q no-b = (refl, sym p ∙ q)
one_path code from [] (y ∷ ys) a b p no-a q no-b =
    let stands = ap (instruction_at code) q.0 ∙ (ap (instruction_at code) p ∙ no-a) in
    let next = q.2.1 in
    absurd (cc (stands, next))
one_path code from (x ∷ xs) [] a b p no-a q no-b =
    let stands = ap (instruction_at code) p.0 ∙ (ap (instruction_at code) q ∙ no-b) in
    let next = p.2.1 in
    absurd (cc (stands, next))
one_path code from (x ∷ xs) (y ∷ ys) a b p no-a q no-b =
    let here : x ≡ y = p.0 ∙ sym q.0 in
    let next-p = p.2.1 in
    let next-q = q.2.1 in
    let met =
    same (p.2.0, p.1) (q.2.0, q.1) (sym next-p ∙ (ap (instruction_at code) here ∙ next-q)) in
    let ends : p.1 ≡ q.1 = ap (λ (f : Instr × ℕ). f.1) met in
    let rest =
    one_path code p.1 xs ys a b p.3 no-a
    (subst (λ (k : ℕ). IsPath code k ys b) (sym ends) q.3) no-b in
    (cc (here, rest.0), rest.1)

-- the boundaries of a code are one list
pub one_list : (code xs ys : List ℕ) → AreBoundaries code xs → AreBoundaries code ys → xs ≡ ys
one_list code xs ys p q =
    let end = none_at_end code in
    (one_path code 0 xs ys (length code) (length code) p end q end).0

-- a code that has boundaries has no break
pub not_broken : (code xs : List ℕ) (at : ℕ) → AreBoundaries code xs → ¬ IsBroken code at
not_broken code xs at p broken =
    let end = none_at_end code in
    let met = one_path code 0 xs broken.0 (length code) at p end broken.1 broken.3 in
    omega (arith, met.1, broken.2)

-- a code breaks at one place at most
pub one_break : (code : List ℕ) (at other : ℕ) → IsBroken code at → IsBroken code other → at ≡ other
one_break code at other p q = (one_path code 0 p.0 q.0 at other p.1 p.3 q.1 q.3).1

abbrev pub EitherWay : List ℕ → Type 0
EitherWay code = ((places : List ℕ) × AreBoundaries code places) ⊎ ((at : ℕ) × IsBroken code at)

-- from a place that was come to, either the end is come to or a break
walk : (code : List ℕ) (steps : ℕ) (behind : List ℕ) (at : ℕ) → IsPath code 0 behind at →
    at ≤ length code → length code - at ≤ steps → EitherWay code
walk code zero behind at path within enough =
    let end : at ≡ length code = omega (arith, within, enough) in
    inl (behind, subst (IsPath code 0 behind) end path)
walk code (suc steps) behind at path within enough =
    elim (cases_lt at (length code)) [
      | inr past ↦
          let end : at ≡ length code = omega (arith, within, past) in
          inl (behind, subst (IsPath code 0 behind) end path)
      | inl before ↦ elim (instruction_at code at) as (λ o. instruction_at code at ≡ o → EitherWay code) [
        | None ↦ λ is. inr (at, (behind, path, before, is))
        | Some found ↦ λ is.
            let next : IsNext code at found.1 = (found.0, is) in
            let ends = next_within code at found.1 next in
            walk code steps (behind ++ at ∷ []) found.1
            (IsPath-push code 0 behind at found.1 path next) ends.1
            (omega (arith, enough, ends.0, ends.1))
      ] refl
    ]

-- a code has boundaries, or it has a break
pub boundaries_or_break : (code : List ℕ) → EitherWay code
boundaries_or_break code = walk code (length code) [] 0 refl (omega arith) (omega arith)

-- what was found where a fault was not given
pub found : {X E : Type 0} (o : Option X) (e : E) (x : X) → Ok x ≡ ok_or o e → o ≡ Some x
found None e x is = cc
found (Some y) e x is = cc
