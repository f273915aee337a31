-- What the two values on top of a stack tell of a return.
use Rattle.std.proofs.Common.{◌≡◌, ◌↔◌, inl, inr, ◌-◌, ◌≤◌, Some, None, List, length, drop, length-drop, sym, ap, subst, ◌∙◌, arith}
use Rattle.std.proofs.lemmas.Bool.{cases_lt}
use Rattle.il_flow.specs.Families.{Family}
use Rattle.il_flow.specs.Merging.{Held}
use Rattle.il_verifier.specs.declared.effect.Operands.{Operands}
use Rattle.il_verifier.specs.declared.effect.Operands.TheVariants.{Each, Agreeing, Returned}
use Rattle.il_verifier.specs.Faults.{Returns}

-- a stack of two values or more is none that a method gives back
deep-none : (family : Family) (operands : Operands) (a b : List Held) → 2 ≤ length a → 2 ≤ length b →
    Returns family operands a ↔ Returns family operands b
deep-none family (Each wants) a b p q = (λ h. tt, λ h. tt)
deep-none family (Agreeing references) a b p q = (λ h. tt, λ h. tt)
deep-none family (Returned None) a b p q = (
  λ h. absurd (omega (arith, p, ap (λ (s : List Held). length s) h)),
  λ h. absurd (omega (arith, q, ap (λ (s : List Held). length s) h)),
)
deep-none family (Returned (Some place)) a b p q = (
  λ h. absurd (omega (arith, p, ap (λ (s : List Held). length s) h.1)),
  λ h. absurd (omega (arith, q, ap (λ (s : List Held). length s) h.1)),
)

pub returns-same : (family : Family) (operands : Operands) (stack top : List Held) → top ≡ drop (length stack - 2) stack →
    Returns family operands top ↔ Returns family operands stack
returns-same family operands stack top is = elim (cases_lt (length stack) 2) [
  | inl less ↦
      let k : length stack - 2 ≡ 0 = omega (arith, less) in
      let same : top ≡ stack = is ∙ ap (λ n. drop n stack) k in (
        λ h. subst (λ (s : List Held). Returns family operands s) same h,
        λ h. subst (λ (s : List Held). Returns family operands s) (sym same) h,
      )
  | inr past ↦
      let size : length top ≡ length stack - (length stack - 2) =
      ap (λ (s : List Held). length s) is ∙ length-drop (length stack - 2) stack in
      let two : 2 ≤ length top = omega (arith, size, past) in
      deep-none family operands top stack two past
]
