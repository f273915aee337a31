-- What a verdict tells.
use Rattle.std.proofs.Common.{◌≡◌, ℕ, Option, Some, None, List, refl, ap, subst, ◌∙◌, inl, inr}
use Rattle.host_events.specs.declared.outcome.VerifyRule.{VerifyRule}
use Rattle.il_flow.specs.Families.{Family}
use Rattle.il_verifier.specs.declared.facts.BodyFacts.{BodyFacts}
use Rattle.il_verifier.specs.declared.line.Line.{Line}
use Rattle.il_verifier.specs.Lines.{AreLines}
use Rattle.il_verifier.specs.Typings.{Typing, IsLeast}
use Rattle.il_verifier.specs.Faults.{NoneFails, FailsDepths, IsFirst, depth_rules, IsTyped, HasFault}
use Rattle.il_verifier.specs.TypeRules.{IsTypeFault}
use Rattle.il_verifier.specs.Laws.{OneVerdict, IsVerdict}

faulty : (family : Family) (facts : BodyFacts) (fault : ℕ × VerifyRule) → OneVerdict family facts →
    HasFault family facts fault.0 fault.1 → IsVerdict family facts (Some fault)
faulty family facts fault one has = record {
  checked = (λ e. absurd (cc e), λ typed. absurd (one.either fault.0 fault.1 typed has));
  fault = λ at rule. (forth at rule, back at rule);
}
  where
    forth : (at : ℕ) (rule : VerifyRule) → Some fault ≡ Some (at, rule) → HasFault family facts at rule
    forth at rule e =
        let same : fault ≡ (at, rule) = cc e in
        subst (λ (f : ℕ × VerifyRule). HasFault family facts f.0 f.1) same has

    back : (at : ℕ) (rule : VerifyRule) → HasFault family facts at rule → Some fault ≡ Some (at, rule)
    back at rule h =
        let same = one.one fault.0 at fault.1 rule has h in
        ap (λ (k : ℕ). Some (k, fault.1)) same.0 ∙ ap (λ (r : VerifyRule). Some (at, r)) same.1

pub depths-tell : (family : Family) (facts : BodyFacts) (lines : List (Option Line)) (fault : ℕ × VerifyRule) → OneVerdict family facts →
    AreLines facts lines → IsFirst (FailsDepths facts.max_stack lines) depth_rules fault.0 fault.1 →
    IsVerdict family facts (Some fault)
depths-tell family facts lines fault one are first = faulty family facts fault one (lines, are, inl first)

pub types-tell : (family : Family) (facts : BodyFacts) (lines : List (Option Line)) (typing : Typing) (fault : Option (ℕ × VerifyRule)) →
    OneVerdict family facts → AreLines facts lines → NoneFails (FailsDepths facts.max_stack lines) depth_rules →
    IsLeast family facts.max_stack lines typing → IsTypeFault family facts.max_stack lines typing fault →
    IsVerdict family facts fault
types-tell family facts lines typing None one are clean least kept =
    let typed : IsTyped family facts =
    (lines, typing, are, record { depths = clean; least = least; types = kept }) in
    record {
      checked = (λ e. typed, λ h. refl);
      fault = λ at rule. (λ e. absurd (cc e), λ has. absurd (one.either at rule typed has));
    }
types-tell family facts lines typing (Some fault) one are clean least first =
    faulty family facts fault one (lines, are, inr (clean, typing, least, first))
