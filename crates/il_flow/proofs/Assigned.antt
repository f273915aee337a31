-- What may go into a place may go into a place above it.
use Rattle.std.proofs.Common.{◌≡◌, ◌⊎◌, inl, inr, ℕ, zero, suc, [], ◌∷◌, Some, None, refl, sym, ap, subst, ◌∙◌, arith}
use Rattle.signatures.specs.Keys.{element_of}
use Rattle.signatures.specs.declared.key.KeyPart.TheVariants.{Prim, Class, Vector}
use Rattle.il_flow.specs.declared.stack.StackType.{StackType}
use Rattle.il_flow.specs.declared.stack.StackType.TheVariants.{Int32, Int64, Native, Null, Ref}
use Rattle.il_flow.specs.Families.{Family, object, above, Climbs, Names, Leads}
use Rattle.il_flow.specs.Merging.{IsUnderType}
use Rattle.il_flow.specs.Assigning.{IsKindOf, Suits, IsAssignable}
use Rattle.il_flow.proofs.Order.{Key, KeysCompare, no-above, step-up}

-- one step more
pub leads-more : (family : Family) (n : ℕ) (low mid high : Key) → Leads family n low mid →
    Names family mid high → Leads family (suc n) low high
leads-more family zero low mid high leads names =
    (high, subst (λ k. Names family k high) (sym leads) names, refl)
leads-more family (suc n) low mid high leads names =
    (leads.0, leads.1, leads-more family n leads.0 mid high leads.2 names)

kind-step : (family : Family) (value a b : Key) → IsKindOf family value a → (a ≡ object → ⊥) →
    Names family a b ⊎ (b ≡ object) → IsKindOf family value b
kind-step family value a b kind other (inr is) = inl is
kind-step family value a b (inl is) other (inl names) = absurd (other is)
kind-step family value a b (inr led) other (inl names) =
    inr (suc led.0, leads-more family led.0 value a b led.1 names)

kind-up : KeysCompare → (family : Family) (n : ℕ) (value a b : Key) → IsKindOf family value a →
    Climbs family n a b → IsKindOf family value b
kind-up compare family zero value a b kind climbs = subst (λ k. IsKindOf family value k) climbs kind
kind-up compare family (suc n) value a b kind climbs =
    kind-up compare family n value climbs.0 b
    (kind-step family value a climbs.0 kind
    (λ is. no-above compare family climbs.0 (ap (λ k. above family k) (sym is) ∙ climbs.1))
    (step-up family a climbs.0 climbs.1))
    climbs.2

pub suits-of-kind : (family : Family) (value place : Key) → IsKindOf family value place →
    Suits family value place
suits-of-kind family (Vector ∷ value) (Vector ∷ place) kind = inl kind
suits-of-kind family (Vector ∷ value) [] kind = kind
suits-of-kind family (Vector ∷ value) (Prim p ∷ place) kind = kind
suits-of-kind family (Vector ∷ value) (Class a r n ∷ place) kind = kind
suits-of-kind family [] place kind = kind
suits-of-kind family (Prim p ∷ value) place kind = kind
suits-of-kind family (Class a r n ∷ value) place kind = kind

kind-of-suits : (family : Family) (value place : Key) → element_of place ≡ None →
    Suits family value place → IsKindOf family value place
kind-of-suits family (Vector ∷ value) (Vector ∷ place) plain suits = absurd (cc plain)
kind-of-suits family (Vector ∷ value) [] plain suits = suits
kind-of-suits family (Vector ∷ value) (Prim p ∷ place) plain suits = suits
kind-of-suits family (Vector ∷ value) (Class a r n ∷ place) plain suits = suits
kind-of-suits family [] place plain suits = suits
kind-of-suits family (Prim p ∷ value) place plain suits = suits
kind-of-suits family (Class a r n ∷ value) place plain suits = suits

-- above an array is System.Object alone
array-up : (family : Family) (element next : Key) → above family (Vector ∷ element) ≡ Some next →
    next ≡ object
array-up family element next e = at (step-up family (Vector ∷ element) next e)
  where
    at : Names family (Vector ∷ element) next ⊎ (next ≡ object) → next ≡ object
    at (inr is) = is
    at (inl (inl names)) = absurd (cc names)
    at (inl (inr listed)) = absurd (omega (arith, listed.1))

on-object : KeysCompare → (family : Family) (n : ℕ) (b : Key) → Climbs family n object b → b ≡ object
on-object compare family zero b climbs = sym climbs
on-object compare family (suc n) b climbs = absurd (no-above compare family climbs.0 climbs.1)

suits-up : KeysCompare → (family : Family) (n : ℕ) (value a b : Key) → Suits family value a →
    Climbs family n a b → Suits family value b
suits-up compare family zero value a b suits climbs = subst (λ k. Suits family value k) climbs suits
suits-up compare family (suc n) value (Vector ∷ a) b suits climbs =
    let up : Climbs family n object b =
    subst (λ k. Climbs family n k b) (array-up family a climbs.0 climbs.1) climbs.2 in
    suits-of-kind family value b (inl (on-object compare family n b up))
suits-up compare family (suc n) value [] b suits climbs =
    suits-of-kind family value b
    (kind-up compare family (suc n) value [] b (kind-of-suits family value [] refl suits) climbs)
suits-up compare family (suc n) value (Prim p ∷ a) b suits climbs =
    suits-of-kind family value b
    (kind-up compare family (suc n) value (Prim p ∷ a) b
    (kind-of-suits family value (Prim p ∷ a) refl suits) climbs)
suits-up compare family (suc n) value (Class c r m ∷ a) b suits climbs =
    suits-of-kind family value b
    (kind-up compare family (suc n) value (Class c r m ∷ a) b
    (kind-of-suits family value (Class c r m ∷ a) refl suits) climbs)

-- a value that may go into a place of a type may go into one of a type above it
pub stays : KeysCompare → (family : Family) → (value a b : StackType) →
    IsAssignable family value a → IsUnderType family a b → IsAssignable family value b
stays compare family value Int32 b fits under = subst (λ x. IsAssignable family value x) under fits
stays compare family value Int64 b fits under = subst (λ x. IsAssignable family value x) under fits
stays compare family value Native b fits under = subst (λ x. IsAssignable family value x) under fits
stays compare family Int32 Null b fits under = absurd fits
stays compare family Int64 Null b fits under = absurd fits
stays compare family Native Null b fits under = absurd fits
stays compare family Null Null b fits under = absurd fits
stays compare family (Ref value) Null b fits under = absurd fits
stays compare family Int32 (Ref a) b fits under = absurd fits
stays compare family Int64 (Ref a) b fits under = absurd fits
stays compare family Native (Ref a) b fits under = absurd fits
stays compare family Null (Ref a) b fits under =
    subst (λ x. IsAssignable family Null x) (sym under.1) tt
stays compare family (Ref value) (Ref a) b fits under =
    subst (λ x. IsAssignable family (Ref value) x) (sym under.1)
    (suits-up compare family under.2.0 value a under.0 fits under.2.1)
