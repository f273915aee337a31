-- A family for tests: a class with a parent and an interface (own).
use Rattle.std.specs.Prelude.{◌≡◌, ◌⊎◌, ℕ, zero, suc, ◌<◌, ◌^◌, ◌-◌, Bool, true, false, cond, if◌then◌else◌, List, [], ◌∷◌, length, slice_index_or, Contains}
use Rattle.std.specs.Prelude.{Some, None}
use Rattle.std.proofs.Common.{inl, inr, refl, sym, subst, arith}
use Rattle.signatures.specs.declared.key.KeyPart.{KeyPart}
use Rattle.signatures.specs.declared.key.KeyPart.TheVariants as part
use Rattle.signatures.specs.SameKeys.{same_key}
use Rattle.signatures.specs.Keys.{element_of}
use Rattle.il_flow.specs.Families.{Family, IsFamily, Names}

-- the class or the interface of a row
abbrev pub class : ℕ → List KeyPart
class row = part.Class 1 row 0 ∷ []

-- class 2 has class 1 as its parent, and class 3 as its interface
abbrev pub sample : Family
sample = record {
  parent = λ key. if same_key key (class 2) then Some (class 1) else None;
  interfaces = λ key. if same_key key (class 2) then class 3 ∷ [] else [];
}

taken : (b : Bool) (next : List KeyPart) → cond b (Some (class 1)) None ≡ Some next → next ≡ class 1
taken true next e = cc e
taken false next e = absurd (cc e)

listed : (b : Bool) (next : List KeyPart) → Contains (cond b (class 3 ∷ []) []) next → next ≡ class 3
listed true next h = by h.0 h.1 h.2
  where
    by : (i : ℕ) → i < 1 → slice_index_or (class 3 ∷ []) i next ≡ next → next ≡ class 3
    by zero less e = sym e
    by (suc i) less e = absurd (omega (arith, less))
listed false next h = absurd (omega (arith, h.1))

above : (low next : List KeyPart) → Names sample low next → (next ≡ class 1) ⊎ (next ≡ class 3)
above [] next (inl e) = inl (taken (same_key [] (class 2)) next e)
above (part.Prim p ∷ low) next (inl e) = inl (taken (same_key (part.Prim p ∷ low) (class 2)) next e)
above (part.Class a r n ∷ low) next (inl e) = inl (taken (same_key (part.Class a r n ∷ low) (class 2)) next e)
above (part.Vector ∷ low) next (inl e) = absurd (cc e)
above [] next (inr h) = inr (listed (same_key [] (class 2)) next h)
above (part.Prim p ∷ low) next (inr h) = inr (listed (same_key (part.Prim p ∷ low) (class 2)) next h)
above (part.Class a r n ∷ low) next (inr h) = inr (listed (same_key (part.Class a r n ∷ low) (class 2)) next h)
above (part.Vector ∷ low) next (inr h) = absurd (omega (arith, h.1))

ends : (low next : List KeyPart) → (low ≡ class 1) ⊎ (low ≡ class 3) → Names sample low next → ⊥
ends low next (inl is) names = at (subst (λ k. Names sample k next) is names)
  where
    at : Names sample (class 1) next → ⊥
    at (inl e) = cc e
    at (inr h) = omega (arith, h.1)
ends low next (inr is) names = at (subst (λ k. Names sample k next) is names)
  where
    at : Names sample (class 3) next → ⊥
    at (inl e) = cc e
    at (inr h) = omega (arith, h.1)

plain : (b : Bool) (parent : List KeyPart) → cond b (Some (class 1)) None ≡ Some parent →
    element_of parent ≡ None
plain b parent e = subst (λ k. element_of k ≡ None) (sym (taken b parent e)) refl

few : (b : Bool) → length (cond b (class 3 ∷ []) []) < 2 ^ 32 - 1
few true = omega arith
few false = omega arith

pub sample_lawful : IsFamily sample
sample_lawful = record {
  short = λ low high leads. ends leads.0 leads.2.0 (above low leads.0 leads.1) leads.2.1;
  no_array = λ key parent e. plain (same_key key (class 2)) parent e;
  few = λ key. few (same_key key (class 2));
}
