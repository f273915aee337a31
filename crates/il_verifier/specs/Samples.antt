-- A family for tests: nothing but System.Object stands above a type (own).
use Rattle.std.specs.Prelude.{List, [], ◌∷◌, None}
use Rattle.std.proofs.Common.{inl, inr, arith}
use Rattle.signatures.specs.declared.key.KeyPart.{KeyPart}
use Rattle.signatures.specs.declared.key.KeyPart.TheVariants as part
use Rattle.il_flow.specs.Families.{Family, IsFamily, Names}

abbrev pub sample : Family
sample = record { parent = λ key. None; interfaces = λ key. [] }

none : (low next : List KeyPart) → Names sample low next → ⊥
none [] next (inl e) = cc e
none (part.Prim p ∷ low) next (inl e) = cc e
none (part.Class a r n ∷ low) next (inl e) = cc e
none (part.Vector ∷ low) next (inl e) = cc e
none [] next (inr h) = omega (arith, h.1)
none (part.Prim p ∷ low) next (inr h) = omega (arith, h.1)
none (part.Class a r n ∷ low) next (inr h) = omega (arith, h.1)
none (part.Vector ∷ low) next (inr h) = omega (arith, h.1)

pub sample_lawful : IsFamily sample
sample_lawful = record {
  short = λ low high leads. none low leads.0 leads.1;
  no_array = λ key parent e. absurd (cc e);
  few = λ key. omega arith;
}
