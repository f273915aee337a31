-- Which references suit places of their own type.
use Rattle.std.proofs.Common.{◌↔◌, IsTrue, true, inl, inr, List, [], ◌∷◌, ◌≡◌, refl, subst}
use Rattle.signatures.specs.declared.key.KeyPart.{KeyPart}
use Rattle.signatures.specs.declared.key.KeyPart.TheVariants.{Prim, Class, Vector}
use Rattle.il_flow.specs.Families.{Family}
use Rattle.il_flow.specs.Assigning.{Suits}

suits-self : (family : Family) (key : List KeyPart) → Suits family key key
suits-self family [] = inr (0, refl)
suits-self family (Prim p ∷ key) = inr (0, refl)
suits-self family (Class a r n ∷ key) = inr (0, refl)
suits-self family (Vector ∷ key) = inl (inr (0, refl))

pub suits-same : (family : Family) (value place : List KeyPart) → value ≡ place → IsTrue true ↔ Suits family value place
suits-same family value place same =
    (λ yes. subst (λ (key : List KeyPart). Suits family value key) same (suits-self family value), λ fits. refl)
