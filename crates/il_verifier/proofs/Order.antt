-- What is known of the order of merging.
use Rattle.std.proofs.Common.{◌≡◌, ◌⊎◌, List, [], ◌∷◌, None, refl, ap, ◌∙◌}
use Rattle.signatures.specs.declared.key.KeyPart.{KeyPart}
use Rattle.signatures.specs.Keys.{element_of}
use Rattle.il_flow.specs.Families.{Family, object, IsOnChain}
use Rattle.il_flow.specs.Merging.{Held, joined, IsUnder, AreUnder}

abbrev pub Key : Type 0
Key = List KeyPart

-- a merge is the least above both, in an order
pub record IsMerging (family : Family) : Type 0 where
  pub same : (a : Held) → IsUnder family a a
  pub trans : (a b c : Held) → IsUnder family a b → IsUnder family b c → IsUnder family a c
  pub anti : (a b : Held) → IsUnder family a b → IsUnder family b a → a ≡ b
  pub upper : (a b : Held) → IsUnder family a (joined family a b) × IsUnder family b (joined family a b)
  pub least : (a b c : Held) → IsUnder family a c → IsUnder family b c → IsUnder family (joined family a b) c

pub record IsOrder (family : Family) : Type 0 where
  pub same : (a : Held) → IsUnder family a a
  pub trans : (a b c : Held) → IsUnder family a b → IsUnder family b c → IsUnder family a c
  pub anti : (a b : Held) → IsUnder family a b → IsUnder family b a → a ≡ b
  pub upper : (a b : Held) → IsUnder family a (joined family a b) × IsUnder family b (joined family a b)
  pub least : (a b c : Held) → IsUnder family a c → IsUnder family b c → IsUnder family (joined family a b) c
  pub topped : (key : Key) → IsOnChain family key object
  pub plain : (low high : Key) → IsOnChain family low high → (low ≡ high) ⊎ (element_of high ≡ None)

-- stacks under one another both ways are one
pub zip-anti : (family : Family) → ((a b : Held) → IsUnder family a b → IsUnder family b a → a ≡ b) →
    (a b : List Held) → AreUnder family a b → AreUnder family b a → a ≡ b
zip-anti family anti [] [] ab ba = refl
zip-anti family anti (x ∷ a) (y ∷ b) ab ba =
    ap (λ z. z ∷ a) (anti x y ab.0 ba.0) ∙ ap (λ rest. y ∷ rest) (zip-anti family anti a b ab.1 ba.1)
zip-anti family anti [] (y ∷ b) ab ba = absurd ab
zip-anti family anti (x ∷ a) [] ab ba = absurd ab
