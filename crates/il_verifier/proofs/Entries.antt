-- What was found of pairs of types, among what is noted.
use Rattle.std.proofs.Common.{◌≡◌, ◌⊎◌, inl, inr, List, Contains, sym, subst}
use Rattle.il_verifier.specs.declared.pairs.Entry.{Entry}

-- where one more is noted of which something holds as of the others
pub all-noted : {T : Type 0} (Holds : Entry T → Type 0) (old new : List (Entry T)) (entry : Entry T) →
    ((other : Entry T) → Contains new other → Contains old other ⊎ (other ≡ entry)) → Holds entry →
    ((other : Entry T) → Contains old other → Holds other) → (other : Entry T) → Contains new other → Holds other
all-noted Holds old new entry noted holds all other there = elim (noted other there) [
  | inl before ↦ all other before
  | inr same ↦ subst Holds (sym same) holds
]
