-- Merging of stack types where two ways meet (own; after ECMA-335 III.1.8.1.3), and the order in which
-- what they merge to is the least type above both.
use Rattle.std.specs.Prelude.{◌≡◌, ℕ, zero, suc, IsTrue, List, [], ◌∷◌, Option, Some, None, option_map}
use Rattle.std.specs.List.{find, list_any, AllZip}
use Rattle.std.specs.Option.{option_map_or}
use Rattle.signatures.specs.declared.key.KeyPart.{KeyPart}
use Rattle.signatures.specs.SameKeys.{same_key}
use Rattle.il_flow.specs.declared.stack.StackType.{StackType}
use Rattle.il_flow.specs.declared.stack.StackType.TheVariants.{Int32, Int64, Native, Null, Ref}
use Rattle.il_flow.specs.StackTypes.{is_object}
use Rattle.il_flow.specs.Families.{Family, above, IsOnChain}

-- a type and the classes above it, the nearest first, with so many of them at most
unfoldable pub chain : Family → ℕ → List KeyPart → List (List KeyPart)
chain family zero key = key ∷ []
chain family (suc n) key =
    key ∷ option_map_or (λ next. chain family n next) (above family key) []

-- the whole chain: 64 above the first at most, and System.Object
abbrev pub chain_of : Family → List KeyPart → List (List KeyPart)
chain_of family key = chain family 65 key

-- the nearest class that is on both chains
abbrev pub nearest : Family → List KeyPart → List KeyPart → Option (List KeyPart)
nearest family a b =
    find (λ key. list_any (same_key key) (chain_of family b)) (chain_of family a)

-- two types as one: equal ones, null with a reference, and references to their nearest common class.
-- Others do not merge; native merges with native alone
abbrev pub merged : Family → StackType → StackType → Option StackType
merged family Int32 Int32 = Some Int32
merged family Int64 Int64 = Some Int64
merged family Native Native = Some Native
merged family Null Null = Some Null
merged family Null (Ref key) = Some (Ref key)
merged family (Ref key) Null = Some (Ref key)
merged family (Ref a) (Ref b) = option_map Ref (nearest family a b)
merged family _ _ = None

-- what a place of the stack holds: a type, or none where types met that do not merge
abbrev pub Held : Type 0
Held = Option StackType

abbrev pub joined : Family → Held → Held → Held
joined family (Some a) (Some b) = merged family a b
joined family _ _ = None

-- b is a, or above it: null is below each reference
abbrev pub IsUnderType : Family → StackType → StackType → Type 0
IsUnderType family Null b = IsTrue (is_object b)
IsUnderType family (Ref a) b = (key : List KeyPart) × (b ≡ Ref key) × IsOnChain family a key
IsUnderType family a b = a ≡ b

-- the same, where no type stands above all
abbrev pub IsUnder : Family → Held → Held → Type 0
IsUnder family a None = Unit {0}
IsUnder family None (Some b) = ⊥
IsUnder family (Some a) (Some b) = IsUnderType family a b

-- place by place, for stacks of one depth
abbrev pub AreUnder : Family → List Held → List Held → Type 0
AreUnder family low high = AllZip (IsUnder family) low high
