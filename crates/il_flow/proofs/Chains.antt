-- Chains of classes, one class after another.
use Rattle.std.proofs.Common.{◌≡◌, ℕ, zero, suc, ◌-◌, ◌+◌, ◌<◌, List, [], ◌∷◌, ◌++◌, Some, None, is_some, refl, sym, ap, ◌∙◌, append_assoc, true, false, arith}
use Rattle.std.specs.Option.{option_map_or}
use Rattle.signatures.specs.Keys.{element_of}
use Rattle.signatures.specs.declared.key.KeyPart.TheVariants.{Prim, Class, Vector}
use Rattle.il_flow.specs.Families.{Family, above, parent_of, interfaces_of}
use Rattle.il_flow.specs.Merging.{chain}
use Rattle.il_flow.proofs.Order.{Key}

chain-next : (family : Family) (n : ℕ) (key next : Key) → above family key ≡ Some next →
    chain family (suc n) key ≡ key ∷ chain family n next
unfolding chain
chain-next family n key next e = ap (λ o. key ∷ option_map_or (λ k. chain family n k) o []) e

chain-last : (family : Family) (n : ℕ) (key : Key) → above family key ≡ None →
    chain family n key ≡ key ∷ []
unfolding chain
chain-last family zero key e = refl
chain-last family (suc n) key e = ap (λ o. key ∷ option_map_or (λ k. chain family n k) o []) e

pub one-more : (family : Family) (keys all : List Key) (i : ℕ) (last next : Key) → i < 65 →
    above family last ≡ Some next → keys ++ chain family (65 - i) last ≡ all →
    (keys ++ last ∷ []) ++ chain family (65 - (i + 1)) next ≡ all
one-more family keys all i last next less e made =
    let count : 65 - i ≡ suc (65 - (i + 1)) = omega arith in
    append_assoc keys (last ∷ []) (chain family (65 - (i + 1)) next)
    ∙ (ap (λ rest. keys ++ rest)
    (sym (ap (λ n. chain family n last) count ∙ chain-next family (65 - (i + 1)) last next e))
    ∙ made)

pub no-more : (family : Family) (keys all : List Key) (n : ℕ) (last : Key) →
    above family last ≡ None → keys ++ chain family n last ≡ all → keys ++ last ∷ [] ≡ all
no-more family keys all n last e made = ap (λ rest. keys ++ rest) (sym (chain-last family n last e)) ∙ made

pub spent : (family : Family) (keys all : List Key) (n : ℕ) (last : Key) → n ≡ 0 →
    keys ++ chain family n last ≡ all → keys ++ last ∷ [] ≡ all
unfolding chain
spent family keys all n last e made = ap (λ m. keys ++ chain family m last) (sym e) ∙ made

pub array-parent : (family : Family) (key : Key) → is_some (element_of key) ≡ true →
    parent_of family key ≡ None
array-parent family [] e = absurd (cc e)
array-parent family (Prim p ∷ key) e = absurd (cc e)
array-parent family (Class a r n ∷ key) e = absurd (cc e)
array-parent family (Vector ∷ key) e = refl

pub plain-parent : (family : Family) (key : Key) → is_some (element_of key) ≡ false →
    parent_of family key ≡ family.parent key
plain-parent family [] e = refl
plain-parent family (Prim p ∷ key) e = refl
plain-parent family (Class a r n ∷ key) e = refl
plain-parent family (Vector ∷ key) e = absurd (cc e)

pub array-interfaces : (family : Family) (key : Key) → is_some (element_of key) ≡ true →
    interfaces_of family key ≡ []
array-interfaces family [] e = absurd (cc e)
array-interfaces family (Prim p ∷ key) e = absurd (cc e)
array-interfaces family (Class a r n ∷ key) e = absurd (cc e)
array-interfaces family (Vector ∷ key) e = refl

pub plain-interfaces : (family : Family) (key : Key) → is_some (element_of key) ≡ false →
    interfaces_of family key ≡ family.interfaces key
plain-interfaces family [] e = refl
plain-interfaces family (Prim p ∷ key) e = refl
plain-interfaces family (Class a r n ∷ key) e = refl
plain-interfaces family (Vector ∷ key) e = absurd (cc e)
