-- What stands above a type: System.Object at the end, and no array.
use Rattle.std.proofs.Common.{◌≡◌, ◌⊎◌, inl, inr, ℕ, zero, suc, true, false, Bool, cond, [], ◌∷◌, Option, Some, None, refl, sym, ap, subst, ◌∙◌, unwrap_or}
use Rattle.signatures.specs.SameKeys.{same_key}
use Rattle.signatures.specs.Keys.{element_of}
use Rattle.signatures.specs.declared.key.KeyPart.TheVariants.{Prim, Class, Vector}
use Rattle.il_flow.specs.Families.{Family, IsFamily, object, parent_of, above, Climbs, IsOnChain}
use Rattle.il_flow.proofs.Order.{Key, KeysCompare, climbs-lead}

-- System.Object is on every chain
pub object-on : KeysCompare → (family : Family) → IsFamily family → (key : Key) →
    IsOnChain family key object
object-on compare family short key = at (top 66 key)
  where
    ends : (key : Key) → above family key ≡ None → key ≡ object
    ends key e = by (same_key key object) refl e
      where
        by : (b : Bool) → same_key key object ≡ b →
            cond b None (Some (unwrap_or (parent_of family key) object)) ≡ None → key ≡ object
        by true is e = (compare key object).0 is
        by false is e = absurd (cc e)

    next : (n : ℕ) → ((key : Key) → IsOnChain family key object ⊎ ((high : Key) × Climbs family n key high)) →
        (key : Key) (o : Option Key) → above family key ≡ o →
        IsOnChain family key object ⊎ ((high : Key) × Climbs family (suc n) key high)
    next n again key None e = inl (0, ends key e)
    next n again key (Some up) e = go (again up)
      where
        go : IsOnChain family up object ⊎ ((high : Key) × Climbs family n up high) →
            IsOnChain family key object ⊎ ((high : Key) × Climbs family (suc n) key high)
        go (inl on) = inl (suc on.0, (up, e, on.1))
        go (inr rest) = inr (rest.0, (up, e, rest.1))

    top : (n : ℕ) (key : Key) → IsOnChain family key object ⊎ ((high : Key) × Climbs family n key high)
    top zero key = inr (key, refl)
    top (suc n) key = next n (λ k. top n k) key (above family key) refl

    at : IsOnChain family key object ⊎ ((high : Key) × Climbs family 66 key high) →
        IsOnChain family key object
    at (inl on) = on
    at (inr rest) =
        let leads = climbs-lead compare family 65 key rest.0 rest.1 in
        absurd (short.short key leads.0 leads.1)

-- what is right above a type is no array
parent-plain : (family : Family) → IsFamily family → (key parent : Key) →
    parent_of family key ≡ Some parent → element_of parent ≡ None
parent-plain family short [] parent is = short.no_array [] parent is
parent-plain family short (Prim p ∷ parts) parent is = short.no_array (Prim p ∷ parts) parent is
parent-plain family short (Class a r n ∷ parts) parent is = short.no_array (Class a r n ∷ parts) parent is
parent-plain family short (Vector ∷ parts) parent is = absurd (cc is)

pub above-plain : (family : Family) → IsFamily family → (key next : Key) →
    above family key ≡ Some next → element_of next ≡ None
above-plain family short key next e =
    by (parent_of family key) refl (taken (same_key key object) (unwrap_or (parent_of family key) object) e)
  where
    taken : (b : Bool) (p : Key) → cond b None (Some p) ≡ Some next → p ≡ next
    taken true p e = absurd (cc e)
    taken false p e = cc e

    by : (o : Option Key) → parent_of family key ≡ o → unwrap_or o object ≡ next → element_of next ≡ None
    by None is e = ap (λ (k : Key). element_of k) (sym e)
    by (Some p) is e = ap (λ (k : Key). element_of k) (sym e) ∙ parent-plain family short key p is

-- and so no array stands above a type
pub on-plain : (family : Family) → IsFamily family → (n : ℕ) (low high : Key) →
    Climbs family n low high → (low ≡ high) ⊎ (element_of high ≡ None)
on-plain family short zero low high climbs = inl climbs
on-plain family short (suc n) low high climbs = inr (onward n climbs.0 (above-plain family short low climbs.0 climbs.1) climbs.2)
  where
    onward : (n : ℕ) (mid : Key) → element_of mid ≡ None → Climbs family n mid high → element_of high ≡ None
    onward zero mid plain climbs = subst (λ k. element_of k ≡ None) climbs plain
    onward (suc n) mid plain climbs = onward n climbs.0 (above-plain family short mid climbs.0 climbs.1) climbs.2
