-- A merge is the least type above both.
use Rattle.std.proofs.Common.{◌≡◌, Option, Some, None, option_map, refl, sym, ap, subst, ◌∙◌}
use Rattle.il_flow.specs.declared.stack.StackType.{StackType}
use Rattle.il_flow.specs.declared.stack.StackType.TheVariants.{Int32, Int64, Native, Null, Ref}
use Rattle.il_flow.specs.Families.{Family, IsFamily, IsOnChain}
use Rattle.il_flow.specs.StackTypes.{is_object}
use Rattle.il_flow.specs.Merging.{Held, merged, joined, nearest, IsUnderType, IsUnder}
use Rattle.il_flow.proofs.Order.{Key, KeysCompare, whole, on-on, on-anti, nearest-above, nearest-below}

type-same : (family : Family) (a : StackType) → IsUnderType family a a
type-same family Int32 = refl
type-same family Int64 = refl
type-same family Native = refl
type-same family Null = refl
type-same family (Ref key) = (key, refl, (0, refl))

type-trans : (family : Family) (a b c : StackType) → IsUnderType family a b → IsUnderType family b c →
    IsUnderType family a c
type-trans family Int32 b c ab bc = subst (λ x. IsUnderType family x c) (sym ab) bc
type-trans family Int64 b c ab bc = subst (λ x. IsUnderType family x c) (sym ab) bc
type-trans family Native b c ab bc = subst (λ x. IsUnderType family x c) (sym ab) bc
type-trans family Null Null c ab bc = bc
type-trans family Null (Ref key) c ab bc = ap is_object bc.1
type-trans family Null _ c ab bc = absurd (cc ab)
type-trans family (Ref key) b c ab bc =
    let next = subst (λ x. IsUnderType family x c) ab.1 bc in
    (next.0, next.1, on-on family ab.2.0 key ab.0 next.0 ab.2.1 next.2)

type-anti : KeysCompare → (family : Family) → IsFamily family → (a b : StackType) →
    IsUnderType family a b → IsUnderType family b a → a ≡ b
type-anti compare family short Int32 b ab ba = ab
type-anti compare family short Int64 b ab ba = ab
type-anti compare family short Native b ab ba = ab
type-anti compare family short Null Null ab ba = refl
type-anti compare family short Null (Ref key) ab ba = absurd (cc (ba.1))
type-anti compare family short Null _ ab ba = absurd (cc ab)
type-anti compare family short (Ref key) b ab ba =
    let back = subst (λ x. IsUnderType family x (Ref key)) ab.1 ba in
    let same : key ≡ back.0 = cc (back.1) in
    let down : IsOnChain family ab.0 key = subst (λ k. IsOnChain family ab.0 k) (sym same) back.2 in
    ap Ref (on-anti family (whole compare family short) key ab.0 ab.2 down) ∙ sym ab.1

type-upper : KeysCompare → (family : Family) (a b c : StackType) → merged family a b ≡ Some c →
    IsUnderType family a c × IsUnderType family b c
type-upper compare family Int32 Int32 c e = (cc e, cc e)
type-upper compare family Int64 Int64 c e = (cc e, cc e)
type-upper compare family Native Native c e = (cc e, cc e)
type-upper compare family Null Null c e =
    let is : c ≡ Null = cc e in (ap is_object is, ap is_object is)
type-upper compare family Null (Ref key) c e =
    let is : c ≡ Ref key = cc e in (ap is_object is, (key, is, (0, refl)))
type-upper compare family (Ref key) Null c e =
    let is : c ≡ Ref key = cc e in ((key, is, (0, refl)), ap is_object is)
type-upper compare family (Ref a) (Ref b) c e = at (nearest family a b) refl e
  where
    at : (o : Option Key) → nearest family a b ≡ o → option_map Ref o ≡ Some c →
        IsUnderType family (Ref a) c × IsUnderType family (Ref b) c
    at None is e = absurd (cc e)
    at (Some k) is e =
        let on = nearest-above compare family a b k is in
        let same : c ≡ Ref k = cc e in
        ((k, same, on.0), (k, same, on.1))
type-upper compare family _ _ c e = absurd (cc e)

type-least : KeysCompare → (family : Family) → IsFamily family → (a b c : StackType) →
    IsUnderType family a c → IsUnderType family b c →
    (d : StackType) × (merged family a b ≡ Some d) × IsUnderType family d c
type-least compare family short Int32 Int32 c ac bc = (Int32, refl, ac)
type-least compare family short Int64 Int64 c ac bc = (Int64, refl, ac)
type-least compare family short Native Native c ac bc = (Native, refl, ac)
type-least compare family short Null Null c ac bc = (Null, refl, ac)
type-least compare family short Null (Ref key) c ac bc = (Ref key, refl, bc)
type-least compare family short (Ref key) Null c ac bc = (Ref key, refl, ac)
type-least compare family short (Ref a) (Ref b) c ac bc =
    let same : bc.0 ≡ ac.0 = cc (ac.1, bc.1) in
    let over : IsOnChain family b ac.0 = subst (λ k. IsOnChain family b k) same bc.2 in
    let found = nearest-below compare family short a b ac.0 ac.2 over in
    (Ref found.0, ap (λ o. option_map Ref o) found.1, (ac.0, ac.1, found.2))
type-least compare family short Int32 Null c ac bc = absurd (cc (ap is_object ac, bc))
type-least compare family short Int64 Null c ac bc = absurd (cc (ap is_object ac, bc))
type-least compare family short Native Null c ac bc = absurd (cc (ap is_object ac, bc))
type-least compare family short Null Int32 c ac bc = absurd (cc (ap is_object bc, ac))
type-least compare family short Null Int64 c ac bc = absurd (cc (ap is_object bc, ac))
type-least compare family short Null Native c ac bc = absurd (cc (ap is_object bc, ac))
type-least compare family short Int32 (Ref key) c ac bc = absurd (cc (ac, bc.1))
type-least compare family short Int64 (Ref key) c ac bc = absurd (cc (ac, bc.1))
type-least compare family short Native (Ref key) c ac bc = absurd (cc (ac, bc.1))
type-least compare family short (Ref key) Int32 c ac bc = absurd (cc (bc, ac.1))
type-least compare family short (Ref key) Int64 c ac bc = absurd (cc (bc, ac.1))
type-least compare family short (Ref key) Native c ac bc = absurd (cc (bc, ac.1))
type-least compare family short _ _ c ac bc = absurd (cc (ac, bc))

pub under-same : (family : Family) (a : Held) → IsUnder family a a
under-same family None = tt
under-same family (Some a) = type-same family a

pub under-trans : (family : Family) (a b c : Held) → IsUnder family a b → IsUnder family b c →
    IsUnder family a c
under-trans family a b None ab bc = tt
under-trans family (Some a) (Some b) (Some c) ab bc = type-trans family a b c ab bc
under-trans family (Some a) None (Some c) ab bc = absurd bc
under-trans family None (Some b) (Some c) ab bc = absurd ab
under-trans family None None (Some c) ab bc = absurd bc

pub under-anti : KeysCompare → (family : Family) → IsFamily family → (a b : Held) →
    IsUnder family a b → IsUnder family b a → a ≡ b
under-anti compare family short None None ab ba = refl
under-anti compare family short None (Some b) ab ba = absurd ab
under-anti compare family short (Some a) None ab ba = absurd ba
under-anti compare family short (Some a) (Some b) ab ba =
    ap (λ x. Some x) (type-anti compare family short a b ab ba)

pub joined-upper : KeysCompare → (family : Family) (a b : Held) →
    IsUnder family a (joined family a b) × IsUnder family b (joined family a b)
joined-upper compare family (Some a) (Some b) = above (merged family a b) refl
  where
    above : (o : Held) → merged family a b ≡ o → IsUnder family (Some a) o × IsUnder family (Some b) o
    above None e = (tt, tt)
    above (Some c) e = type-upper compare family a b c e
joined-upper compare family (Some a) None = (tt, tt)
joined-upper compare family None (Some b) = (tt, tt)
joined-upper compare family None None = (tt, tt)

pub joined-least : KeysCompare → (family : Family) → IsFamily family → (a b c : Held) →
    IsUnder family a c → IsUnder family b c → IsUnder family (joined family a b) c
joined-least compare family short a b None ac bc = tt
joined-least compare family short (Some a) (Some b) (Some c) ac bc =
    let d = type-least compare family short a b c ac bc in
    subst (λ o. IsUnder family o (Some c)) (sym d.1) d.2
joined-least compare family short (Some a) None (Some c) ac bc = absurd bc
joined-least compare family short None (Some b) (Some c) ac bc = absurd ac
joined-least compare family short None None (Some c) ac bc = absurd ac
