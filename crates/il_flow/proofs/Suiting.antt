-- When arrays suit.
use Rattle.std.proofs.Common.{◌≡◌, ◌⊎◌, ◌↔◌, inl, inr, ◌<◌, true, false, Bool, [], ◌∷◌, length, Some, None, refl, sym, ap, subst, arith, IsTrue, Result, Ok, Err, IfOk}
use Rattle.signatures.specs.Keys.{element_of}
use Rattle.signatures.specs.declared.key.KeyPart.TheVariants.{Prim, Class, Vector}
use Rattle.il_flow.specs.StackTypes.{is_reference}
use Rattle.il_flow.specs.Families.{Family, object, IsLed}
use Rattle.il_flow.specs.Assigning.{IsKindOf, Suits}
use Rattle.il_flow.proofs.Order.{Key}
use Rattle.il_flow.proofs.Assigned.{suits-of-kind}

pub array-of : (key element : Key) → element_of key ≡ Some element → key ≡ Vector ∷ element
array-of [] element e = absurd (cc e)
array-of (Prim p ∷ key) element e = absurd (cc e)
array-of (Class a r n ∷ key) element e = absurd (cc e)
array-of (Vector ∷ key) element e = let same : key ≡ element = cc e in ap (λ k. Vector ∷ k) same

pub element-shorter : (key element : Key) → element_of key ≡ Some element → length element < length key
element-shorter key element e =
    let is = ap (λ (k : Key). length k) (array-of key element e) in omega (arith, is)

kind-left : (family : Family) (value place : Key) → element_of value ≡ None → Suits family value place →
    IsKindOf family value place
kind-left family [] place e suits = suits
kind-left family (Prim p ∷ value) place e suits = suits
kind-left family (Class a r n ∷ value) place e suits = suits
kind-left family (Vector ∷ value) place e suits = absurd (cc e)

kind-right : (family : Family) (value place : Key) → element_of place ≡ None → Suits family value place →
    IsKindOf family value place
kind-right family (Vector ∷ value) (Vector ∷ place) e suits = absurd (cc e)
kind-right family (Vector ∷ value) [] e suits = suits
kind-right family (Vector ∷ value) (Prim p ∷ place) e suits = suits
kind-right family (Vector ∷ value) (Class a r n ∷ place) e suits = suits
kind-right family [] place e suits = suits
kind-right family (Prim p ∷ value) place e suits = suits
kind-right family (Class a r n ∷ value) place e suits = suits

pub no-left : (family : Family) (value place : Key) → element_of value ≡ None →
    (IsKindOf family value place → ⊥) → Suits family value place → ⊥
no-left family value place e other suits = other (kind-left family value place e suits)

pub no-right : (family : Family) (value place : Key) → element_of place ≡ None →
    (IsKindOf family value place → ⊥) → Suits family value place → ⊥
no-right family value place e other suits = other (kind-right family value place e suits)

arrays : (family : Family) (value place : Key) → (IsKindOf family (Vector ∷ value) (Vector ∷ place) → ⊥) →
    Suits family (Vector ∷ value) (Vector ∷ place) →
    IsTrue (is_reference value) × IsTrue (is_reference place) × Suits family value place
arrays family value place other (inl kind) = absurd (other kind)
arrays family value place other (inr rest) = rest

pub no-elements : (family : Family) (value place from to : Key) → element_of value ≡ Some from →
    element_of place ≡ Some to → (is_reference from ≡ false) ⊎ (is_reference to ≡ false) →
    (IsKindOf family value place → ⊥) → Suits family value place → ⊥
no-elements family value place from to v p numbers other suits =
    let here : Suits family (Vector ∷ from) (Vector ∷ to) =
    subst (λ k. Suits family k (Vector ∷ to)) (array-of value from v)
    (subst (λ k. Suits family value k) (array-of place to p) suits) in
    let not : IsKindOf family (Vector ∷ from) (Vector ∷ to) → ⊥ =
    λ kind. other (subst (λ k. IsKindOf family k place) (sym (array-of value from v))
    (subst (λ k. IsKindOf family (Vector ∷ from) k) (sym (array-of place to p)) kind)) in
    by numbers (arrays family from to not here)
  where
    by : (is_reference from ≡ false) ⊎ (is_reference to ≡ false) →
        IsTrue (is_reference from) × IsTrue (is_reference to) × Suits family from to → ⊥
    by (inl e) rest = cc (e, rest.0)
    by (inr e) rest = cc (e, rest.1)

pub elements-suit : (family : Family) (value place from to : Key) → element_of value ≡ Some from →
    element_of place ≡ Some to → is_reference from ≡ true → is_reference to ≡ true →
    (IsKindOf family value place → ⊥) → Suits family value place ↔ Suits family from to
elements-suit family value place from to v p first second other =
    subst (λ k. Suits family k place ↔ Suits family from to) (sym (array-of value from v))
    (subst (λ k. Suits family (Vector ∷ from) k ↔ Suits family from to) (sym (array-of place to p))
    (on, λ suits. inr (first, second, suits)))
  where
    not : IsKindOf family (Vector ∷ from) (Vector ∷ to) → ⊥
    not kind = other (subst (λ k. IsKindOf family k place) (sym (array-of value from v))
        (subst (λ k. IsKindOf family (Vector ∷ from) k) (sym (array-of place to p)) kind))

    on : Suits family (Vector ∷ from) (Vector ∷ to) → Suits family from to
    on suits = (arrays family from to not suits).2

-- what holds of an answer, holds so of what follows from it
pub if-ok : {T E : Type 0} (r : Result T E) (P Q : T → Type 0) → ((x : T) → P x → Q x) →
    IfOk r P → IfOk r Q
if-ok (Ok x) P Q f h = f x h
if-ok (Err e) P Q f h = tt

pub kind-by-leads : (family : Family) (value place : Key) → (place ≡ object → ⊥) → (is : Bool) →
    (IsTrue is ↔ IsLed family value place) → IsTrue is ↔ IsKindOf family value place
kind-by-leads family value place other is led = (λ h. inr (led.0 h), back)
  where
    back : IsKindOf family value place → IsTrue is
    back (inl e) = absurd (other e)
    back (inr up) = led.1 up

-- the end of a search through elements
pub suits-none : (family : Family) (value place low high : Key) →
    Suits family value place ↔ Suits family low high → (Suits family low high → ⊥) →
    IsTrue false ↔ Suits family value place
suits-none family value place low high same other = (λ h. absurd (cc h), λ h. absurd (other (same.0 h)))

pub suits-at-once : (family : Family) (value place low high : Key) →
    Suits family value place ↔ Suits family low high → IsKindOf family low high →
    IsTrue true ↔ Suits family value place
suits-at-once family value place low high same kind =
    (λ _. same.1 (suits-of-kind family low high kind), λ _. refl)
