-- What an instruction leaves on the stack rises with what it finds there.
use Rattle.std.proofs.Common.{◌≡◌, ◌⊎◌, inl, inr, ℕ, zero, suc, ◌-◌, true, false, Bool, cond, ◌&&◌, List, [], ◌∷◌, ◌++◌, length, map, take, drop, Some, None, refl, sym, ap, subst, ◌∙◌, IsTrue, unwrap_or}
use Rattle.signatures.specs.declared.key.KeyPart.TheVariants.{Prim, Class, Vector}
use Rattle.signatures.specs.Keys.{element_of as key_element}
use Rattle.il_flow.specs.declared.stack.StackType.{StackType}
use Rattle.il_flow.specs.declared.stack.StackType.TheVariants.{Int32, Int64, Native, Null, Ref}
use Rattle.il_flow.specs.StackTypes.{is_reference, is_object}
use Rattle.il_flow.specs.Families.{Family, object}
use Rattle.il_flow.specs.Merging.{Held, IsUnderType, IsUnder, AreUnder}
use Rattle.il_verifier.specs.declared.effect.Gift.{Gift}
use Rattle.il_verifier.specs.declared.effect.Gift.TheVariants as gift
use Rattle.il_verifier.specs.Effects.{takes, agreed, is_number, is_size, operand, sum_of, same_of, element_of, given, operands_on, below_operands}
use Rattle.il_verifier.specs.Laws.{Rises}
use Rattle.il_verifier.proofs.Order.{Key, IsOrder}

-- a list under another, place by place
pub zip-take : (family : Family) (n : ℕ) (low high : List Held) → AreUnder family low high →
    AreUnder family (take n low) (take n high)
zip-take family zero low high under = tt
zip-take family (suc n) [] [] under = tt
zip-take family (suc n) (a ∷ low) (b ∷ high) under = (under.0, zip-take family n low high under.1)
zip-take family (suc n) [] (b ∷ high) under = absurd under
zip-take family (suc n) (a ∷ low) [] under = absurd under

pub zip-drop : (family : Family) (n : ℕ) (low high : List Held) → AreUnder family low high →
    AreUnder family (drop n low) (drop n high)
zip-drop family zero low high under = under
zip-drop family (suc n) [] [] under = tt
zip-drop family (suc n) (a ∷ low) (b ∷ high) under = zip-drop family n low high under.1
zip-drop family (suc n) [] (b ∷ high) under = absurd under
zip-drop family (suc n) (a ∷ low) [] under = absurd under

pub zip-length : (family : Family) (low high : List Held) → AreUnder family low high → length low ≡ length high
zip-length family [] [] under = refl
zip-length family (a ∷ low) (b ∷ high) under = ap (λ n. suc n) (zip-length family low high under.1)
zip-length family [] (b ∷ high) under = absurd under
zip-length family (a ∷ low) [] under = absurd under

pub zip-append : (family : Family) (low high more most : List Held) → AreUnder family low high →
    AreUnder family more most → AreUnder family (low ++ more) (high ++ most)
zip-append family [] [] more most under rest = rest
zip-append family (a ∷ low) (b ∷ high) more most under rest =
    (under.0, zip-append family low high more most under.1 rest)
zip-append family [] (b ∷ high) more most under rest = absurd under
zip-append family (a ∷ low) [] more most under rest = absurd under

zip-operand : (family : Family) (n : ℕ) (low high : List Held) → AreUnder family low high →
    IsUnder family (operand low n) (operand high n)
zip-operand family n [] [] under = tt
zip-operand family zero (a ∷ low) (b ∷ high) under = under.0
zip-operand family (suc n) (a ∷ low) (b ∷ high) under = zip-operand family n low high under.1
zip-operand family n [] (b ∷ high) under = absurd under
zip-operand family n (a ∷ low) [] under = absurd under

-- a type under another is that number, or both are references
pub numbers-stay : (family : Family) (a b : StackType) → IsUnderType family a b →
    (a ≡ b) ⊎ (IsTrue (is_object a) × IsTrue (is_object b))
numbers-stay family Int32 b under = inl under
numbers-stay family Int64 b under = inl under
numbers-stay family Native b under = inl under
numbers-stay family Null b under = inr (refl, under)
numbers-stay family (Ref key) b under = inr (refl, ap is_object under.1)

no-sum-first : (a b : StackType) → IsTrue (is_object a) → agreed a b ≡ None
no-sum-first Null Int32 h = refl
no-sum-first Null Int64 h = refl
no-sum-first Null Native h = refl
no-sum-first Null Null h = refl
no-sum-first Null (Ref key) h = refl
no-sum-first (Ref a) Int32 h = refl
no-sum-first (Ref a) Int64 h = refl
no-sum-first (Ref a) Native h = refl
no-sum-first (Ref a) Null h = refl
no-sum-first (Ref a) (Ref key) h = refl
no-sum-first _ b h = absurd (cc h)

no-sum-second : (a b : StackType) → IsTrue (is_object b) → agreed a b ≡ None
no-sum-second Int32 Null h = refl
no-sum-second Int64 Null h = refl
no-sum-second Native Null h = refl
no-sum-second Null Null h = refl
no-sum-second (Ref a) Null h = refl
no-sum-second Int32 (Ref key) h = refl
no-sum-second Int64 (Ref key) h = refl
no-sum-second Native (Ref key) h = refl
no-sum-second Null (Ref key) h = refl
no-sum-second (Ref a) (Ref key) h = refl
no-sum-second a _ h = absurd (cc h)

pub same-sum : (family : Family) (a b c d : StackType) → IsUnderType family a c → IsUnderType family b d →
    agreed a b ≡ agreed c d
same-sum family a b c d ac bd = by (numbers-stay family a c ac) (numbers-stay family b d bd)
  where
    by : (a ≡ c) ⊎ (IsTrue (is_object a) × IsTrue (is_object c)) →
        (b ≡ d) ⊎ (IsTrue (is_object b) × IsTrue (is_object d)) → agreed a b ≡ agreed c d
    by (inl ac) (inl bd) = ap (λ x. agreed x b) ac ∙ ap (λ y. agreed c y) bd
    by (inr objects) bd = no-sum-first a b objects.0 ∙ sym (no-sum-first c d objects.1)
    by (inl ac) (inr objects) = no-sum-second a b objects.0 ∙ sym (no-sum-second c d objects.1)

-- a number that is a number stays it, and what is none stays none
not-number : (a : StackType) → IsTrue (is_object a) → (is_number a ≡ false) × (is_size a ≡ false)
not-number Null h = (refl, refl)
not-number (Ref key) h = (refl, refl)
not-number _ h = absurd (cc h)

kept-or-32 : (a b : StackType) → is_number a ≡ is_number b → ((a ≡ b) ⊎ (is_number a ≡ false)) →
    cond (is_number a) a Int32 ≡ cond (is_number b) b Int32
kept-or-32 a b same (inl is) = ap (λ x. cond (is_number x) x Int32) is
kept-or-32 a b same (inr none) =
    ap (λ t. cond t a Int32) none ∙ sym (ap (λ t. cond t b Int32) (sym same ∙ none))

-- what holds of an under-type for the tests of a shifted number
pub same-tests : (family : Family) (a b : StackType) → IsUnderType family a b →
    (is_number a ≡ is_number b) × (is_size a ≡ is_size b) × ((a ≡ b) ⊎ (is_number a ≡ false))
same-tests family a b under = by (numbers-stay family a b under)
  where
    by : (a ≡ b) ⊎ (IsTrue (is_object a) × IsTrue (is_object b)) →
        (is_number a ≡ is_number b) × (is_size a ≡ is_size b) × ((a ≡ b) ⊎ (is_number a ≡ false))
    by (inl is) = (ap is_number is, ap is_size is, inl is)
    by (inr objects) =
        let low = not-number a objects.0 in
        let high = not-number b objects.1 in
        (low.0 ∙ sym high.0, low.1 ∙ sym high.1, inr low.0)

kept-by : (a b : StackType) (s t : Bool) → is_number a ≡ is_number b → s ≡ t →
    ((a ≡ b) ⊎ (is_number a ≡ false)) →
    cond (is_number a && s) a Int32 ≡ cond (is_number b && t) b Int32
kept-by a b s t same sizes (inl is) =
    ap (λ x. cond (is_number x && s) x Int32) is ∙ ap (λ y. cond (is_number b && y) b Int32) sizes
kept-by a b s t same sizes (inr none) =
    ap (λ x. cond (x && s) a Int32) none ∙ sym (ap (λ x. cond (x && t) b Int32) (sym same ∙ none))

-- an equal type is under it
under-equal : (family : Family) (a b : Held) → a ≡ b → IsOrder family → IsUnder family a b
under-equal family a b is laws = subst (λ x. IsUnder family a x) is (laws.same a)

sum-rises : (family : Family) → IsOrder family → (a b c d : Held) → IsUnder family a c → IsUnder family b d →
    IsUnder family (sum_of a b) (sum_of c d)
sum-rises family laws (Some a) (Some b) (Some c) (Some d) ac bd =
    under-equal family (sum_of (Some a) (Some b)) (sum_of (Some c) (Some d))
    (ap (λ o. Some (unwrap_or o Int32)) (same-sum family a b c d ac bd)) laws
sum-rises family laws a b None d ac bd = tt
sum-rises family laws a b (Some c) None ac bd = tt
sum-rises family laws None b (Some c) (Some d) ac bd = absurd ac
sum-rises family laws (Some a) None (Some c) (Some d) ac bd = absurd bd

same-rises : (family : Family) → IsOrder family → (low high : List Held) → AreUnder family low high →
    IsUnder family (same_of low) (same_of high)
same-rises family laws (Some a ∷ []) (Some b ∷ []) under =
    let tests = same-tests family a b under.0 in
    under-equal family (same_of (Some a ∷ [])) (same_of (Some b ∷ []))
    (ap (λ x. Some x) (kept-or-32 a b tests.0 tests.2)) laws
same-rises family laws (Some a ∷ Some b ∷ []) (Some c ∷ Some d ∷ []) under =
    let tests = same-tests family a c under.0 in
    let sizes = same-tests family b d under.1.0 in
    under-equal family (same_of (Some a ∷ Some b ∷ [])) (same_of (Some c ∷ Some d ∷ []))
    (ap (λ x. Some x) (kept-by a c (is_size b) (is_size d) tests.0 sizes.1 tests.2)) laws
same-rises family laws low [] under = tt
same-rises family laws low (None ∷ high) under = tt
same-rises family laws low (Some c ∷ None ∷ high) under = tt
same-rises family laws low (Some c ∷ Some d ∷ e ∷ high) under = tt
same-rises family laws [] (Some c ∷ high) under = absurd under
same-rises family laws (None ∷ low) (Some c ∷ high) under = absurd under.0
same-rises family laws (Some a ∷ b ∷ low) (Some c ∷ []) under = absurd under.1
same-rises family laws (Some a ∷ []) (Some c ∷ Some d ∷ []) under = absurd under.1
same-rises family laws (Some a ∷ None ∷ low) (Some c ∷ Some d ∷ []) under = absurd under.1.0
same-rises family laws (Some a ∷ Some b ∷ e ∷ low) (Some c ∷ Some d ∷ []) under = absurd under.1.1

plain-object : (high : Key) → key_element high ≡ None → element_of (Some (Ref high)) ≡ Ref object
plain-object [] e = refl
plain-object (Prim p ∷ parts) e = refl
plain-object (Class a r n ∷ parts) e = refl
plain-object (Vector ∷ element) e = absurd (cc e)

element-object : (a : Held) → IsTrue (is_object (element_of a))
element-object None = refl
element-object (Some Null) = refl
element-object (Some Int32) = refl
element-object (Some Int64) = refl
element-object (Some Native) = refl
element-object (Some (Ref [])) = refl
element-object (Some (Ref (Prim p ∷ parts))) = refl
element-object (Some (Ref (Class a r n ∷ parts))) = refl
element-object (Some (Ref (Vector ∷ element))) = at (is_reference element)
  where
    at : (b : Bool) → IsTrue (is_object (cond b (Ref element) (Ref object)))
    at true = refl
    at false = refl

-- whatever it gives is under System.Object
under-object : (family : Family) → IsOrder family → (a : Held) →
    IsUnderType family (element_of a) (Ref object)
under-object family laws None = (object, refl, (0, refl))
under-object family laws (Some Null) = refl
under-object family laws (Some Int32) = (object, refl, (0, refl))
under-object family laws (Some Int64) = (object, refl, (0, refl))
under-object family laws (Some Native) = (object, refl, (0, refl))
under-object family laws (Some (Ref [])) = (object, refl, (0, refl))
under-object family laws (Some (Ref (Prim p ∷ parts))) = (object, refl, (0, refl))
under-object family laws (Some (Ref (Class a r n ∷ parts))) = (object, refl, (0, refl))
under-object family laws (Some (Ref (Vector ∷ element))) = at (is_reference element)
  where
    at : (b : Bool) → IsUnderType family (cond b (Ref element) (Ref object)) (Ref object)
    at true = (object, refl, laws.topped element)
    at false = (object, refl, (0, refl))

type-rises : (family : Family) → IsOrder family →
    (a b : StackType) → IsUnderType family a b → IsUnderType family (element_of (Some a)) (element_of (Some b))
type-rises family laws Int32 b under =
    under-equal family (Some (element_of (Some Int32))) (Some (element_of (Some b))) (ap (λ x. Some (element_of (Some x))) under) laws
type-rises family laws Int64 b under =
    under-equal family (Some (element_of (Some Int64))) (Some (element_of (Some b))) (ap (λ x. Some (element_of (Some x))) under) laws
type-rises family laws Native b under =
    under-equal family (Some (element_of (Some Native))) (Some (element_of (Some b))) (ap (λ x. Some (element_of (Some x))) under) laws
type-rises family laws Null b under = element-object (Some b)
type-rises family laws (Ref a) b under =
    subst (λ x. IsUnderType family (element_of (Some (Ref a))) (element_of (Some x))) (sym under.1)
    (by a under.0 (laws.plain a under.0 under.2))
  where
    to-object : (a : Key) (high : Key) → element_of (Some (Ref high)) ≡ Ref object →
        IsUnderType family (element_of (Some (Ref a))) (element_of (Some (Ref high)))
    to-object a high is =
        subst (λ x. IsUnderType family (element_of (Some (Ref a))) x) (sym is) (under-object family laws (Some (Ref a)))

    itself : (a high : Key) → high ≡ a → IsUnderType family (element_of (Some (Ref a))) (element_of (Some (Ref high)))
    itself a high is =
        under-equal family (Some (element_of (Some (Ref a)))) (Some (element_of (Some (Ref high))))
        (ap (λ x. Some (element_of (Some (Ref x)))) (sym is)) laws

    by : (a high : Key) → (a ≡ high) ⊎ (key_element high ≡ None) →
        IsUnderType family (element_of (Some (Ref a))) (element_of (Some (Ref high)))
    by a high (inl is) = itself a high (sym is)
    by a high (inr plain) = to-object a high (plain-object high plain)

element-rises : (family : Family) → IsOrder family →
    (a b : Held) → IsUnder family a b → IsUnderType family (element_of a) (element_of b)
element-rises family laws (Some a) (Some b) under = type-rises family laws a b under
element-rises family laws a None under = under-object family laws a
element-rises family laws None (Some b) under = absurd under

gift-rises : (family : Family) → IsOrder family →
    (low high : List Held) → AreUnder family low high → (g : Gift) →
    IsUnder family (given low g) (given high g)
gift-rises family laws low high under (gift.Is type) = laws.same (Some type)
gift-rises family laws low high under gift.Again = zip-operand family 0 low high under
gift-rises family laws low high under gift.Sum =
    sum-rises family laws (operand low 0) (operand low 1) (operand high 0) (operand high 1)
    (zip-operand family 0 low high under) (zip-operand family 1 low high under)
gift-rises family laws low high under gift.Same = same-rises family laws low high under
gift-rises family laws low high under gift.Element =
    element-rises family laws (operand low 0) (operand high 0) (zip-operand family 0 low high under)

gifts-rise : (family : Family) → IsOrder family →
    (low high : List Held) → AreUnder family low high → (gifts : List Gift) →
    AreUnder family (map (given low) gifts) (map (given high) gifts)
gifts-rise family laws low high under [] = tt
gifts-rise family laws low high under (g ∷ gifts) = (
  gift-rises family laws low high under g,
  gifts-rise family laws low high under gifts,
)

pub rises : (family : Family) → IsOrder family → Rises family
rises family laws effect low high under =
    let n = takes effect.operands in
    let count : length low - n ≡ length high - n = ap (λ k. k - n) (zip-length family low high under) in
    let lower : AreUnder family (take (length low - n) low) (take (length high - n) high) =
    subst (λ k. AreUnder family (take (length low - n) low) (take k high)) count
    (zip-take family (length low - n) low high under) in
    let upper : AreUnder family (drop (length low - n) low) (drop (length high - n) high) =
    subst (λ k. AreUnder family (drop (length low - n) low) (drop k high)) count
    (zip-drop family (length low - n) low high under) in
    zip-append family (below_operands effect low) (below_operands effect high)
    (map (given (operands_on effect low)) effect.gives) (map (given (operands_on effect high)) effect.gives)
    lower
    (gifts-rise family laws (operands_on effect low) (operands_on effect high) upper effect.gives)
