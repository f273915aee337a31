-- What is kept on a stack is kept on a stack under it.
use Rattle.std.proofs.Common.{◌≡◌, ◌⊎◌, inl, inr, ℕ, zero, suc, ◌-◌, Bool, true, false, not, cond, IsTrue, is_some, is_none, Option, Some, None, unwrap_or, List, [], ◌∷◌, length, drop, refl, sym, ap, subst, ◌∙◌, arith, Contains}
use Rattle.std.specs.List.{AllZip, list_any}
use Rattle.host_events.specs.declared.outcome.VerifyRule.{VerifyRule}
use Rattle.host_events.specs.declared.outcome.VerifyRule.TheVariants.{Depth, Kind, Underflow, Operand, MaxStack, Index, Target, Assign, Member, Return, Region}
use Rattle.signatures.specs.declared.key.KeyPart.TheVariants.{Prim, Class, Vector}
use Rattle.signatures.specs.SameKeys.{same_key}
use Rattle.signatures.specs.Keys.{element_of as key_element}
use Rattle.il_flow.specs.declared.stack.StackType.{StackType}
use Rattle.il_flow.specs.declared.stack.StackType.TheVariants.{Int32, Int64, Native, Null, Ref}
use Rattle.il_flow.specs.StackTypes.{is_object}
use Rattle.il_flow.specs.Families.{Family, object, parent_of, above, Climbs, IsOnChain, Names, Leads}
use Rattle.il_flow.specs.Merging.{Held, IsUnderType, AreUnder}
use Rattle.il_flow.specs.Assigning.{IsKindOf, Suits, IsAssignable}
use Rattle.il_verifier.specs.declared.effect.Want.{Want}
use Rattle.il_verifier.specs.declared.effect.Want.TheVariants as want
use Rattle.il_verifier.specs.declared.effect.Elements.{Elements}
use Rattle.il_verifier.specs.declared.effect.Operands.{Operands}
use Rattle.il_verifier.specs.declared.effect.Operands.TheVariants.{Each, Agreeing, Returned}
use Rattle.il_verifier.specs.declared.line.Line.{Line}
use Rattle.il_verifier.specs.Effects.{is_int32, takes, IsArrayOf, IsWanted, HasPlace, operands_on}
use Rattle.il_verifier.specs.Faults.{Agree, OnType, AreWanted, HavePlaces, IsGivenBack, Returns, Keeps}
use Rattle.il_verifier.specs.Laws.{IsTop}
use Rattle.il_verifier.proofs.Order.{Key}
use Rattle.il_verifier.proofs.Rises.{zip-drop, zip-length, numbers-stay, same-tests, same-sum}

-- what is known of the family
pub record IsPlain (family : Family) : Type 0 where
  pub top : IsTop family
  pub plain : (low high : Key) → IsOnChain family low high → (low ≡ high) ⊎ (key_element high ≡ None)

-- nothing but System.Object is above it
object-leads : (family : Family) → IsTop family → (n : ℕ) (high : Key) → Leads family n object high → high ≡ object
object-leads family top zero high leads = sym leads
object-leads family top (suc n) high leads = absurd (none leads.1)
  where
    none-there : Contains {X = Key} [] leads.0 → ⊥
    none-there h = omega (arith, h.1)

    none : Names family object leads.0 → ⊥
    none (inl e) = cc (top.parent, e)
    none (inr h) = none-there (subst (λ (xs : List Key). Contains xs leads.0) top.interfaces h)

kind-from : (family : Family) → IsTop family → (low next place : Key) → Names family low next ⊎ (next ≡ object) →
    IsKindOf family next place → IsKindOf family low place
kind-from family top low next place step (inl is) = inl is
kind-from family top low next place (inl names) (inr led) = inr (suc led.0, (next, names, led.1))
kind-from family top low next place (inr same) (inr led) =
    inl (object-leads family top led.0 place (subst (λ (k : Key). Leads family led.0 k place) same led.1))

-- what stands right above a type is its parent, or System.Object
step-up : (family : Family) (low next : Key) → above family low ≡ Some next → Names family low next ⊎ (next ≡ object)
step-up family low next e = parent (parent_of family low) refl (taken (same_key low object) (unwrap_or (parent_of family low) object) e)
  where
    taken : (b : Bool) (p : Key) → cond {A = Option Key} b None (Some p) ≡ Some next → p ≡ next
    taken true p e = absurd (cc e)
    taken false p e = cc e

    parent : (o : Option Key) → parent_of family low ≡ o → unwrap_or o object ≡ next → Names family low next ⊎ (next ≡ object)
    parent None is e = inr (sym e)
    parent (Some p) is e = inl (inl (is ∙ ap (λ k. Some k) e))

kind-down : (family : Family) → IsTop family → (n : ℕ) (low high place : Key) → Climbs family n low high → IsKindOf family high place →
    IsKindOf family low place
kind-down family top zero low high place climbs kind = subst (λ (k : Key). IsKindOf family k place) (sym climbs) kind
kind-down family top (suc n) low high place climbs kind =
    kind-from family top low climbs.0 place (step-up family low climbs.0 climbs.1)
    (kind-down family top n climbs.0 high place climbs.2 kind)

suits-kind : (family : Family) (value place : Key) → IsKindOf family value place → Suits family value place
suits-kind family (Vector ∷ value) (Vector ∷ place) kind = inl kind
suits-kind family (Vector ∷ value) [] kind = kind
suits-kind family (Vector ∷ value) (Prim p ∷ place) kind = kind
suits-kind family (Vector ∷ value) (Class a r n ∷ place) kind = kind
suits-kind family [] place kind = kind
suits-kind family (Prim p ∷ value) place kind = kind
suits-kind family (Class a r n ∷ value) place kind = kind

kind-suits : (family : Family) (value place : Key) → key_element value ≡ None → Suits family value place → IsKindOf family value place
kind-suits family (Vector ∷ value) place plain suits = absurd (cc plain)
kind-suits family [] place plain suits = suits
kind-suits family (Prim p ∷ value) place plain suits = suits
kind-suits family (Class a r n ∷ value) place plain suits = suits

suits-down : (family : Family) → IsPlain family → (low high place : Key) → IsOnChain family low high → Suits family high place →
    Suits family low place
suits-down family is low high place chain suits = by (is.plain low high chain)
  where
    by : (low ≡ high) ⊎ (key_element high ≡ None) → Suits family low place
    by (inl same) = subst (λ (k : Key). Suits family k place) (sym same) suits
    by (inr plain) =
        suits-kind family low place
        (kind-down family is.top chain.0 low high place chain.1 (kind-suits family high place plain suits))

null-goes : (family : Family) (high place : StackType) → IsTrue (is_object high) → IsAssignable family high place → IsAssignable family Null place
null-goes family Null place h fits = fits
null-goes family (Ref a) (Ref b) h fits = tt
null-goes family (Ref a) Int32 h fits = absurd fits
null-goes family (Ref a) Int64 h fits = absurd fits
null-goes family (Ref a) Native h fits = absurd fits
null-goes family (Ref a) Null h fits = absurd fits
null-goes family Int32 place h fits = absurd (cc h)
null-goes family Int64 place h fits = absurd (cc h)
null-goes family Native place h fits = absurd (cc h)

-- what may go into a place of a type
ref-goes : (family : Family) → IsPlain family → (low high : Key) (place : StackType) → IsOnChain family low high →
    IsAssignable family (Ref high) place → IsAssignable family (Ref low) place
ref-goes family is low high (Ref place) chain fits = suits-down family is low high place chain fits
ref-goes family is low high Int32 chain fits = absurd fits
ref-goes family is low high Int64 chain fits = absurd fits
ref-goes family is low high Native chain fits = absurd fits
ref-goes family is low high Null chain fits = absurd fits

goes-down : (family : Family) → IsPlain family → (low high place : StackType) → IsUnderType family low high →
    IsAssignable family high place → IsAssignable family low place
goes-down family is Int32 high place under fits = subst (λ (t : StackType). IsAssignable family t place) (sym under) fits
goes-down family is Int64 high place under fits = subst (λ (t : StackType). IsAssignable family t place) (sym under) fits
goes-down family is Native high place under fits = subst (λ (t : StackType). IsAssignable family t place) (sym under) fits
goes-down family is Null high place under fits = null-goes family high place under fits
goes-down family is (Ref low) high place under fits =
    ref-goes family is low under.0 place under.2 (subst (λ (t : StackType). IsAssignable family t place) under.1 fits)

-- an array
array-down : (family : Family) → IsPlain family → (elements : Elements) (low high : StackType) → IsUnderType family low high →
    IsArrayOf family elements high → IsArrayOf family elements low
array-down family is elements Int32 high under array = subst (λ (t : StackType). IsArrayOf family elements t) (sym under) array
array-down family is elements Int64 high under array = subst (λ (t : StackType). IsArrayOf family elements t) (sym under) array
array-down family is elements Native high under array = subst (λ (t : StackType). IsArrayOf family elements t) (sym under) array
array-down family is elements Null high under array = tt
array-down family is elements (Ref low) high under array =
    by under.0 (is.plain low under.0 under.2) (subst (λ (t : StackType). IsArrayOf family elements t) under.1 array)
  where
    by : (key : Key) → (low ≡ key) ⊎ (key_element key ≡ None) → IsArrayOf family elements (Ref key) → IsArrayOf family elements (Ref low)
    by key (inl same) array = subst (λ (k : Key). IsArrayOf family elements (Ref k)) (sym same) array
    by (Vector ∷ key) (inr plain) array = absurd (cc plain)
    by [] (inr plain) array = absurd array
    by (Prim p ∷ key) (inr plain) array = absurd array
    by (Class a r n ∷ key) (inr plain) array = absurd array

not-int32 : (t : StackType) → IsTrue (is_object t) → IsTrue (is_int32 t) → ⊥
not-int32 Null h e = cc e
not-int32 (Ref k) h e = cc e
not-int32 Int32 h e = cc h
not-int32 Int64 h e = cc h
not-int32 Native h e = cc h

-- a type that is wanted
wanted-down : (family : Family) → IsPlain family → (w : Want) (low high : StackType) → IsUnderType family low high →
    IsWanted family w high → IsWanted family w low
wanted-down family is want.Anything low high under h = tt
wanted-down family is (want.Into place) low high under h = tt
wanted-down family is want.Numeric low high under h = (same-tests family low high under).0 ∙ h
wanted-down family is want.Size low high under h = (same-tests family low high under).1 ∙ h
wanted-down family is want.Int32 low high under h = by (numbers-stay family low high under)
  where
    by : (low ≡ high) ⊎ (IsTrue (is_object low) × IsTrue (is_object high)) → IsTrue (is_int32 low)
    by (inl same) = ap is_int32 same ∙ h
    by (inr objects) = absurd (not-int32 high objects.1 h)
wanted-down family is want.Reference low high under h = by (numbers-stay family low high under)
  where
    by : (low ≡ high) ⊎ (IsTrue (is_object low) × IsTrue (is_object high)) → IsTrue (is_object low)
    by (inl same) = ap is_object same ∙ h
    by (inr objects) = objects.0
wanted-down family is (want.ArrayOf elements) low high under h = array-down family is elements low high under h

placed-down : (family : Family) → IsPlain family → (w : Want) (low high : StackType) → IsUnderType family low high →
    HasPlace family w high → HasPlace family w low
placed-down family is want.Anything low high under h = tt
placed-down family is (want.Into place) low high under h = goes-down family is low high place under h
placed-down family is want.Numeric low high under h = tt
placed-down family is want.Size low high under h = tt
placed-down family is want.Int32 low high under h = tt
placed-down family is want.Reference low high under h = tt
placed-down family is (want.ArrayOf elements) low high under h = tt

-- each operand
each-down : (family : Family) (Holds : Want → StackType → Type 0) →
    ((w : Want) (low high : StackType) → IsUnderType family low high → Holds w high → Holds w low) →
    (wants : List Want) (low high : List Held) → AreUnder family low high → AllZip (OnType Holds) wants high → AllZip (OnType Holds) wants low
each-down family Holds down [] [] [] under all = tt
each-down family Holds down (w ∷ wants) (Some a ∷ low) (Some b ∷ high) under all =
    (down w a b under.0 all.0, each-down family Holds down wants low high under.1 all.1)
each-down family Holds down (w ∷ wants) (None ∷ low) (Some b ∷ high) under all = absurd under.0
each-down family Holds down (w ∷ wants) (a ∷ low) (None ∷ high) under all = absurd all.0
each-down family Holds down [] low (b ∷ high) under all = absurd all
each-down family Holds down (w ∷ wants) low [] under all = absurd all
each-down family Holds down [] (a ∷ low) [] under all = absurd under
each-down family Holds down (w ∷ wants) [] (b ∷ high) under all = absurd under

agree-two : (family : Family) (references : Bool) (a b c d : StackType) → IsUnderType family a c → IsUnderType family b d →
    Agree references (Some c ∷ Some d ∷ []) → Agree references (Some a ∷ Some b ∷ [])
agree-two family references a b c d ac bd (inl sum) =
    inl (ap (λ (o : Option StackType). is_some o) (same-sum family a b c d ac bd) ∙ sum)
agree-two family references a b c d ac bd (inr objects) =
    inr (objects.0, below a c (numbers-stay family a c ac) objects.1, below b d (numbers-stay family b d bd) objects.2)
  where
    below : (x y : StackType) → (x ≡ y) ⊎ (IsTrue (is_object x) × IsTrue (is_object y)) → IsTrue (is_object y) → IsTrue (is_object x)
    below x y (inl same) h = ap is_object same ∙ h
    below x y (inr both) h = both.0

agree-down : (family : Family) (references : Bool) (low high : List Held) → AreUnder family low high → Agree references high →
    Agree references low
agree-down family references (Some a ∷ Some b ∷ []) (Some c ∷ Some d ∷ []) under h =
    agree-two family references a b c d under.0 under.1.0 h
agree-down family references low [] under h = absurd h
agree-down family references low (None ∷ high) under h = absurd h
agree-down family references low (Some c ∷ []) under h = absurd h
agree-down family references low (Some c ∷ None ∷ high) under h = absurd h
agree-down family references low (Some c ∷ Some d ∷ e ∷ high) under h = absurd h
agree-down family references [] (Some c ∷ Some d ∷ []) under h = absurd under
agree-down family references (None ∷ low) (Some c ∷ Some d ∷ []) under h = absurd under.0
agree-down family references (Some a ∷ []) (Some c ∷ Some d ∷ []) under h = absurd under.1
agree-down family references (Some a ∷ None ∷ low) (Some c ∷ Some d ∷ []) under h = absurd under.1.0
agree-down family references (Some a ∷ Some b ∷ e ∷ low) (Some c ∷ Some d ∷ []) under h = absurd under.1.1

operands-down : (family : Family) → IsPlain family → (operands : Operands) (low high : List Held) → AreUnder family low high →
    AreWanted family operands high → AreWanted family operands low
operands-down family is (Each wants) low high under h = each-down family (IsWanted family) (wanted-down family is) wants low high under h
operands-down family is (Agreeing references) low high under h = agree-down family references low high under h
operands-down family is (Returned type) low high under h = tt

places-down : (family : Family) → IsPlain family → (operands : Operands) (low high : List Held) → AreUnder family low high →
    HavePlaces family operands high → HavePlaces family operands low
places-down family is (Each wants) low high under h = each-down family (HasPlace family) (placed-down family is) wants low high under h
places-down family is (Agreeing references) low high under h = tt
places-down family is (Returned type) low high under h = tt

back-one : (family : Family) → IsPlain family → (place type : StackType) (low : List Held) → AreUnder family low (Some type ∷ []) →
    IsAssignable family type place → IsGivenBack family (Some place) low
back-one family is place type (Some a ∷ []) under fits = (a, refl, goes-down family is a type place under.0 fits)
back-one family is place type [] under fits = absurd under
back-one family is place type (None ∷ low) under fits = absurd under.0
back-one family is place type (Some a ∷ b ∷ low) under fits = absurd under.1

back-none : (family : Family) (low : List Held) → AreUnder family low [] → low ≡ []
back-none family [] under = refl
back-none family (a ∷ low) under = absurd under

returns-down : (family : Family) → IsPlain family → (operands : Operands) (low high : List Held) → AreUnder family low high →
    Returns family operands high → Returns family operands low
returns-down family is (Each wants) low high under h = tt
returns-down family is (Agreeing references) low high under h = tt
returns-down family is (Returned None) low high under h =
    back-none family low (subst (λ (s : List Held). AreUnder family low s) h under)
returns-down family is (Returned (Some place)) low high under h =
    back-one family is place h.0 low (subst (λ (s : List Held). AreUnder family low s) h.1 under) h.2

mixed-down : (family : Family) (low high : List Held) → AreUnder family low high → list_any is_none high ≡ false → list_any is_none low ≡ false
mixed-down family [] [] under h = refl
mixed-down family (Some a ∷ low) (Some b ∷ high) under h = mixed-down family low high under.1 h
mixed-down family (a ∷ low) (None ∷ high) under h = absurd (cc h)
mixed-down family (None ∷ low) (Some b ∷ high) under h = absurd under.0
mixed-down family [] (b ∷ high) under h = absurd under
mixed-down family (a ∷ low) [] under h = absurd under

not-back : (a b : Bool) → (a ≡ false → b ≡ false) → not a ≡ true → not b ≡ true
not-back false b f e = ap not (f refl)
not-back true b f e = absurd (cc e)

operands-under : (family : Family) (line : Line) (low high : List Held) → AreUnder family low high →
    AreUnder family (operands_on line.effect low) (operands_on line.effect high)
operands-under family line low high under =
    let n = takes line.effect.operands in
    let count : length low - n ≡ length high - n = ap (λ k. k - n) (zip-length family low high under) in
    subst (λ k. AreUnder family (drop (length low - n) low) (drop k high)) count (zip-drop family (length low - n) low high under)

-- a rule that is kept
pub keeps-down : (family : Family) → IsPlain family → (line : Line) (low high : List Held) → AreUnder family low high →
    (rule : VerifyRule) → Keeps family line high rule → Keeps family line low rule
keeps-down family is line low high under Depth h = tt
keeps-down family is line low high under Kind h =
    not-back (list_any is_none high) (list_any is_none low) (mixed-down family low high under) h
keeps-down family is line low high under Underflow h = tt
keeps-down family is line low high under Operand h =
    operands-down family is line.effect.operands (operands_on line.effect low) (operands_on line.effect high)
    (operands-under family line low high under) h
keeps-down family is line low high under MaxStack h = tt
keeps-down family is line low high under Index h = tt
keeps-down family is line low high under Target h = tt
keeps-down family is line low high under Assign h =
    places-down family is line.effect.operands (operands_on line.effect low) (operands_on line.effect high)
    (operands-under family line low high under) h
keeps-down family is line low high under Member h = tt
keeps-down family is line low high under Return h = returns-down family is line.effect.operands low high under h
keeps-down family is line low high under Region h = tt
