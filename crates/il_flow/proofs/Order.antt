-- The order of merging, for a family without long chains.
use Rattle.std.proofs.Common.{◌≡◌, ◌⊎◌, ◌↔◌, inl, inr, ℕ, zero, suc, ◌+◌, true, false, Bool, cond, ◌||◌, List, [], ◌∷◌, ◌++◌, length, Option, Some, None, refl, sym, ap, subst, ◌∙◌, IsTrue, arith, unwrap_or}
use Rattle.std.specs.Option.{option_map_or}
use Rattle.std.specs.List.{find, list_any}
use Rattle.std.proofs.lemmas.List.{length-append}
use Rattle.signatures.specs.declared.key.KeyPart.{KeyPart}
use Rattle.signatures.specs.declared.key.KeyPart.TheVariants.{Prim}
use Rattle.signatures.specs.SameKeys.{same_key}
use Rattle.il_flow.specs.Families.{Family, IsFamily, object, parent_of, above, Climbs, IsOnChain, Names, Leads}
use Rattle.il_flow.specs.Merging.{chain, chain_of, nearest}

abbrev pub Key : Type 0
Key = List KeyPart

-- keys are the same exactly where they are equal
abbrev pub KeysCompare : Type 0
KeysCompare = (a b : Key) → IsTrue (same_key a b) ↔ (a ≡ b)

-- a chain that does not go on is whole
steady : (family : Family) (n : ℕ) (key : Key) → ((high : Key) → Climbs family (suc n) key high → ⊥) →
    chain family (suc n) key ≡ chain family n key
unfolding chain
steady family zero key ends = step (above family key) refl
  where
    step : (o : Option Key) → above family key ≡ o →
        key ∷ option_map_or (λ next. chain family zero next) o [] ≡ key ∷ []
    step None e = refl
    step (Some next) e = absurd (ends next (next, e, refl))
steady family (suc n) key ends =
    step (λ next quiet. steady family n next quiet) (above family key) refl
  where
    step : ((next : Key) → ((high : Key) → Climbs family (suc n) next high → ⊥) → chain family (suc n) next ≡ chain family n next) →
        (o : Option Key) → above family key ≡ o →
        key ∷ option_map_or (λ next. chain family (suc n) next) o [] ≡
        key ∷ option_map_or (λ next. chain family n next) o []
    step again None e = refl
    step again (Some next) e =
        ap (λ rest. key ∷ rest) (again next (λ high climbs. ends high (next, e, climbs)))

-- System.Object has nothing above it
pub no-above : KeysCompare → (family : Family) (next : Key) → above family object ≡ Some next → ⊥
no-above compare family next e =
    let same : same_key object object ≡ true = (compare object object).1 refl in
    let none : above family object ≡ None = ap (λ b. cond b None (Some (unwrap_or (parent_of family object) object))) same in
    absurd (cc (e, none))

-- what stands right above a type is its parent, or System.Object
pub step-up : (family : Family) (low next : Key) → above family low ≡ Some next →
    Names family low next ⊎ (next ≡ object)
step-up family low next e = parent (parent_of family low) refl (taken (same_key low object) (unwrap_or (parent_of family low) object) e)
  where
    taken : (b : Bool) (p : Key) → cond b None (Some p) ≡ Some next → p ≡ next
    taken true p e = absurd (cc e)
    taken false p e = cc e

    parent : (o : Option Key) → parent_of family low ≡ o → unwrap_or o object ≡ next →
        Names family low next ⊎ (next ≡ object)
    parent None is e = inr (sym e)
    parent (Some p) is e = inl (inl (is ∙ ap (λ k. Some k) e))

-- all steps up but the last go to a parent
pub climbs-lead : KeysCompare → (family : Family) (n : ℕ) (low high : Key) → Climbs family (suc n) low high →
    (top : Key) × Leads family n low top
climbs-lead compare family zero low high climbs = (low, refl)
climbs-lead compare family (suc n) low high climbs =
    from (step-up family low climbs.0 climbs.1)
    (climbs-lead compare family n climbs.0 high climbs.2)
  where
    from : Names family low climbs.0 ⊎ (climbs.0 ≡ object) → (top : Key) × Leads family n climbs.0 top →
        (top : Key) × Leads family (suc n) low top
    from (inl names) rest = (rest.0, (climbs.0, names, rest.1))
    from (inr is) rest =
        absurd (no-above compare family climbs.2.0
        (ap (λ key. above family key) (sym is) ∙ climbs.2.1))

-- each chain is whole: its first, and the chain of what stands above it
pub whole : KeysCompare → (family : Family) → IsFamily family → (key : Key) →
    chain_of family key ≡ key ∷ option_map_or (λ next. chain_of family next) (above family key) []
unfolding chain
whole compare family short key =
    sym (steady family 65 key (λ high climbs.
    let leads = climbs-lead compare family 65 key high climbs in
    short.short key leads.0 leads.1))

-- the chain of what is above a type is the end of its chain
pub ends : (family : Family) →
    ((key : Key) → chain_of family key ≡ key ∷ option_map_or (λ next. chain_of family next) (above family key) []) →
    (n : ℕ) (low high : Key) → Climbs family n low high →
    (front : List Key) × (chain_of family low ≡ front ++ chain_of family high)
ends family full zero low high climbs = ([], ap (λ key. chain_of family key) climbs)
ends family full (suc n) low high climbs =
    let rest = ends family full n climbs.0 high climbs.2 in (
      low ∷ rest.0,
      full low
          ∙ (ap (λ o. low ∷ option_map_or (λ next. chain_of family next) o []) climbs.1
          ∙ ap (λ keys. low ∷ keys) rest.1),
    )

-- upwards and upwards again
pub on-on : (family : Family) (n : ℕ) (a b c : Key) → Climbs family n a b → IsOnChain family b c →
    IsOnChain family a c
on-on family zero a b c climbs on = subst (λ key. IsOnChain family key c) (sym climbs) on
on-on family (suc n) a b c climbs on =
    let rest = on-on family n climbs.0 b c climbs.2 on in (suc rest.0, (climbs.0, climbs.1, rest.1))

-- each above the other: the same
pub on-anti : (family : Family) →
    ((key : Key) → chain_of family key ≡ key ∷ option_map_or (λ next. chain_of family next) (above family key) []) →
    (a b : Key) → IsOnChain family a b → IsOnChain family b a → a ≡ b
on-anti family full a b up down =
    let f = ends family full up.0 a b up.1 in
    let g = ends family full down.0 b a down.1 in
    let there : length (chain_of family a) ≡ length f.0 + length (chain_of family b) =
    ap (λ (keys : List Key). length keys) f.1 ∙ length-append f.0 (chain_of family b) in
    let back : length (chain_of family b) ≡ length g.0 + length (chain_of family a) =
    ap (λ (keys : List Key). length keys) g.1 ∙ length-append g.0 (chain_of family a) in
    let none : length f.0 ≡ 0 = omega (arith, there, back) in
    heads (sym (full a) ∙ (f.1 ∙ (ap (λ keys. keys ++ chain_of family b) (empty f.0 none) ∙ full b)))
  where
    empty : (keys : List Key) → length keys ≡ 0 → keys ≡ []
    empty [] e = refl
    empty (key ∷ keys) e = absurd (omega (arith, e))

    heads : {x y : Key} {xs ys : List Key} → x ∷ xs ≡ y ∷ ys → x ≡ y
    heads e = cc e

-- a type that a test takes and that is above another: the first that is taken on that one's chain is below it
pub first-below : (family : Family) →
    ((key : Key) → chain_of family key ≡ key ∷ option_map_or (λ next. chain_of family next) (above family key) []) →
    (p : Key → Bool) (n : ℕ) (a c : Key) → Climbs family n a c → p c ≡ true →
    (k : Key) × (find p (chain_of family a) ≡ Some k) × IsOnChain family k c
first-below family full p zero a c climbs taken =
    (a, ap (λ keys. find p keys) (full a) ∙ ap (λ b. cond b (Some a) (find p (option_map_or (λ next. chain_of family next) (above family a) []))) (ap p climbs ∙ taken), (zero, climbs))
first-below family full p (suc n) a c climbs taken =
    at (p a) refl (first-below family full p n climbs.0 c climbs.2 taken)
  where
    others : List Key
    others = option_map_or (λ next. chain_of family next) (above family a) []

    at : (b : Bool) → p a ≡ b → (k : Key) × (find p (chain_of family climbs.0) ≡ Some k) × IsOnChain family k c →
        (k : Key) × (find p (chain_of family a) ≡ Some k) × IsOnChain family k c
    at true is rest =
        (a, ap (λ keys. find p keys) (full a) ∙ ap (λ b. cond b (Some a) (find p (option_map_or (λ next. chain_of family next) (above family a) []))) is, (suc n, climbs))
    at false is rest = (
      rest.0,
      ap (λ keys. find p keys) (full a)
          ∙ (ap (λ b. cond b (Some a) (find p (option_map_or (λ next. chain_of family next) (above family a) []))) is
          ∙ (ap (λ o. find p (option_map_or (λ next. chain_of family next) o [])) climbs.1
          ∙ rest.1)),
      rest.2,
    )

-- what is listed on a chain stands above its first
listed-on : KeysCompare → (family : Family) (k : Key) (n : ℕ) (b : Key) →
    list_any (same_key k) (chain family n b) ≡ true → IsOnChain family b k
unfolding chain
listed-on compare family k zero b listed = at (same_key k b) refl listed
  where
    at : (t : Bool) → same_key k b ≡ t → t || false ≡ true → IsOnChain family b k
    at true is listed = (0, sym ((compare k b).0 is))
    at false is listed = absurd (cc listed)
listed-on compare family k (suc n) b listed =
    at (λ next listed. listed-on compare family k n next listed) (same_key k b) refl listed
  where
    up : ((next : Key) → list_any (same_key k) (chain family n next) ≡ true → IsOnChain family next k) →
        (o : Option Key) → above family b ≡ o →
        list_any (same_key k) (option_map_or (λ next. chain family n next) o []) ≡ true → IsOnChain family b k
    up again None e listed = absurd (cc listed)
    up again (Some next) e listed =
        let rest = again next listed in (suc rest.0, (next, e, rest.1))

    at : ((next : Key) → list_any (same_key k) (chain family n next) ≡ true → IsOnChain family next k) →
        (t : Bool) → same_key k b ≡ t →
        t || (list_any (same_key k) (option_map_or (λ next. chain family n next) (above family b) [])) ≡ true →
        IsOnChain family b k
    at again true is listed = (0, sym ((compare k b).0 is))
    at again false is listed = up again (above family b) refl listed

-- and the other way round
on-listed : KeysCompare → (family : Family) →
    ((key : Key) → chain_of family key ≡ key ∷ option_map_or (λ next. chain_of family next) (above family key) []) →
    (k : Key) (n : ℕ) (b : Key) → Climbs family n b k → list_any (same_key k) (chain_of family b) ≡ true
on-listed compare family full k zero b climbs =
    ap (λ keys. list_any (same_key k) keys) (full b)
    ∙ ap (λ t. t || (list_any (same_key k) (option_map_or (λ next. chain_of family next) (above family b) [])))
    ((compare k b).1 (sym climbs))
on-listed compare family full k (suc n) b climbs =
    ap (λ keys. list_any (same_key k) keys) (full b)
    ∙ (ap (λ o. same_key k b || (list_any (same_key k) (option_map_or (λ next. chain_of family next) o []))) climbs.1
    ∙ (ap (λ t. same_key k b || t) (on-listed compare family full k n climbs.0 climbs.2)
    ∙ always (same_key k b)))
  where
    always : (t : Bool) → t || true ≡ true
    always true = refl
    always false = refl

-- what a search on a chain finds is on it, and passes the test
found-on : (family : Family) (p : Key → Bool) (k : Key) (n : ℕ) (a : Key) →
    find p (chain family n a) ≡ Some k → IsOnChain family a k × (p k ≡ true)
unfolding chain
found-on family p k zero a found = at (p a) refl found
  where
    at : (t : Bool) → p a ≡ t → cond t (Some a) None ≡ Some k → IsOnChain family a k × (p k ≡ true)
    at true is found = let same : a ≡ k = cc found in ((0, same), ap p (sym same) ∙ is)
    at false is found = absurd (cc found)
found-on family p k (suc n) a found = at (λ next found. found-on family p k n next found) (p a) refl found
  where
    up : ((next : Key) → find p (chain family n next) ≡ Some k → IsOnChain family next k × (p k ≡ true)) →
        (o : Option Key) → above family a ≡ o →
        find p (option_map_or (λ next. chain family n next) o []) ≡ Some k → IsOnChain family a k × (p k ≡ true)
    up again None e found = absurd (cc found)
    up again (Some next) e found =
        let rest = again next found in ((suc rest.0.0, (next, e, rest.0.1)), rest.1)

    at : ((next : Key) → find p (chain family n next) ≡ Some k → IsOnChain family next k × (p k ≡ true)) →
        (t : Bool) → p a ≡ t →
        cond t (Some a) (find p (option_map_or (λ next. chain family n next) (above family a) [])) ≡ Some k →
        IsOnChain family a k × (p k ≡ true)
    at again true is found = let same : a ≡ k = cc found in ((0, same), ap p (sym same) ∙ is)
    at again false is found = up again (above family a) refl found

-- the nearest class is above both
pub nearest-above : KeysCompare → (family : Family) (a b k : Key) → nearest family a b ≡ Some k →
    IsOnChain family a k × IsOnChain family b k
nearest-above compare family a b k found =
    let here = found-on family (λ key. list_any (same_key key) (chain_of family b)) k 65 a found in
    (here.0, listed-on compare family k 65 b here.1)

-- and below every class that is above both
pub nearest-below : KeysCompare → (family : Family) → IsFamily family → (a b c : Key) →
    IsOnChain family a c → IsOnChain family b c →
    (k : Key) × (nearest family a b ≡ Some k) × IsOnChain family k c
nearest-below compare family short a b c up over =
    let full = whole compare family short in
    first-below family full (λ key. list_any (same_key key) (chain_of family b)) up.0 a c up.1
    (on-listed compare family full c over.0 b over.1)
