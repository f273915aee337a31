-- The keys of a level, one after another.
use Rattle.std.proofs.Common.{◌≡◌, ◌⊎◌, ◌↔◌, inl, inr, ℕ, zero, suc, ◌+◌, ◌-◌, ◌<◌, ◌≤◌, List, [], ◌∷◌, ◌++◌, length, take, get_or, slice_get, Option, Some, None, refl, sym, ap, subst, ◌∙◌, arith, Contains, add-one, Result, Ok, Err, OnOk}
use Rattle.std.proofs.lemmas.List.{take_more, take_all}
use Rattle.std.proofs.lemmas.Option.{slice_get_within, get_or_from_slice_get}
use Rattle.std.proofs.lemmas.List.Elements.{Contains-append_left, Contains-append_right, Contains-append_cases}
use Rattle.std.proofs.Common.{◌==◌, cond}
use Rattle.std.proofs.lemmas.Bool.Decides.{eqb_tells}
use Rattle.il_flow.specs.Families.{Family, IsFamily, Names, Leads, IsLed, interface_of}
use Rattle.il_flow.specs.Assigning.{AreJust}
use Rattle.il_flow.proofs.Order.{Key}
use Rattle.il_flow.proofs.Members.{cons-cases, cons-first, none-in}
use Rattle.il_flow.proofs.Assigned.{leads-more}

-- past 0 the interface with a number is the one at its place
pub counted-interface : (family : Family) (key : Key) (n : ℕ) → 0 < n →
    interface_of family key n ≡ slice_get (family.interfaces key) (n - 1)
counted-interface family key n counted = elim (eqb_tells n 0) [
  | inl e ↦ absurd (omega (arith, e.1, counted))
  | inr e ↦ ap (λ b. cond b None (slice_get (family.interfaces key) (n - 1))) e.0
]

-- one more at the end
pub end-cases : (xs : List Key) (x k : Key) → Contains (xs ++ x ∷ []) k → Contains xs k ⊎ (x ≡ k)
end-cases xs x k h = by (Contains-append_cases xs (x ∷ []) k h)
  where
    last : (x ≡ k) ⊎ Contains [] k → Contains xs k ⊎ (x ≡ k)
    last (inl e) = inr e
    last (inr h) = absurd (none-in k h)

    by : Contains xs k ⊎ Contains (x ∷ []) k → Contains xs k ⊎ (x ≡ k)
    by (inl h) = inl h
    by (inr h) = last (cons-cases x [] k h)

pub end-last : (xs : List Key) (x k : Key) → x ≡ k → Contains (xs ++ x ∷ []) k
end-last xs x k e = Contains-append_right xs (x ∷ []) k (cons-first x [] k e)

-- a key that was there already, and one that was not
pub kept-there : (keys : List Key) (key : Key) → Contains keys key →
    AreJust keys (λ other. Contains keys other ⊎ (key ≡ other))
kept-there keys key there other = (λ h. inl h, back)
  where
    back : Contains keys other ⊎ (key ≡ other) → Contains keys other
    back (inl h) = h
    back (inr e) = subst (λ k. Contains keys k) e there

pub put-there : (keys : List Key) (key : Key) →
    AreJust (keys ++ key ∷ []) (λ other. Contains keys other ⊎ (key ≡ other))
put-there keys key other = (end-cases keys key other, back)
  where
    back : Contains keys other ⊎ (key ≡ other) → Contains (keys ++ key ∷ []) other
    back (inl h) = Contains-append_left keys (key ∷ []) other h
    back (inr e) = end-last keys key other e

-- the interfaces up to a number
taken : (xs : List Key) (i : ℕ) (x : Key) → slice_get xs i ≡ Some x → take (i + 1) xs ≡ take i xs ++ x ∷ []
taken xs i x found =
    take_more xs i x (slice_get_within xs i x found)
    ∙ ap (λ y. take i xs ++ y ∷ []) (get_or_from_slice_get xs i x x found)

pub one-interface : (old keys new all : List Key) (n : ℕ) (x : Key) → 0 < n →
    slice_get all (n - 1) ≡ Some x →
    AreJust keys (λ other. Contains old other ⊎ Contains (take (n - 1) all) other) →
    AreJust new (λ other. Contains keys other ⊎ (x ≡ other)) →
    AreJust new (λ other. Contains old other ⊎ Contains (take (n + 1 - 1) all) other)
one-interface old keys new all n x some found was added other =
    let count : n + 1 - 1 ≡ n - 1 + 1 = omega arith in
    let front : take (n + 1 - 1) all ≡ take (n - 1) all ++ x ∷ [] =
    ap (λ m. take m all) count ∙ taken all (n - 1) x found in
    subst (λ seen. Contains new other ↔ (Contains old other ⊎ Contains seen other)) (sym front) (on, back)
  where
    up : Contains old other ⊎ Contains (take (n - 1) all) other →
        Contains old other ⊎ Contains (take (n - 1) all ++ x ∷ []) other
    up (inl h) = inl h
    up (inr h) = inr (Contains-append_left (take (n - 1) all) (x ∷ []) other h)

    from : Contains keys other ⊎ (x ≡ other) →
        Contains old other ⊎ Contains (take (n - 1) all ++ x ∷ []) other
    from (inl h) = up ((was other).0 h)
    from (inr e) = inr (end-last (take (n - 1) all) x other e)

    on : Contains new other → Contains old other ⊎ Contains (take (n - 1) all ++ x ∷ []) other
    on h = from ((added other).0 h)

    last : Contains (take (n - 1) all) other ⊎ (x ≡ other) → Contains new other
    last (inl h) = (added other).1 (inl ((was other).1 (inr h)))
    last (inr e) = (added other).1 (inr e)

    back : Contains old other ⊎ Contains (take (n - 1) all ++ x ∷ []) other → Contains new other
    back (inl h) = (added other).1 (inl ((was other).1 (inl h)))
    back (inr h) = last (end-cases (take (n - 1) all) x other h)

beyond : (xs : List Key) (i : ℕ) → slice_get xs i ≡ None → length xs ≤ i
beyond [] i e = omega arith
beyond (x ∷ xs) zero e = absurd (cc e)
beyond (x ∷ xs) (suc i) e = let rest = beyond xs i e in omega (arith, rest)

pub all-interfaces : (old keys all shown : List Key) (n : ℕ) → slice_get all (n - 1) ≡ None → shown ≡ all →
    AreJust keys (λ other. Contains old other ⊎ Contains (take (n - 1) all) other) →
    AreJust keys (λ other. Contains old other ⊎ Contains shown other)
all-interfaces old keys all shown n none is was other =
    subst (λ seen. Contains keys other ↔ (Contains old other ⊎ Contains seen other))
    (take_all (n - 1) all (beyond all (n - 1) none) ∙ sym is) (was other)

pub no-interfaces : (old shown : List Key) → shown ≡ [] →
    AreJust old (λ other. Contains old other ⊎ Contains shown other)
no-interfaces old shown is other =
    subst (λ seen. Contains old other ↔ (Contains old other ⊎ Contains seen other)) (sym is) (λ h. inl h, back)
  where
    back : Contains old other ⊎ Contains [] other → Contains old other
    back (inl h) = h
    back (inr h) = absurd (none-in other h)

-- a parent, and then the interfaces
pub both : (family : Family) (key : Key) (old mid new interfaces : List Key) (parent : Key) (o : Option Key) →
    o ≡ Some parent →
    AreJust mid (λ other. Contains old other ⊎ (parent ≡ other)) →
    AreJust new (λ other. Contains mid other ⊎ Contains interfaces other) →
    AreJust new (λ other. Contains old other ⊎ ((o ≡ Some other) ⊎ Contains interfaces other))
both family key old mid new interfaces parent o is first second other = (on, back)
  where
    named : Contains old other ⊎ (parent ≡ other) →
        Contains old other ⊎ ((o ≡ Some other) ⊎ Contains interfaces other)
    named (inl h) = inl h
    named (inr e) = inr (inl (is ∙ ap (λ k. Some k) e))

    from : Contains mid other ⊎ Contains interfaces other →
        Contains old other ⊎ ((o ≡ Some other) ⊎ Contains interfaces other)
    from (inl h) = named ((first other).0 h)
    from (inr h) = inr (inr h)

    on : Contains new other → Contains old other ⊎ ((o ≡ Some other) ⊎ Contains interfaces other)
    on h = from ((second other).0 h)

    back : Contains old other ⊎ ((o ≡ Some other) ⊎ Contains interfaces other) → Contains new other
    back (inl h) = (second other).1 (inl ((first other).1 (inl h)))
    back (inr (inl e)) = (second other).1 (inl ((first other).1 (inr (cc (sym is ∙ e)))))
    back (inr (inr h)) = (second other).1 (inr h)

pub alone : (old new interfaces : List Key) (o : Option Key) → o ≡ None →
    AreJust new (λ other. Contains old other ⊎ Contains interfaces other) →
    AreJust new (λ other. Contains old other ⊎ ((o ≡ Some other) ⊎ Contains interfaces other))
alone old new interfaces o is second other = (on, back)
  where
    from : Contains old other ⊎ Contains interfaces other →
        Contains old other ⊎ ((o ≡ Some other) ⊎ Contains interfaces other)
    from (inl h) = inl h
    from (inr h) = inr (inr h)

    on : Contains new other → Contains old other ⊎ ((o ≡ Some other) ⊎ Contains interfaces other)
    on h = from ((second other).0 h)

    back : Contains old other ⊎ ((o ≡ Some other) ⊎ Contains interfaces other) → Contains new other
    back (inl h) = (second other).1 (inl h)
    back (inr (inl e)) = absurd (cc (sym is ∙ e))
    back (inr (inr h)) = (second other).1 (inr h)

-- the types above those of the front of a level
abbrev pub AreAbove : Family → List Key → List Key → Type 0
AreAbove family level keys =
    AreJust keys (λ high. (low : Key) × Contains level low × Names family low high)

pub above-none : (family : Family) → AreAbove family [] []
above-none family high = (λ h. absurd (none-in high h), λ found. absurd (none-in found.0 found.1))

pub above-one : (family : Family) (level keys new : List Key) (i : ℕ) (key : Key) → i < length level →
    key ≡ get_or level i key →
    AreAbove family (take i level) keys →
    AreJust new (λ other. Contains keys other ⊎ Names family key other) →
    AreAbove family (take (i + 1) level) new
above-one family level keys new i key less is was added high =
    let front : take (i + 1) level ≡ take i level ++ key ∷ [] =
    take_more level i key less ∙ ap (λ y. take i level ++ y ∷ []) (sym is) in
    subst (λ seen. Contains new high ↔ ((low : Key) × Contains seen low × Names family low high)) (sym front) (on, back)
  where
    Found : List Key → Type 0
    Found seen = (low : Key) × Contains seen low × Names family low high

    up : Found (take i level) → Found (take i level ++ key ∷ [])
    up found = (found.0, Contains-append_left (take i level) (key ∷ []) found.0 found.1, found.2)

    from : Contains keys high ⊎ Names family key high → Found (take i level ++ key ∷ [])
    from (inl h) = up ((was high).0 h)
    from (inr names) = (key, end-last (take i level) key key refl, names)

    on : Contains new high → Found (take i level ++ key ∷ [])
    on h = from ((added high).0 h)

    last : (low : Key) → Names family low high → Contains (take i level) low ⊎ (key ≡ low) → Contains new high
    last low names (inl h) = (added high).1 (inl ((was high).1 (low, h, names)))
    last low names (inr e) = (added high).1 (inr (subst (λ k. Names family k high) (sym e) names))

    back : Found (take i level ++ key ∷ []) → Contains new high
    back found = last found.0 found.2 (end-cases (take i level) key found.0 found.1)

-- two numbers in order
order : (n m : ℕ) → (n < m) ⊎ ((n ≡ m) ⊎ (m < n))
order zero zero = inr (inl refl)
order zero (suc m) = inl (omega arith)
order (suc n) zero = inr (inr (omega arith))
order (suc n) (suc m) = by (order n m)
  where
    by : (n < m) ⊎ ((n ≡ m) ⊎ (m < n)) → (suc n < suc m) ⊎ ((suc n ≡ suc m) ⊎ (suc m < suc n))
    by (inl less) = inl (omega (arith, less))
    by (inr (inl same)) = inr (inl (omega (arith, same)))
    by (inr (inr more)) = inr (inr (omega (arith, more)))

-- so many steps, and fewer
leads-split : (family : Family) (n : ℕ) (low high : Key) → Leads family (suc n) low high →
    (mid : Key) × Leads family n low mid × Names family mid high
leads-split family zero low high leads =
    (low, refl, subst (λ k. Names family low k) leads.2 leads.1)
leads-split family (suc n) low high leads =
    let rest = leads-split family n leads.0 high leads.2 in
    (rest.0, (leads.0, leads.1, rest.1), rest.2)

leads-front : (family : Family) (m n : ℕ) (low high : Key) → m ≤ n → Leads family n low high →
    (mid : Key) × Leads family m low mid
leads-front family zero n low high less leads = (low, refl)
leads-front family (suc m) zero low high less leads = absurd (omega (arith, less))
leads-front family (suc m) (suc n) low high less leads =
    let rest = leads-front family m n leads.0 high (omega (arith, less)) leads.2 in
    (rest.0, (leads.0, leads.1, rest.1))

pub level-first : (family : Family) (low : Key) → AreJust (low ∷ []) (λ key. Leads family 0 low key)
level-first family low key = (on, λ e. cons-first low [] key e)
  where
    by : (low ≡ key) ⊎ Contains [] key → low ≡ key
    by (inl e) = e
    by (inr h) = absurd (none-in key h)

    on : Contains (low ∷ []) key → low ≡ key
    on h = by (cons-cases low [] key h)

pub level-next : (family : Family) (low : Key) (level next : List Key) (i : ℕ) →
    AreJust level (λ key. Leads family i low key) → AreAbove family level next →
    AreJust next (λ key. Leads family (i + 1) low key)
level-next family low level next i was up key =
    subst (λ n. Contains next key ↔ Leads family n low key) (sym (add-one i)) (on, back)
  where
    on : Contains next key → Leads family (suc i) low key
    on h =
        let found = (up key).0 h in
        leads-more family i low found.0 key ((was found.0).0 found.1) found.2

    back : Leads family (suc i) low key → Contains next key
    back leads =
        let split = leads-split family i low key leads in
        (up key).1 (split.0, (was split.0).1 split.1, split.2)

pub not-before : (family : Family) (low high : Key) (level : List Key) (i : ℕ) →
    ((n : ℕ) → n < i → Leads family n low high → ⊥) →
    AreJust level (λ key. Leads family i low key) → (Contains level high → ⊥) →
    (n : ℕ) → n < i + 1 → Leads family n low high → ⊥
not-before family low high level i before was absent n less leads = by (order n i)
  where
    by : (n < i) ⊎ ((n ≡ i) ⊎ (i < n)) → ⊥
    by (inl fewer) = before n fewer leads
    by (inr (inr more)) = omega (arith, less, more)
    by (inr (inl same)) = absent ((was high).1 (subst (λ m. Leads family m low high) same leads))

pub level-last : (family : Family) → IsFamily family → (low high : Key) (level : List Key) →
    ((n : ℕ) → n < 64 → Leads family n low high → ⊥) →
    AreJust level (λ key. Leads family 64 low key) → Contains level high ↔ IsLed family low high
level-last family short low high level before was =
    (λ h. (64, (was high).0 h), back)
  where
    by : (n : ℕ) → Leads family n low high → (n < 64) ⊎ ((n ≡ 64) ⊎ (64 < n)) → Contains level high
    by n leads (inl fewer) = absurd (before n fewer leads)
    by n leads (inr (inl same)) = (was high).1 (subst (λ m. Leads family m low high) same leads)
    by n leads (inr (inr more)) =
        let front = leads-front family 65 n low high (omega (arith, more)) leads in
        absurd (short.short low front.0 front.1)

    back : IsLed family low high → Contains level high
    back led = by led.0 led.1 (order led.0 64)

-- what holds where a call answers, holds so of what follows from it
pub on-ok : {T E : Type 0} (r : Result T E) (P Q : Type 0) → (P → Q) → OnOk r P → OnOk r Q
on-ok (Ok x) P Q f h = f h
on-ok (Err e) P Q f h = tt
