-- What is noted for the places to which control passes.
use Rattle.std.proofs.Common.{◌≡◌, ◌⊎◌, ◌↔◌, inl, inr, ℕ, zero, suc, ◌+◌, ◌<◌, arith, Bool, true, false, ◌&&◌, ◌||◌, cond, IsTrue, is_some, is_none, Option, Some, None, List, [], ◌∷◌, ◌++◌, length, take, set, get_or, eqb, refl, sym, ap, subst, ◌∙◌, Contains, nat_le}
use Rattle.std.proofs.Common.{get_or-set_other, get_or-set_same}
use Rattle.std.proofs.lemmas.Bool.{cases_eq, eq-eqb, ne_eqb, eqb-true}
use Rattle.std.proofs.lemmas.List.{take_more}
use Rattle.std.proofs.lemmas.List.Elements.{Contains-push, Contains-append_left, Contains-push_cases}
use Rattle.std.proofs.lemmas.List.Folds.{list_any-append}
use Rattle.il_verifier.specs.Depths.{is_place}
use Rattle.il_verifier.specs.Search.{depth_at, found_at, lesser, is_among, AreNoted, AreListed}

abbrev pub Best : Type 0
Best = Option (ℕ × ℕ)

-- no place
pub noted-none : (depths : List (Option ℕ)) (from depth : ℕ) (old : List Best) →
    AreNoted depths (λ to. is_place to None) from depth old old
noted-none depths from depth old to = refl

pub listed-none : (depths : List (Option ℕ)) (found : List Best) (old : List ℕ) →
    AreListed depths (λ to. is_place to None) found old old
listed-none depths found old to = (λ h. inl h, back)
  where
    back : Contains old to ⊎ IsTrue false → Contains old to
    back (inl h) = h
    back (inr h) = absurd (cc h)

-- nothing changes where nothing passes the test
same-noted : (g n : Bool) (old : Best) (from depth : ℕ) → (g && n) ≡ false →
    old ≡ cond (g && n) (lesser old from depth) old
same-noted g n old from depth none = sym (ap (λ b. cond b (lesser old from depth) old) none)

none-listed : (g n : Bool) (there : Type 0) → (g && n) ≡ false → there ↔ (there ⊎ IsTrue (g && n))
none-listed g n there none = (λ h. inl h, back)
  where
    back : there ⊎ IsTrue (g && n) → there
    back (inl h) = h
    back (inr h) = absurd (cc (none, h))

and-second : (g n : Bool) → n ≡ false → (g && n) ≡ false
and-second true n none = none
and-second false n none = refl

and-three : (g n m : Bool) → (g && n) ≡ false → (g && (n && m)) ≡ false
and-three true n m none = ap (λ b. b && m) none
and-three false n m none = refl

at-place : (depths : List (Option ℕ)) (place : ℕ) → is_some (depth_at depths place) ≡ true → (to : ℕ) →
    (eqb place to && is_none (depth_at depths to)) ≡ false
at-place depths place some to = elim (cases_eq place to) [
  | inl same ↦ and-second (eqb place to) (is_none (depth_at depths to))
      (subst (λ k. is_none (depth_at depths k) ≡ false) same (has (depth_at depths place) some))
  | inr other ↦ ap (λ b. b && is_none (depth_at depths to)) (ne_eqb place to other)
]
  where
    has : (o : Option ℕ) → is_some o ≡ true → is_none o ≡ false
    has None e = absurd (cc e)
    has (Some d) e = refl

-- a place that has a depth
pub noted-kept : (depths : List (Option ℕ)) (place from depth : ℕ) (old : List Best) →
    is_some (depth_at depths place) ≡ true → AreNoted depths (λ to. is_place to (Some place)) from depth old old
noted-kept depths place from depth old some to =
    same-noted (eqb place to) (is_none (depth_at depths to)) (found_at old to) from depth (at-place depths place some to)

pub listed-kept : (depths : List (Option ℕ)) (place : ℕ) (found : List Best) (old : List ℕ) →
    is_some (depth_at depths place) ≡ true → AreListed depths (λ to. is_place to (Some place)) found old old
listed-kept depths place found old some to = (λ h. inl h, back)
  where
    none : (eqb place to && (is_none (depth_at depths to) && is_none (found_at found to))) ≡ false
    none = and-three (eqb place to) (is_none (depth_at depths to)) (is_none (found_at found to)) (at-place depths place some to)

    back : Contains old to ⊎ IsTrue (eqb place to && (is_none (depth_at depths to) && is_none (found_at found to))) → Contains old to
    back (inl h) = h
    back (inr h) = absurd (cc (none, h))

-- a place without a depth
pub noted-set : (depths : List (Option ℕ)) (place from depth : ℕ) (old : List Best) → place < length old →
    is_some (depth_at depths place) ≡ false →
    AreNoted depths (λ to. is_place to (Some place)) from depth old (set old place (lesser (found_at old place) from depth))
noted-set depths place from depth old within none to = elim (cases_eq to place) [
  | inl same ↦ subst (λ k. get_or (set old place new) k None ≡ cond (eqb place k && is_none (depth_at depths k)) (lesser (found_at old k) from depth) (found_at old k)) (sym same)
      (get_or-set_same old place new None within
      ∙ sym (ap (λ b. cond (b && is_none (depth_at depths place)) new (found_at old place)) (eq-eqb place place refl)
      ∙ ap (λ b. cond b new (found_at old place)) (is-none (depth_at depths place) none)))
  | inr other ↦
      get_or-set_other old place to new None other
      ∙ ap (λ b. cond (b && is_none (depth_at depths to)) (lesser (found_at old to) from depth) (found_at old to))
      (sym (ne_eqb place to (λ e. other (sym e))))
]
  where
    new : Best
    new = lesser (found_at old place) from depth

    is-none : (o : Option ℕ) → is_some o ≡ false → is_none o ≡ true
    is-none None e = refl
    is-none (Some d) e = absurd (cc e)

pub listed-set : (depths : List (Option ℕ)) (place : ℕ) (found : List Best) (old : List ℕ) →
    is_some (depth_at depths place) ≡ false →
    AreListed depths (λ to. is_place to (Some place)) found old
    (cond (is_none (found_at found place)) (old ++ place ∷ []) old)
listed-set depths place found old none to = by (is_none (found_at found place)) refl
  where
    is-none : (o : Option ℕ) → is_some o ≡ false → is_none o ≡ true
    is-none None e = refl
    is-none (Some d) e = absurd (cc e)

    Test : Type 0
    Test = IsTrue (eqb place to && (is_none (depth_at depths to) && is_none (found_at found to)))

    parts : Test → (place ≡ to) × (is_none (found_at found to) ≡ true)
    parts h = at (eqb place to) (is_none (depth_at depths to)) (is_none (found_at found to)) refl h
      where
        at : (a b d : Bool) → eqb place to ≡ a → IsTrue (a && (b && d)) → (place ≡ to) × (d ≡ true)
        at true true true is h = (eqb-true place to is, refl)
        at true true false is h = absurd (cc h)
        at true false d is h = absurd (cc h)
        at false b d is h = absurd (cc h)

    by : (b : Bool) → is_none (found_at found place) ≡ b →
        Contains (cond b (old ++ place ∷ []) old) to ↔ (Contains old to ⊎ Test)
    by true is = (forth, back)
      where
        test : place ≡ to → Test
        test same = subst (λ k. IsTrue (eqb place k && (is_none (depth_at depths k) && is_none (found_at found k)))) same
            (ap (λ b. b && (is_none (depth_at depths place) && is_none (found_at found place))) (eq-eqb place place refl)
            ∙ (ap (λ b. b && is_none (found_at found place)) (is-none (depth_at depths place) none) ∙ is))

        forth : Contains (old ++ place ∷ []) to → Contains old to ⊎ Test
        forth h = elim (Contains-push_cases old place to h) [
          | inl there ↦ inl there
          | inr same ↦ inr (test same)
        ]

        back : Contains old to ⊎ Test → Contains (old ++ place ∷ []) to
        back (inl there) = Contains-append_left old (place ∷ []) to there
        back (inr h) = subst (λ k. Contains (old ++ place ∷ []) k) (parts h).0 (Contains-push old place)
    by false is = (λ h. inl h, back)
      where
        back : Contains old to ⊎ Test → Contains old to
        back (inl there) = there
        back (inr h) = absurd (cc (ap (λ k. is_none (found_at found k)) (parts h).0, is, (parts h).1))

-- one place more
again : (best : Best) (from depth : ℕ) → lesser (lesser best from depth) from depth ≡ lesser best from depth
again None from depth = at (nat_le from from)
  where
    at : (b : Bool) → cond {A = Best} b (Some (from, depth)) (Some (from, depth)) ≡ Some (from, depth)
    at true = refl
    at false = refl
again (Some best) from depth = at (nat_le best.0 from) refl
  where
    self : (b : Bool) → cond {A = Best} b (Some (from, depth)) (Some (from, depth)) ≡ Some (from, depth)
    self true = refl
    self false = refl

    at : (b : Bool) → nat_le best.0 from ≡ b →
        lesser (cond {A = Best} b (Some best) (Some (from, depth))) from depth ≡ cond {A = Best} b (Some best) (Some (from, depth))
    at true is = ap (λ b. cond {A = Best} b (Some best) (Some (from, depth))) is
    at false is = self (nat_le from from)

two : (g p n : Bool) (old mid new : Best) (from depth : ℕ) → mid ≡ cond (g && n) (lesser old from depth) old →
    new ≡ cond (p && n) (lesser mid from depth) mid → new ≡ cond ((g || p) && n) (lesser old from depth) old
two true true true old mid new from depth a b = b ∙ (ap (λ m. lesser m from depth) a ∙ again old from depth)
two true false true old mid new from depth a b = b ∙ a
two false true true old mid new from depth a b = b ∙ ap (λ m. lesser m from depth) a
two false false true old mid new from depth a b = b ∙ a
two true true false old mid new from depth a b = b ∙ a
two true false false old mid new from depth a b = b ∙ a
two false true false old mid new from depth a b = b ∙ a
two false false false old mid new from depth a b = b ∙ a

pub among-more : (goes : List (Option ℕ)) (i : ℕ) → i < length goes → (to : ℕ) →
    is_among (take (i + 1) goes) to ≡ (is_among (take i goes) to || is_place to (get_or goes i None))
among-more goes i less to =
    ap (λ (gs : List (Option ℕ)). is_among gs to) (take_more goes i None less)
    ∙ (list_any-append (is_place to) (take i goes) (get_or goes i None ∷ [])
    ∙ ap (λ b. is_among (take i goes) to || b) (or-false (is_place to (get_or goes i None))))
  where
    or-false : (b : Bool) → (b || false) ≡ b
    or-false true = refl
    or-false false = refl

pub noted-more : (depths goes : List (Option ℕ)) (i from depth : ℕ) (old mid new : List Best) → i < length goes →
    AreNoted depths (is_among (take i goes)) from depth old mid →
    AreNoted depths (λ to. is_place to (get_or goes i None)) from depth mid new →
    AreNoted depths (is_among (take (i + 1) goes)) from depth old new
noted-more depths goes i from depth old mid new less first next to =
    two (is_among (take i goes) to) (is_place to (get_or goes i None)) (is_none (depth_at depths to))
    (found_at old to) (found_at mid to) (found_at new to) from depth (first to) (next to)
    ∙ ap (λ b. cond (b && is_none (depth_at depths to)) (lesser (found_at old to) from depth) (found_at old to))
    (sym (among-more goes i less to))

some-lesser : (best : Best) (from depth : ℕ) → is_none (lesser best from depth) ≡ false
some-lesser None from depth = refl
some-lesser (Some best) from depth = at (nat_le best.0 from)
  where
    at : (b : Bool) → is_none (cond {A = Best} b (Some best) (Some (from, depth))) ≡ false
    at true = refl
    at false = refl

-- a place is listed for the first of two ways or for the second
two-ways : (g p n : Bool) (old mid : Best) (from depth : ℕ) (A B C : Type 0) →
    mid ≡ cond (g && n) (lesser old from depth) old →
    B ↔ (A ⊎ IsTrue (g && (n && is_none old))) → C ↔ (B ⊎ IsTrue (p && (n && is_none mid))) →
    C ↔ (A ⊎ IsTrue ((g || p) && (n && is_none old)))
two-ways g p n old mid from depth A B C is first next = (forth, back)
  where
    as-old : (g p n : Bool) → mid ≡ cond (g && n) (lesser old from depth) old →
        IsTrue (p && (n && is_none mid)) → IsTrue ((g || p) && (n && is_none old))
    as-old true true true is h = absurd (cc (ap is_none is, some-lesser old from depth, h))
    as-old false true true is h = sym (ap is_none is) ∙ h
    as-old g true false is h = absurd (cc h)
    as-old g false n is h = absurd (cc h)

    first-of : (g p n : Bool) → IsTrue (g && (n && is_none old)) → IsTrue ((g || p) && (n && is_none old))
    first-of true p n h = h
    first-of false p n h = absurd (cc h)

    which : (g p n : Bool) → mid ≡ cond (g && n) (lesser old from depth) old →
        IsTrue ((g || p) && (n && is_none old)) →
        IsTrue (g && (n && is_none old)) ⊎ IsTrue (p && (n && is_none mid))
    which true p n is h = inl h
    which false true true is h = inr (ap is_none is ∙ h)
    which false true false is h = absurd (cc h)
    which false false n is h = absurd (cc h)

    forth : C → A ⊎ IsTrue ((g || p) && (n && is_none old))
    forth c = elim (next.0 c) [
      | inl b ↦ elim (first.0 b) [
        | inl a ↦ inl a
        | inr h ↦ inr (first-of g p n h)
      ]
      | inr h ↦ inr (as-old g p n is h)
    ]

    back : A ⊎ IsTrue ((g || p) && (n && is_none old)) → C
    back (inl a) = next.1 (inl (first.1 (inl a)))
    back (inr h) = elim (which g p n is h) [
      | inl one ↦ next.1 (inl (first.1 (inr one)))
      | inr other ↦ next.1 (inr other)
    ]

pub listed-more : (depths goes : List (Option ℕ)) (i from depth : ℕ) (found mid : List Best) (old some new : List ℕ) →
    i < length goes → AreNoted depths (is_among (take i goes)) from depth found mid →
    AreListed depths (is_among (take i goes)) found old some →
    AreListed depths (λ to. is_place to (get_or goes i None)) mid some new →
    AreListed depths (is_among (take (i + 1) goes)) found old new
listed-more depths goes i from depth found mid old some new less noted first next to =
    subst (λ b. Contains new to ↔ (Contains old to ⊎ IsTrue (b && (is_none (depth_at depths to) && is_none (found_at found to)))))
    (sym (among-more goes i less to))
    (two-ways (is_among (take i goes) to) (is_place to (get_or goes i None)) (is_none (depth_at depths to))
    (found_at found to) (found_at mid to) from depth (Contains old to) (Contains some to) (Contains new to)
    (noted to) (first to) (next to))

-- a place to which one of a list leads is one to which the list leads
pub place-among : (goes : List (Option ℕ)) (i : ℕ) → i < length goes → (to : ℕ) →
    IsTrue (is_place to (get_or goes i None)) → IsTrue (is_among goes to)
place-among [] i less to h = absurd (omega (arith, less))
place-among (g ∷ goes) zero less to h = ap (λ b. b || is_among goes to) h
place-among (g ∷ goes) (suc i) less to h =
    or-true (is_place to g) (is_among goes to) (place-among goes i (omega (arith, less)) to h)
  where
    or-true : (a b : Bool) → b ≡ true → (a || b) ≡ true
    or-true true b e = refl
    or-true false b e = e
