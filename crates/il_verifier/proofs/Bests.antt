-- The least place that brings a depth to another.
use Rattle.std.proofs.Common.{◌≡◌, ◌⊎◌, ◌↔◌, inl, inr, ℕ, ◌+◌, ◌<◌, Bool, true, false, ◌&&◌, cond, IsTrue, is_some, is_none, Option, Some, None, List, [], ◌∷◌, ◌++◌, length, take, set, get_or, nat_le, refl, sym, ap, subst, ◌∙◌, Contains, arith, get_or-set_other, get_or-set_same}
use Rattle.std.proofs.lemmas.Bool.{cases_eq, cases_lt, le-leb, lt-leb}
use Rattle.std.proofs.lemmas.List.{take_more}
use Rattle.std.proofs.lemmas.List.Elements.{Contains-push, Contains-append_left, Contains-push_cases}
use Rattle.il_verifier.specs.Search.{depth_at, found_at, lesser, better, IsBest, AreFound, AreBettered, AreListed, AreClear}
use Rattle.il_verifier.proofs.Notes.{Best}

pub none-within : {X : Type 0} (x : X) → Contains [] x → ⊥
none-within x h = omega (arith, h.1)

pub best-none : (b : ℕ → Option ℕ) (f : Best) → f ≡ None → IsBest b [] f
best-none b f none = subst (λ (g : Best). IsBest b [] g) (sym none) (λ from h. absurd (none-within from h))

by-cases : (b : ℕ → Option ℕ) (froms : List ℕ) (x : ℕ) (f : Best) (o : Option ℕ) → b x ≡ o → IsBest b froms f →
    IsBest b (froms ++ x ∷ []) (better f x o)
by-cases b froms x None None is best = λ from h. elim (Contains-push_cases froms x from h) [
  | inl there ↦ best from there
  | inr same ↦ subst (λ k. b k ≡ None) same is
]
by-cases b froms x None (Some d) is best = (
  Contains-push froms x,
  is,
  λ from h some. elim (Contains-push_cases froms x from h) [
    | inl there ↦ absurd (cc (best from there, some))
    | inr same ↦ omega (arith, same)
  ],
)
by-cases b froms x (Some f) None is best = (
  Contains-append_left froms (x ∷ []) f.0 best.0,
  best.1,
  λ from h some. elim (Contains-push_cases froms x from h) [
    | inl there ↦ best.2 from there some
    | inr same ↦ absurd (cc (subst (λ k. b k ≡ None) same is, some))
  ],
)
by-cases b froms x (Some f) (Some d) is best = elim (cases_lt x f.0) [
  | inl less ↦ subst (λ (t : Bool). IsBest b (froms ++ x ∷ []) (cond {A = Best} t (Some f) (Some (x, d)))) (sym (lt-leb f.0 x less)) (
    Contains-push froms x,
    is,
    λ from h some. elim (Contains-push_cases froms x from h) [
      | inl there ↦ omega (arith, best.2 from there some, less)
      | inr same ↦ omega (arith, same)
    ],
  )
  | inr past ↦ subst (λ (t : Bool). IsBest b (froms ++ x ∷ []) (cond {A = Best} t (Some f) (Some (x, d)))) (sym (le-leb f.0 x past)) (
    Contains-append_left froms (x ∷ []) f.0 best.0,
    best.1,
    λ from h some. elim (Contains-push_cases froms x from h) [
      | inl there ↦ best.2 from there some
      | inr same ↦ omega (arith, same, past)
    ],
  )
]

-- one place more
pub best-more : (b : ℕ → Option ℕ) (froms : List ℕ) (i : ℕ) (f g : Best) → i < length froms →
    IsBest b (take i froms) f → g ≡ better f (get_or froms i 0) (b (get_or froms i 0)) → IsBest b (take (i + 1) froms) g
best-more b froms i f g less best is =
    subst (λ (xs : List ℕ). IsBest b xs g) (sym (take_more froms i 0 less))
    (subst (λ (h : Best). IsBest b (take i froms ++ get_or froms i 0 ∷ []) h) (sym is)
    (by-cases b (take i froms) (get_or froms i 0) f (b (get_or froms i 0)) refl best))

pub bettered-at : (depths : List (Option ℕ)) (from : ℕ) (b : ℕ → Option ℕ) (old new : List Best) →
    AreBettered depths from b old new → (to : ℕ) → depth_at depths to ≡ None →
    found_at new to ≡ better (found_at old to) from (b to)
bettered-at depths from b old new is to none =
    is to ∙ ap (λ (o : Option ℕ). cond (is_none o) (better (found_at old to) from (b to)) (found_at old to)) none

some-lesser : (f : Best) (x d : ℕ) → is_some (lesser f x d) ≡ true
some-lesser None x d = refl
some-lesser (Some f) x d = at (nat_le f.0 x)
  where
    at : (t : Bool) → is_some (cond {A = Best} t (Some f) (Some (x, d))) ≡ true
    at true = refl
    at false = refl

abbrev HasNone : Option ℕ → Type 0
HasNone o = o ≡ None

found-by : (o bt : Option ℕ) (f g : Best) (x : ℕ) (A B : Type 0) → A ↔ (HasNone o × IsTrue (is_some f)) →
    B ↔ (A ⊎ IsTrue (is_some bt && (is_none o && is_none f))) → g ≡ cond (is_none o) (better f x bt) f →
    B ↔ (HasNone o × IsTrue (is_some g))
found-by (Some d) bt f g x A B old listed is = (forth, back)
  where
    none : (t : Bool) → IsTrue (t && false) → ⊥
    none true h = cc h
    none false h = cc h

    forth : B → HasNone (Some d) × IsTrue (is_some g)
    forth b = elim (listed.0 b) [
      | inl a ↦ absurd (cc (old.0 a).0)
      | inr h ↦ absurd (none (is_some bt) h)
    ]

    back : HasNone (Some d) × IsTrue (is_some g) → B
    back h = absurd (cc h.0)
found-by None None f g x A B old listed is = (forth, back)
  where
    forth : B → HasNone None × IsTrue (is_some g)
    forth b = elim (listed.0 b) [
      | inl a ↦ (refl, ap (λ (o : Best). is_some o) is ∙ (old.0 a).1)
      | inr h ↦ absurd (cc h)
    ]

    back : HasNone None × IsTrue (is_some g) → B
    back h = listed.1 (inl (old.1 (refl, sym (ap (λ (o : Best). is_some o) is) ∙ h.1)))
found-by None (Some d) f g x A B old listed is = (forth, back)
  where
    some : is_some g ≡ true
    some = ap (λ (o : Best). is_some o) is ∙ some-lesser f x d

    forth : B → HasNone None × IsTrue (is_some g)
    forth b = (refl, some)

    which : (f : Best) → IsTrue (is_some f) ⊎ IsTrue (is_none f)
    which None = inr refl
    which (Some f) = inl refl

    back : HasNone None × IsTrue (is_some g) → B
    back h = elim (which f) [
      | inl there ↦ listed.1 (inl (old.1 (refl, there)))
      | inr fresh ↦ listed.1 (inr fresh)
    ]

pub found-more : (depths : List (Option ℕ)) (from : ℕ) (b : ℕ → Option ℕ) (old new : List Best) (some next : List ℕ) →
    AreFound depths old some → AreBettered depths from b old new → AreListed depths (λ to. is_some (b to)) old some next →
    AreFound depths new next
found-more depths from b old new some next found is listed to =
    found-by (depth_at depths to) (b to) (found_at old to) (found_at new to) from (Contains some to) (Contains next to)
    (found to) (listed to) (is to)

pub found-none : (depths : List (Option ℕ)) (found : List Best) → AreClear depths found → AreFound depths found []
found-none depths found clear to = (λ h. absurd (none-within to h), λ h. absurd (cc (clear to h.0, h.1)))

-- one place more has its depth
settle-cases : (next : List ℕ) (i to : ℕ) → i < length next → Contains (take (i + 1) next) to →
    Contains (take i next) to ⊎ (get_or next i 0 ≡ to)
settle-cases next i to less h =
    Contains-push_cases (take i next) (get_or next i 0) to (subst (λ (xs : List ℕ). Contains xs to) (take_more next i 0 less) h)

within-more : (next : List ℕ) (i to : ℕ) → i < length next → Contains (take i next) to → Contains (take (i + 1) next) to
within-more next i to less h =
    subst (λ (xs : List ℕ). Contains xs to) (sym (take_more next i 0 less)) (Contains-append_left (take i next) (get_or next i 0 ∷ []) to h)

pub settled-more : (depths : List (Option ℕ)) (next : List ℕ) (i : ℕ) (v : Option ℕ) (f : ℕ → Option ℕ) → i < length next →
    get_or next i 0 < length depths → v ≡ f (get_or next i 0) →
    ((to : ℕ) → Contains (take i next) to → depth_at depths to ≡ f to) →
    (to : ℕ) → Contains (take (i + 1) next) to → depth_at (set depths (get_or next i 0) v) to ≡ f to
settled-more depths next i v f less within is settled to h = elim (cases_eq to (get_or next i 0)) [
  | inl same ↦ subst (λ k. get_or (set depths (get_or next i 0) v) k None ≡ f k) (sym same)
      (get_or-set_same depths (get_or next i 0) v None within ∙ is)
  | inr other ↦ get_or-set_other depths (get_or next i 0) to v None other
      ∙ elim (settle-cases next i to less h) [
        | inl there ↦ settled to there
        | inr same ↦ absurd (other (sym same))
      ]
]

pub others-more : (depths start : List (Option ℕ)) (next : List ℕ) (i : ℕ) (v : Option ℕ) → i < length next →
    ((to : ℕ) → (Contains (take i next) to → ⊥) → depth_at depths to ≡ depth_at start to) →
    (to : ℕ) → (Contains (take (i + 1) next) to → ⊥) → depth_at (set depths (get_or next i 0) v) to ≡ depth_at start to
others-more depths start next i v less others to out =
    get_or-set_other depths (get_or next i 0) to v None
    (λ same. out (subst (λ (xs : List ℕ). Contains xs to) (sym (take_more next i 0 less))
    (subst (λ k. Contains (take i next ++ get_or next i 0 ∷ []) k) (sym same) (Contains-push (take i next) (get_or next i 0)))))
    ∙ others to (λ there. out (within-more next i to less there))
