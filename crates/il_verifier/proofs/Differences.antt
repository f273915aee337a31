-- The places to which another depth is brought.
use Rattle.std.proofs.Common.{◌≡◌, ◌≢◌, inl, inr, ℕ, zero, suc, ◌+◌, ◌<◌, Bool, true, false, not, ◌&&◌, ◌||◌, cond, Option, Some, None, List, length, take, set, get_or, refl, sym, ap, subst, ◌∙◌, arith, get_or-set_other, get_or-set_same}
use Rattle.std.proofs.lemmas.Bool.{cases_eq, cases_lt, eq-eqb, ne_eqb}
use Rattle.std.proofs.lemmas.List.{get_or_past}
use Rattle.il_verifier.specs.declared.line.Line.{Line}
use Rattle.il_verifier.specs.Lines.{line_at}
use Rattle.il_verifier.specs.Depths.{is_place, brought_by}
use Rattle.il_verifier.specs.Faults.{BringsOther}
use Rattle.il_verifier.specs.Search.{depth_at, differs, any_below, is_among, brings_by, AreDepths, AreMarked}
use Rattle.il_verifier.proofs.Notes.{among-more}

or-false : (b : Bool) → b ≡ (b || false)
or-false true = refl
or-false false = refl

or-true : (b : Bool) → true ≡ (b || true)
or-true true = refl
or-true false = refl

abbrev pub AreMore : List Bool → List Bool → (ℕ → Bool) → Type 0
AreMore old new more = (at : ℕ) → get_or new at false ≡ (get_or old at false || more at)

pub marks-kept : (depths : List (Option ℕ)) (depth to : ℕ) (old : List Bool) → differs (Some depth) (depth_at depths to) ≡ false →
    AreMore old old (λ at. is_place at (Some to) && differs (Some depth) (depth_at depths at))
marks-kept depths depth to old same at = elim (cases_eq to at) [
  | inl is ↦ or-false (get_or old at false) ∙ ap (λ b. get_or old at false || b)
      (sym (ap (λ b. b && differs (Some depth) (depth_at depths at)) (eq-eqb to at is)
      ∙ subst (λ k. differs (Some depth) (depth_at depths k) ≡ false) is same))
  | inr other ↦ or-false (get_or old at false) ∙ ap (λ b. get_or old at false || b)
      (sym (ap (λ b. b && differs (Some depth) (depth_at depths at)) (ne_eqb to at other)))
]

pub marks-set : (depths : List (Option ℕ)) (depth to : ℕ) (old : List Bool) → to < length old →
    differs (Some depth) (depth_at depths to) ≡ true →
    AreMore old (set old to true) (λ at. is_place at (Some to) && differs (Some depth) (depth_at depths at))
marks-set depths depth to old within other at = elim (cases_eq at to) [
  | inl is ↦
      ap (λ k. get_or (set old to true) k false) is ∙ (get_or-set_same old to true false within
      ∙ (or-true (get_or old at false) ∙ ap (λ b. get_or old at false || b)
      (sym (ap (λ b. b && differs (Some depth) (depth_at depths at)) (eq-eqb to at (sym is))
      ∙ subst (λ k. differs (Some depth) (depth_at depths k) ≡ true) (sym is) other))))
  | inr apart ↦
      get_or-set_other old to at true false apart
      ∙ (or-false (get_or old at false) ∙ ap (λ b. get_or old at false || b)
      (sym (ap (λ b. b && differs (Some depth) (depth_at depths at)) (ne_eqb to at (λ e. apart (sym e))))))
]

pub marks-none : (depths : List (Option ℕ)) (depth : ℕ) (old : List Bool) →
    AreMore old old (λ at. is_place at None && differs (Some depth) (depth_at depths at))
marks-none depths depth old at = or-false (get_or old at false)

two : (a g p d : Bool) (b c : Bool) → b ≡ (a || (g && d)) → c ≡ (b || (p && d)) → c ≡ (a || ((g || p) && d))
two true g p d b c is next = next ∙ ap (λ x. x || (p && d)) is
two false true p d b c is next = next ∙ (ap (λ x. x || (p && d)) is ∙ same d p)
  where
    same : (d p : Bool) → (d || (p && d)) ≡ d
    same true p = refl
    same false true = refl
    same false false = refl
two false false p d b c is next = next ∙ ap (λ x. x || (p && d)) is

pub marks-more : (depths goes : List (Option ℕ)) (depth i : ℕ) (old mid new : List Bool) → i < length goes →
    AreMore old mid (λ at. is_among (take i goes) at && differs (Some depth) (depth_at depths at)) →
    AreMore mid new (λ at. is_place at (get_or goes i None) && differs (Some depth) (depth_at depths at)) →
    AreMore old new (λ at. is_among (take (i + 1) goes) at && differs (Some depth) (depth_at depths at))
marks-more depths goes depth i old mid new less first next at =
    two (get_or old at false) (is_among (take i goes) at) (is_place at (get_or goes i None))
    (differs (Some depth) (depth_at depths at)) (get_or mid at false) (get_or new at false) (first at) (next at)
    ∙ ap (λ b. get_or old at false || (b && differs (Some depth) (depth_at depths at))) (sym (among-more goes i less at))

pub nothing-differs : (old : List Bool) (b own : ℕ → Option ℕ) → ((at : ℕ) → b at ≡ None) →
    AreMore old old (λ at. differs (b at) (own at))
nothing-differs old b own none at =
    or-false (get_or old at false) ∙ ap (λ o. get_or old at false || differs o (own at)) (sym (none at))

pub after-differs : (old new : List Bool) (goes : ℕ → Bool) (after : ℕ) (b own : ℕ → Option ℕ) →
    ((at : ℕ) → b at ≡ cond (goes at) (Some after) None) → AreMore old new (λ at. goes at && differs (Some after) (own at)) →
    AreMore old new (λ at. differs (b at) (own at))
after-differs old new goes after b own is more at =
    more at ∙ ap (λ x. get_or old at false || x)
    (same (goes at) ∙ ap (λ (o : Option ℕ). differs o (own at)) (sym (is at)))
  where
    same : (g : Bool) → (g && differs (Some after) (own at)) ≡ differs (cond g (Some after) None) (own at)
    same true = refl
    same false = refl

-- another depth is brought to a place exactly where it is marked
any-from : (test : ℕ → Bool) (n i : ℕ) → i < n → test i ≡ true → any_below test n ≡ true
any-from test zero i less is = absurd (omega (arith, less))
any-from test (suc n) i less is = elim (cases_lt i n) [
  | inl before ↦ ap (λ b. b || test n) (any-from test n i before is)
  | inr past ↦
      let same : i ≡ n = omega (arith, less, past) in
      ap (λ b. any_below test n || b) (sym (ap test same) ∙ is) ∙ sym (or-true (any_below test n))
]

which-any : (test : ℕ → Bool) (n : ℕ) → any_below test n ≡ true → (i : ℕ) × (i < n) × (test i ≡ true)
which-any test zero is = absurd (cc is)
which-any test (suc n) is = by (any_below test n) (test n) refl refl is (λ h. which-any test n h)
  where
    by : (a b : Bool) → any_below test n ≡ a → test n ≡ b → (a || b) ≡ true →
        (any_below test n ≡ true → (i : ℕ) × (i < n) × (test i ≡ true)) → (i : ℕ) × (i < suc n) × (test i ≡ true)
    by true b e f h rest = let r = rest e in (r.0, omega (arith, r.1), r.2)
    by false true e f h rest = (n, omega arith, f)
    by false false e f h rest = absurd (cc h)

differs-some : (b : Option ℕ) (own : ℕ) → differs b (Some own) ≡ true → (other : ℕ) × (b ≡ Some other) × (other ≢ own)
differs-some None own is = absurd (cc is)
differs-some (Some d) own is = (d, refl, λ e. cc (is, ap not (eq-eqb d own e)))

differs-from : (d own : ℕ) → d ≢ own → differs (Some d) (Some own) ≡ true
differs-from d own apart = ap not (ne_eqb d own apart)

pub marked-brings : (max : ℕ) (lines : List (Option Line)) (depths : List (Option ℕ)) (marks : List Bool) →
    AreDepths max lines depths → AreMarked max lines depths (length lines) marks → (at depth : ℕ) →
    depth_at depths at ≡ Some depth → get_or marks at false ≡ true → BringsOther max lines at depth
marked-brings max lines depths marks all marked at depth has is =
    let test : ℕ → Bool = λ from. differs (brings_by max lines depths at from) (depth_at depths at) in
    let one = which-any test (length lines) (sym (marked at) ∙ is) in
    let from : ℕ = one.0 in
    let other = differs-some (brings_by max lines depths at from) depth
    (ap (λ (o : Option ℕ). differs (brings_by max lines depths at from) o) (sym has) ∙ one.2) in
    reaches from (depth_at depths from) refl other.0 other.1 other.2
  where
    reaches : (from : ℕ) (o : Option ℕ) → depth_at depths from ≡ o → (other : ℕ) →
        brings_by max lines depths at from ≡ Some other → other ≢ depth → BringsOther max lines at depth
    reaches from None e other b apart = absurd (cc (sym (nothing (line_at lines from))
        ∙ (ap (λ (o : Option ℕ). brought_by max (line_at lines from) o at) (sym e) ∙ b)))
      where
        nothing : (l : Option Line) → brought_by max l None at ≡ None
        nothing None = refl
        nothing (Some line) = refl
    reaches from (Some its) e other b apart = (
      from,
      its,
      other,
      (all from its).0 e,
      ap (λ (o : Option ℕ). brought_by max (line_at lines from) o at) (sym e) ∙ b,
      apart,
    )

pub brings-marked : (max : ℕ) (lines : List (Option Line)) (depths : List (Option ℕ)) (marks : List Bool) →
    AreDepths max lines depths → AreMarked max lines depths (length lines) marks → (at depth : ℕ) →
    depth_at depths at ≡ Some depth → BringsOther max lines at depth → get_or marks at false ≡ true
brings-marked max lines depths marks all marked at depth has brings =
    let from : ℕ = brings.0 in
    let its : depth_at depths from ≡ Some brings.1 = (all from brings.1).1 brings.3 in
    let b : brings_by max lines depths at from ≡ Some brings.2 =
    ap (λ (o : Option ℕ). brought_by max (line_at lines from) o at) its ∙ brings.4 in
    let inside : from < length lines = elim (cases_lt from (length lines)) [
      | inl less ↦ less
      | inr past ↦ absurd (cc (
        ap (λ (l : Option Line). brought_by max l (depth_at depths from) at)
            (get_or_past lines from None past),
        b,
      ))
    ] in
    marked at
    ∙ any-from (λ from. differs (brings_by max lines depths at from) (depth_at depths at)) (length lines) from inside
    (ap (λ (o : Option ℕ). differs o (depth_at depths at)) b
    ∙ (ap (λ (o : Option ℕ). differs (Some brings.2) o) has ∙ differs-from brings.2 depth brings.5))

pub any-more : (test : ℕ → Bool) (n : ℕ) (old new : Bool) → old ≡ any_below test n → new ≡ (old || test n) →
    new ≡ any_below test (n + 1)
any-more test n old new is more =
    let e : suc n ≡ n + 1 = omega arith in
    more ∙ (ap (λ b. b || test n) is ∙ ap (any_below test) e)
