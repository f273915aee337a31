-- The rounds of the search for depths.
use Rattle.std.proofs.Common.{◌≡◌, ◌⊎◌, ◌↔◌, inl, inr, ℕ, zero, suc, ◌+◌, ◌-◌, ◌<◌, ◌≤◌, Bool, true, false, cond, IsTrue, is_some, Option, Some, None, option_map, List, [], ◌∷◌, length, get_or, refl, sym, ap, subst, ◌∙◌, Contains, arith, eqb}
use Rattle.std.specs.Option.{option_or}
use Rattle.std.proofs.lemmas.Bool.{cases_lt, ne_eqb}
use Rattle.std.proofs.lemmas.List.{get_or_past}
use Rattle.il_verifier.specs.declared.line.Line.{Line}
use Rattle.il_verifier.specs.Lines.{line_at}
use Rattle.il_verifier.specs.Depths.{brought_by, least, brought, start, fresh_after, round, IsReached}
use Rattle.il_verifier.specs.Search.{depth_at, brings_by, IsBest, AreDepths, HasSought}
use Rattle.il_verifier.proofs.Notes.{Best}

-- what the least place gives
none-least : {A : Type 0} (gives : ℕ → Option A) (n : ℕ) → ((i : ℕ) → i < n → gives i ≡ None) → least gives n ≡ None
none-least gives zero none = refl
none-least gives (suc n) none =
    ap (λ o. option_or o (gives n)) (none-least gives n (λ i less. none i (omega (arith, less)))) ∙ none n (omega arith)

some-or : {A : Type 0} (o p : Option A) → is_some o ≡ true → option_or o p ≡ o
some-or None p e = absurd (cc e)
some-or (Some x) p e = refl

least-at : {A : Type 0} (gives : ℕ → Option A) (n i : ℕ) → i < n → is_some (gives i) ≡ true →
    ((j : ℕ) → j < i → gives j ≡ None) → least gives n ≡ gives i
least-at gives zero i less some none = absurd (omega (arith, less))
least-at gives (suc n) i less some none = elim (cases_lt i n) [
  | inl before ↦
      let rest = least-at gives n i before some none in
      ap (λ o. option_or o (gives n)) rest ∙ some-or (gives i) (gives n) some
  | inr past ↦
      let same : i ≡ n = omega (arith, less, past) in
      ap (λ o. option_or o (gives n)) (none-least gives n (λ j before. none j (omega (arith, before, same))))
      ∙ sym (ap gives same)
]

has-or : (o p : Option ℕ) (d : ℕ) → o ≡ Some d → option_or o p ≡ Some d
has-or o p d is = ap (λ x. option_or x p) is

-- what is seen stays so
pub seen-next : (max : ℕ) (lines : List (Option Line)) (k at d : ℕ) → (round max lines k).seen at ≡ Some d →
    (round max lines (suc k)).seen at ≡ Some d
unfolding round
seen-next max lines k at d is = has-or ((round max lines k).seen at) (fresh_after max lines (round max lines k) at) d is

pub seen-later : (max : ℕ) (lines : List (Option Line)) (k j at d : ℕ) → (round max lines k).seen at ≡ Some d →
    (round max lines (k + j)).seen at ≡ Some d
seen-later max lines k zero at d is =
    let e : k ≡ k + 0 = omega arith in subst (λ n. (round max lines n).seen at ≡ Some d) e is
seen-later max lines k (suc j) at d is =
    let e : suc (k + j) ≡ k + suc j = omega arith in
    subst (λ n. (round max lines n).seen at ≡ Some d) e
    (seen-next max lines (k + j) at d (seen-later max lines k j at d is))

-- what is fresh is seen
fresh-or : (seen fresh : Option ℕ) (d : ℕ) → cond (is_some seen) None fresh ≡ Some d →
    option_or seen (cond (is_some seen) None fresh) ≡ Some d
fresh-or None fresh d is = is
fresh-or (Some x) fresh d is = absurd (cc is)

pub fresh-seen : (max : ℕ) (lines : List (Option Line)) (k at d : ℕ) → (round max lines k).fresh at ≡ Some d →
    (round max lines k).seen at ≡ Some d
unfolding round
fresh-seen max lines zero at d is = is
fresh-seen max lines (suc k) at d is =
    fresh-or ((round max lines k).seen at) (brought max lines (round max lines k).fresh at) d is

-- what is seen was fresh once
which-or : (o p : Option ℕ) (d : ℕ) → option_or o p ≡ Some d → (o ≡ Some d) ⊎ (p ≡ Some d)
which-or None p d is = inr is
which-or (Some x) p d is = inl is

pub seen-reached : (max : ℕ) (lines : List (Option Line)) (k at d : ℕ) → (round max lines k).seen at ≡ Some d →
    IsReached max lines at d
unfolding round
seen-reached max lines zero at d is = (0, is)
seen-reached max lines (suc k) at d is = elim (which-or ((round max lines k).seen at) (fresh_after max lines (round max lines k) at) d is) [
  | inl before ↦ seen-reached max lines k at d before
  | inr now ↦ (suc k, now)
]

-- where nothing is fresh, nothing is fresh after
none-brought : (max : ℕ) (o : Option Line) (p : Option ℕ) (to : ℕ) → p ≡ None → brought_by max o p to ≡ None
none-brought max o p to none = ap (λ x. brought_by max o x to) none ∙ by o
  where
    by : (o : Option Line) → brought_by max o None to ≡ None
    by None = refl
    by (Some line) = refl

both-none : (t : Bool) (o : Option ℕ) → o ≡ None → cond t None o ≡ None
both-none true o none = refl
both-none false o none = none

quiet-next : (max : ℕ) (lines : List (Option Line)) (k : ℕ) → ((at : ℕ) → (round max lines k).fresh at ≡ None) →
    (at : ℕ) → (round max lines (suc k)).fresh at ≡ None
unfolding round
quiet-next max lines k quiet at =
    both-none (is_some ((round max lines k).seen at)) (brought max lines (round max lines k).fresh at)
    (none-least (λ from. brought_by max (line_at lines from) ((round max lines k).fresh from) at) (length lines)
    (λ from less. none-brought max (line_at lines from) ((round max lines k).fresh from) at (quiet from)))

quiet-later : (max : ℕ) (lines : List (Option Line)) (k j : ℕ) → ((at : ℕ) → (round max lines k).fresh at ≡ None) →
    (at : ℕ) → (round max lines (k + j)).fresh at ≡ None
quiet-later max lines k zero quiet at =
    let e : k ≡ k + 0 = omega arith in subst (λ n. (round max lines n).fresh at ≡ None) e (quiet at)
quiet-later max lines k (suc j) quiet at =
    let e : suc (k + j) ≡ k + suc j = omega arith in
    subst (λ n. (round max lines n).fresh at ≡ None) e
    (quiet-next max lines (k + j) (quiet-later max lines k j quiet) at)

none-fresh : (o : Option ℕ) → (IsTrue (is_some o) → ⊥) → o ≡ None
none-fresh None out = refl
none-fresh (Some d) out = absurd (out refl)

-- the search is over where nothing is fresh
pub all-sought : (max : ℕ) (lines : List (Option Line)) (k : ℕ) (depths : List (Option ℕ)) →
    HasSought max lines k depths [] → AreDepths max lines depths
all-sought max lines k depths sought at d =
    (λ is. seen-reached max lines k at d (sym (sought.seen at) ∙ is), back)
  where
    quiet : (at : ℕ) → (round max lines k).fresh at ≡ None
    quiet at = none-fresh ((round max lines k).fresh at) (λ h. omega (arith, ((sought.fresh at).1 h).1))

    later : (j n : ℕ) → j ≡ k + n → (round max lines j).fresh at ≡ Some d → depth_at depths at ≡ Some d
    later j n e is =
        absurd (cc (quiet-later max lines k n quiet at, subst (λ m. (round max lines m).fresh at ≡ Some d) e is))

    sooner : (j n : ℕ) → k ≡ j + n → (round max lines j).fresh at ≡ Some d → depth_at depths at ≡ Some d
    sooner j n e is =
        sought.seen at ∙ subst (λ m. (round max lines m).seen at ≡ Some d) (sym e)
        (seen-later max lines j n at d (fresh-seen max lines j at d is))

    back : IsReached max lines at d → depth_at depths at ≡ Some d
    back reached = elim (cases_lt k reached.0) [
      | inl less ↦ later reached.0 (reached.0 - k) (omega (arith, less)) reached.1
      | inr past ↦ sooner reached.0 (k - reached.0) (omega (arith, past)) reached.1
    ]

-- the first round
first-fresh : (at : ℕ) → Contains (0 ∷ []) at ↔ IsTrue (is_some (start at))
first-fresh zero = (λ h. refl, λ h. (0, omega arith, refl))
first-fresh (suc n) = (forth, back)
  where
    no-zero : eqb (suc n) 0 ≡ false
    no-zero = ne_eqb (suc n) 0 (λ e. omega (arith, e))

    back : IsTrue (is_some (start (suc n))) → Contains (0 ∷ []) (suc n)
    back h = absurd (cc (subst (λ b. IsTrue (is_some (cond {A = Option ℕ} b (Some 0) None))) no-zero h))

    forth : Contains (0 ∷ []) (suc n) → IsTrue (is_some (start (suc n)))
    forth h = at h.0 h.1 h.2
      where
        at : (i : ℕ) → i < 1 → get_or (0 ∷ []) i (suc n) ≡ suc n → IsTrue (is_some (start (suc n)))
        at zero less is = absurd (omega (arith, is))
        at (suc i) less is = absurd (omega (arith, less))

pub sought-first : (max : ℕ) (lines : List (Option Line)) (depths : List (Option ℕ)) →
    ((at : ℕ) → depth_at depths at ≡ start at) → HasSought max lines 0 depths (0 ∷ [])
unfolding round
sought-first max lines depths is = record { seen = is; fresh = first-fresh }

-- the next round: what the best brings is what the least brings
given-is : (max : ℕ) (lines : List (Option Line)) (k : ℕ) (depths : List (Option ℕ)) (newest : List ℕ) →
    HasSought max lines k depths newest → (from d : ℕ) → (round max lines k).fresh from ≡ Some d →
    depth_at depths from ≡ Some d
given-is max lines k depths newest sought from d is =
    sought.seen from ∙ fresh-seen max lines k from d is

-- what a place brings by its fresh depth
fresh-brings : (max : ℕ) (lines : List (Option Line)) (k : ℕ) (depths : List (Option ℕ)) (newest : List ℕ) →
    HasSought max lines k depths newest → (to from : ℕ) → Contains newest from →
    brought_by max (line_at lines from) ((round max lines k).fresh from) to ≡ brings_by max lines depths to from
fresh-brings max lines k depths newest sought to from there =
    by ((round max lines k).fresh from) refl ((sought.fresh from).0 there)
  where
    by : (o : Option ℕ) → (round max lines k).fresh from ≡ o → IsTrue (is_some o) →
        brought_by max (line_at lines from) ((round max lines k).fresh from) to ≡ brings_by max lines depths to from
    by None is h = absurd (cc h)
    by (Some d) is h = ap (λ (o : Option ℕ). brought_by max (line_at lines from) o to)
        (is ∙ sym (given-is max lines k depths newest sought from d is))

stale-brings : (max : ℕ) (lines : List (Option Line)) (k : ℕ) (depths : List (Option ℕ)) (newest : List ℕ) →
    HasSought max lines k depths newest → (to from : ℕ) → (Contains newest from → ⊥) →
    brought_by max (line_at lines from) ((round max lines k).fresh from) to ≡ None
stale-brings max lines k depths newest sought to from out =
    none-brought max (line_at lines from) ((round max lines k).fresh from) to
    (none-fresh ((round max lines k).fresh from) (λ h. out ((sought.fresh from).1 h)))

no-line-past : (max : ℕ) (lines : List (Option Line)) (o : Option ℕ) (from to : ℕ) → length lines ≤ from →
    brought_by max (line_at lines from) o to ≡ None
no-line-past max lines o from to past = ap (λ (l : Option Line). brought_by max l o to) (get_or_past lines from None past)

pub best-is-brought : (max : ℕ) (lines : List (Option Line)) (k : ℕ) (depths : List (Option ℕ)) (newest : List ℕ) →
    HasSought max lines k depths newest → (to : ℕ) (best : Best) → IsBest (brings_by max lines depths to) newest best →
    option_map (λ b. b.1) best ≡ brought max lines (round max lines k).fresh to
best-is-brought max lines k depths newest sought to best is = by best is
  where
    gives : ℕ → Option ℕ
    gives from = brought_by max (line_at lines from) ((round max lines k).fresh from) to

    either : (from : ℕ) → Contains newest from ⊎ ((round max lines k).fresh from ≡ None)
    either from = at ((round max lines k).fresh from) refl
      where
        at : (o : Option ℕ) → (round max lines k).fresh from ≡ o → Contains newest from ⊎ ((round max lines k).fresh from ≡ None)
        at None e = inr e
        at (Some d) e = inl ((sought.fresh from).1 (ap (λ o. is_some o) e))

    none-of : ((from : ℕ) → Contains newest from → brings_by max lines depths to from ≡ None) → (from : ℕ) → gives from ≡ None
    none-of none from = elim (either from) [
      | inl there ↦ fresh-brings max lines k depths newest sought to from there ∙ none from there
      | inr stale ↦ none-brought max (line_at lines from) ((round max lines k).fresh from) to stale
    ]

    inside : (from d : ℕ) → gives from ≡ Some d → from < length lines
    inside from d some = elim (cases_lt from (length lines)) [
      | inl less ↦ less
      | inr past ↦ absurd (cc (no-line-past max lines ((round max lines k).fresh from) from to past, some))
    ]

    some-is : (o : Option ℕ) → (is_some o ≡ true → ⊥) → o ≡ None
    some-is None out = refl
    some-is (Some d) out = absurd (out refl)

    by : (best : Best) → IsBest (brings_by max lines depths to) newest best →
        option_map (λ b. b.1) best ≡ brought max lines (round max lines k).fresh to
    by None none = sym (none-least gives (length lines) (λ from less. none-of none from))
    by (Some b) best =
        let some : gives b.0 ≡ Some b.1 =
        fresh-brings max lines k depths newest sought to b.0 best.0 ∙ best.1 in
        let before : (j : ℕ) → j < b.0 → gives j ≡ None =
        λ j less. elim (either j) [
          | inl there ↦ some-is (gives j) (λ h. omega (
            arith,
            less,
            best.2 j there
                (sym (ap (λ (o : Option ℕ). is_some o) (fresh-brings max lines k depths newest sought to j there)) ∙ h),
          ))
          | inr stale ↦ none-brought max (line_at lines j) ((round max lines k).fresh j) to stale
        ] in
        sym (least-at gives (length lines) b.0 (inside b.0 b.1 some) (ap (λ (o : Option ℕ). is_some o) some) before ∙ some)
