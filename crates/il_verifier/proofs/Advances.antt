-- From one round of the search for depths to the next.
use Rattle.std.proofs.Common.{◌≡◌, ◌↔◌, inl, inr, ℕ, zero, suc, ◌+◌, ◌<◌, ◌≤◌, Bool, true, false, not, ◌&&◌, ◌||◌, cond, IsTrue, is_some, is_none, Option, Some, None, option_map, List, [], ◌∷◌, length, min, get_or, refl, sym, ap, subst, ◌∙◌, Contains, arith}
use Rattle.std.specs.Option.{option_or}
use Rattle.std.specs.List.{All}
use Rattle.std.proofs.lemmas.Bool.{cases_lt, lt-ltb}
use Rattle.std.proofs.lemmas.List.{get_or_past}
use Rattle.std.proofs.lemmas.List.Elements.{Contains-get_or}
use Rattle.il_verifier.specs.declared.line.Line.{Line}
use Rattle.il_verifier.specs.Effects.{depth_after}
use Rattle.il_verifier.specs.Lines.{line_at}
use Rattle.il_verifier.specs.Depths.{lacks, overflows, goes_to, brings, brought_by, brought, round}
use Rattle.il_verifier.specs.Search.{depth_at, found_at, brings_by, IsBest, AreBest, AreFound, AreClear, AreLow, HasSought, missing}
use Rattle.il_verifier.proofs.Notes.{Best}
use Rattle.il_verifier.proofs.Rounds.{best-is-brought}

abbrev pub last : Best → Option ℕ
last best = option_map (λ b. b.1) best

-- what a place has after a round: its old depth, or what was found
abbrev pub now : Option ℕ → Best → Option ℕ
now old best = option_or old (cond (is_some old) None (last best))

new-at : (old new : Option ℕ) (best : Best) (In : Type 0) → In ↔ ((old ≡ None) × IsTrue (is_some best)) →
    (In → new ≡ last best) → ((In → ⊥) → new ≡ old) → new ≡ now old best
new-at (Some d) new best In found settled others = others (λ h. cc ((found.0 h).0))
new-at None new (Some b) In found settled others = settled (found.1 (refl, refl))
new-at None new None In found settled others = others (λ h. cc ((found.0 h).1))

pub record IsStep (max : ℕ) (lines : List (Option Line)) (old new : List (Option ℕ)) (newest : List ℕ) (found : List Best) (next : List ℕ) : Type 0 where
  pub best : AreBest max lines old newest found
  pub listed : AreFound old found next
  pub settled : (to : ℕ) → Contains next to → depth_at new to ≡ option_map (λ b. b.1) (found_at found to)
  pub others : (to : ℕ) → (Contains next to → ⊥) → depth_at new to ≡ depth_at old to
  pub kept : length new ≡ length old
  pub sized : length found ≡ length old
  pub low : AreLow max old

pub new-is : (max : ℕ) (lines : List (Option Line)) (old new : List (Option ℕ)) (newest : List ℕ) (found : List Best) (next : List ℕ) →
    IsStep max lines old new newest found next → (at : ℕ) → depth_at new at ≡ now (depth_at old at) (found_at found at)
new-is max lines old new newest found next step at =
    new-at (depth_at old at) (depth_at new at) (found_at found at) (Contains next at) (step.listed at)
    (step.settled at) (step.others at)

-- a depth that is brought is no greater than the greatest one
brings-low : (max : ℕ) (line : Line) (depth to d : ℕ) → brings max line depth to ≡ Some d → d ≤ max
brings-low max line depth to d is =
    by (lacks line depth) (not line.is_there || not line.is_proper) (goes_to line to) (overflows max line depth) refl is
  where
    small : overflows max line depth ≡ false → depth_after line.effect depth ≤ max
    small e = elim (cases_lt max (depth_after line.effect depth)) [
      | inl less ↦ absurd (cc (e, lt-ltb max (depth_after line.effect depth) less))
      | inr past ↦ past
    ]

    by : (a c g o : Bool) → overflows max line depth ≡ o →
        cond (not (a || (o || c)) && g) (Some (depth_after line.effect depth)) None ≡ Some d → d ≤ max
    by true c g o e h = absurd (cc h)
    by false c g true e h = absurd (cc h)
    by false true g false e h = absurd (cc h)
    by false false false false e h = absurd (cc h)
    by false false true false e h =
        let same : depth_after line.effect depth ≡ d = cc h in
        omega (arith, small e, same)

pub brought-low : (max : ℕ) (line : Option Line) (depth : Option ℕ) (to d : ℕ) → brought_by max line depth to ≡ Some d → d ≤ max
brought-low max (Some line) (Some depth) to d is = brings-low max line depth to d is
brought-low max None depth to d is = absurd (cc is)
brought-low max (Some line) None to d is = absurd (cc is)

low-at : (max : ℕ) (lines : List (Option Line)) (old : List (Option ℕ)) (newest : List ℕ) (at : ℕ) (o : Option ℕ) (best : Best) →
    ((d : ℕ) → o ≡ Some d → d ≤ max) → (o ≡ None → IsBest (brings_by max lines old at) newest best) →
    (d : ℕ) → now o best ≡ Some d → d ≤ max
low-at max lines old newest at (Some x) best low is d e = low d e
low-at max lines old newest at None None low is d e = absurd (cc e)
low-at max lines old newest at None (Some b) low is d e =
    let best = is refl in
    brought-low max (line_at lines b.0) (depth_at old b.0) at d (best.1 ∙ e)

pub step-low : (max : ℕ) (lines : List (Option Line)) (old new : List (Option ℕ)) (newest : List ℕ) (found : List Best) (next : List ℕ) →
    IsStep max lines old new newest found next → AreLow max new
step-low max lines old new newest found next step at d is =
    low-at max lines old newest at (depth_at old at) (found_at found at) (step.low at) (step.best at) d
    (sym (new-is max lines old new newest found next step at) ∙ is)

clear-at : (o : Option ℕ) (best : Best) → now o best ≡ None → best ≡ None
clear-at (Some x) best e = absurd (cc e)
clear-at None None e = refl
clear-at None (Some b) e = absurd (cc e)

pub step-clear : (max : ℕ) (lines : List (Option Line)) (old new : List (Option ℕ)) (newest : List ℕ) (found : List Best) (next : List ℕ) →
    IsStep max lines old new newest found next → AreClear new found
step-clear max lines old new newest found next step at none =
    clear-at (depth_at old at) (found_at found at) (sym (new-is max lines old new newest found next step at) ∙ none)

pub step-within : (max : ℕ) (lines : List (Option Line)) (old new : List (Option ℕ)) (newest : List ℕ) (found : List Best) (next : List ℕ) →
    AreFound old found next → length found ≡ length old → length new ≡ length old → All (λ to. to < length new) next
step-within max lines old new newest found next listed sized kept k d less =
    let to : ℕ = get_or next k d in
    let some = ((listed to).0 (Contains-get_or next k d less)).1 in
    elim (cases_lt to (length found)) [
      | inl inside ↦ omega (arith, inside, sized, kept)
      | inr past ↦ absurd (cc (get_or_past found to None past, some))
    ]

-- fewer places have no depth
abbrev one : Option ℕ → ℕ
one o = cond (is_none o) 1 0

one-less : (a b : Option ℕ) → (is_some a ≡ true → is_some b ≡ true) → one b ≤ one a
one-less None None h = omega arith
one-less None (Some y) h = omega arith
one-less (Some x) (Some y) h = omega arith
one-less (Some x) None h = absurd (cc (h refl))

one-gone : (a b : Option ℕ) → is_some a ≡ false → is_some b ≡ true → one b + 1 ≤ one a
one-gone None (Some y) h g = omega arith
one-gone None None h g = absurd (cc g)
one-gone (Some x) b h g = absurd (cc h)

abbrev Grow : List (Option ℕ) → List (Option ℕ) → Type 0
Grow old new = (at : ℕ) → is_some (depth_at old at) ≡ true → is_some (depth_at new at) ≡ true

pub fewer-same : (old new : List (Option ℕ)) → length new ≡ length old → Grow old new → missing new ≤ missing old
fewer-same [] [] same grow = omega arith
fewer-same (a ∷ old) (b ∷ new) same grow =
    let rest = fewer-same old new (omega (arith, same)) (λ at h. grow (suc at) h) in
    let here = one-less a b (grow 0) in
    omega (arith, rest, here)
fewer-same [] (b ∷ new) same grow = absurd (omega (arith, same))
fewer-same (a ∷ old) [] same grow = absurd (omega (arith, same))

pub fewer-one : (old new : List (Option ℕ)) (to : ℕ) → length new ≡ length old → Grow old new →
    is_some (depth_at old to) ≡ false → is_some (depth_at new to) ≡ true → missing new + 1 ≤ missing old
fewer-one [] [] to same grow none some = absurd (cc some)
fewer-one (a ∷ old) (b ∷ new) zero same grow none some =
    let rest = fewer-same old new (omega (arith, same)) (λ at h. grow (suc at) h) in
    let here = one-gone a b none some in
    omega (arith, rest, here)
fewer-one (a ∷ old) (b ∷ new) (suc to) same grow none some =
    let rest = fewer-one old new to (omega (arith, same)) (λ at h. grow (suc at) h) none some in
    let here = one-less a b (grow 0) in
    omega (arith, rest, here)
fewer-one [] (b ∷ new) to same grow none some = absurd (omega (arith, same))
fewer-one (a ∷ old) [] to same grow none some = absurd (omega (arith, same))

grown : (o : Option ℕ) (best : Best) → is_some o ≡ true → is_some (now o best) ≡ true
grown (Some x) best h = refl
grown None best h = absurd (cc h)

gained : (o : Option ℕ) (best : Best) → o ≡ None → is_some best ≡ true → is_some (now o best) ≡ true
gained None (Some b) e h = refl
gained None None e h = absurd (cc h)
gained (Some x) best e h = absurd (cc e)

pub step-fewer : (max : ℕ) (lines : List (Option Line)) (old new : List (Option ℕ)) (newest : List ℕ) (found : List Best) (next : List ℕ) →
    IsStep max lines old new newest found next → missing new + min 1 (length next) ≤ missing old
step-fewer max lines old new newest found next step = by next refl
  where
    grow : Grow old new
    grow at h = ap (λ (o : Option ℕ). is_some o) (new-is max lines old new newest found next step at)
        ∙ grown (depth_at old at) (found_at found at) h

    by : (list : List ℕ) → next ≡ list → missing new + min 1 (length list) ≤ missing old
    by [] is = let less = fewer-same old new step.kept grow in omega (arith, less)
    by (to ∷ rest) is =
        let there : Contains next to = subst (λ (xs : List ℕ). Contains xs to) (sym is) (0, omega arith, refl) in
        let got = (step.listed to).0 there in
        let less = fewer-one old new to step.kept grow (ap (λ (o : Option ℕ). is_some o) got.0)
        (ap (λ (o : Option ℕ). is_some o) (new-is max lines old new newest found next step to)
        ∙ gained (depth_at old to) (found_at found to) got.0 got.1) in
        omega (arith, less)

-- the next round
seen-at : (old : Option ℕ) (best : Best) (brings : Option ℕ) → (old ≡ None → last best ≡ brings) →
    now old best ≡ option_or old (cond (is_some old) None brings)
seen-at (Some d) best brings is = refl
seen-at None best brings is = is refl

fresh-at : (old : Option ℕ) (best : Best) (brings : Option ℕ) (In : Type 0) → In ↔ ((old ≡ None) × IsTrue (is_some best)) →
    (old ≡ None → last best ≡ brings) → In ↔ IsTrue (is_some (cond (is_some old) None brings))
fresh-at (Some d) best brings In found is = (λ h. absurd (cc ((found.0 h).0)), λ h. absurd (cc h))
fresh-at None best brings In found is = (
  λ h. sym (ap (λ (o : Option ℕ). is_some o) (is refl)) ∙ (kept best ∙ (found.0 h).1),
  λ h. found.1 (refl, sym (kept best) ∙ (ap (λ (o : Option ℕ). is_some o) (is refl) ∙ h)),
)
  where
    kept : (best : Best) → is_some (last best) ≡ is_some best
    kept None = refl
    kept (Some b) = refl

pub step-sought : (max : ℕ) (lines : List (Option Line)) (old new : List (Option ℕ)) (newest : List ℕ) (found : List Best) (next : List ℕ) →
    IsStep max lines old new newest found next → (k : ℕ) → HasSought max lines k old newest →
    HasSought max lines (suc k) new next
unfolding round
step-sought max lines old new newest found next step k sought = record {
  seen = λ at.
      new-is max lines old new newest found next step at
      ∙ (seen-at (depth_at old at) (found_at found at) (brings at) (brought-is at)
      ∙ ap (λ (o : Option ℕ). option_or o (cond (is_some o) None (brings at))) (sought.seen at));
  fresh = λ at.
      subst (λ (o : Option ℕ). Contains next at ↔ IsTrue (is_some (cond (is_some o) None (brings at)))) (sought.seen at)
      (fresh-at (depth_at old at) (found_at found at) (brings at) (Contains next at) (step.listed at) (brought-is at));
}
  where
    brings : ℕ → Option ℕ
    brings at = brought max lines (round max lines k).fresh at

    brought-is : (at : ℕ) → depth_at old at ≡ None → last (found_at found at) ≡ brings at
    brought-is at none = best-is-brought max lines k old newest sought at (found_at found at) (step.best at none)
