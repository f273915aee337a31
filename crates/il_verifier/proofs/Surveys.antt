-- What a place brings to others.
use Rattle.std.proofs.Common.{◌≡◌, ◌⊎◌, ◌↔◌, inl, inr, ℕ, Bool, true, false, not, ◌&&◌, cond, IsTrue, is_some, is_none, Option, Some, None, List, refl, sym, ap, subst, ◌∙◌, Contains}
use Rattle.il_verifier.specs.declared.line.Line.{Line}
use Rattle.il_verifier.specs.Effects.{depth_after}
use Rattle.il_verifier.specs.Lines.{line_at}
use Rattle.il_verifier.specs.Depths.{is_stuck, goes_to, brought_by}
use Rattle.il_verifier.specs.Search.{depth_at, found_at, handed, lesser, better, brings_by, AreNoted, AreListed, AreBettered}
use Rattle.il_verifier.proofs.Notes.{Best}

-- it brings nothing
pub bettered-none : (depths : List (Option ℕ)) (from : ℕ) (b : ℕ → Option ℕ) (old : List Best) →
    ((to : ℕ) → b to ≡ None) → AreBettered depths from b old old
bettered-none depths from b old none to =
    sym (ap (λ (o : Option ℕ). cond (is_none (depth_at depths to)) (better (found_at old to) from o) (found_at old to)) (none to)
    ∙ same (is_none (depth_at depths to)) (found_at old to))
  where
    same : (t : Bool) (o : Best) → cond t o o ≡ o
    same true o = refl
    same false o = refl

pub listed-nothing : (depths : List (Option ℕ)) (b : ℕ → Option ℕ) (found : List Best) (old : List ℕ) →
    ((to : ℕ) → b to ≡ None) → AreListed depths (λ to. is_some (b to)) found old old
listed-nothing depths b found old none to = (λ h. inl h, back)
  where
    back : Contains old to ⊎ IsTrue (is_some (b to) && (is_none (depth_at depths to) && is_none (found_at found to))) →
        Contains old to
    back (inl h) = h
    back (inr h) = absurd (at (b to) (none to) h)
      where
        at : (o : Option ℕ) → o ≡ None → IsTrue (is_some o && (is_none (depth_at depths to) && is_none (found_at found to))) → ⊥
        at None is h = cc h
        at (Some d) is h = cc is

pub no-line : (max : ℕ) (lines : List (Option Line)) (depths : List (Option ℕ)) (from to : ℕ) →
    line_at lines from ≡ None → brings_by max lines depths to from ≡ None
no-line max lines depths from to is = ap (λ (o : Option Line). brought_by max o (depth_at depths from) to) is

pub no-depth : (max : ℕ) (lines : List (Option Line)) (depths : List (Option ℕ)) (from to : ℕ) →
    depth_at depths from ≡ None → brings_by max lines depths to from ≡ None
no-depth max lines depths from to is =
    ap (λ (o : Option ℕ). brought_by max (line_at lines from) o to) is ∙ by (line_at lines from)
  where
    by : (o : Option Line) → brought_by max o None to ≡ None
    by None = refl
    by (Some line) = refl

-- what it brings where it hands on a depth or none
by-handed : (max : ℕ) (line : Line) (depth to : ℕ) (s g : Bool) → is_stuck max line depth ≡ s →
    cond (not s && g) (Some (depth_after line.effect depth)) None
    ≡ cond g (cond s None (Some (depth_after line.effect depth))) None
by-handed max line depth to true true is = refl
by-handed max line depth to true false is = refl
by-handed max line depth to false g is = refl

pub brings-is : (max : ℕ) (lines : List (Option Line)) (depths : List (Option ℕ)) (from to depth : ℕ) (line : Line) →
    line_at lines from ≡ Some line → depth_at depths from ≡ Some depth →
    brings_by max lines depths to from ≡ cond (goes_to line to) (handed max line depth) None
brings-is max lines depths from to depth line is has =
    ap (λ (o : Option Line). brought_by max o (depth_at depths from) to) is
    ∙ (ap (λ (o : Option ℕ). brought_by max (Some line) o to) has
    ∙ by-handed max line depth to (is_stuck max line depth) (goes_to line to) refl)

pub brings-none : (max : ℕ) (lines : List (Option Line)) (depths : List (Option ℕ)) (from to depth : ℕ) (line : Line) →
    line_at lines from ≡ Some line → depth_at depths from ≡ Some depth → handed max line depth ≡ None →
    brings_by max lines depths to from ≡ None
brings-none max lines depths from to depth line is has none =
    brings-is max lines depths from to depth line is has
    ∙ (ap (λ (o : Option ℕ). cond (goes_to line to) o None) none ∙ same (goes_to line to))
  where
    same : (g : Bool) → cond {A = Option ℕ} g None None ≡ None
    same true = refl
    same false = refl

pub brings-after : (max : ℕ) (lines : List (Option Line)) (depths : List (Option ℕ)) (from to depth after : ℕ) (line : Line) →
    line_at lines from ≡ Some line → depth_at depths from ≡ Some depth → handed max line depth ≡ Some after →
    brings_by max lines depths to from ≡ cond (goes_to line to) (Some after) None
brings-after max lines depths from to depth after line is has some =
    brings-is max lines depths from to depth line is has
    ∙ ap (λ (o : Option ℕ). cond (goes_to line to) o None) some

-- what is noted for the places of a list is bettered by what is brought to them
pub bettered-by : (depths : List (Option ℕ)) (goes : ℕ → Bool) (from after : ℕ) (b : ℕ → Option ℕ) (old new : List Best) →
    ((to : ℕ) → b to ≡ cond (goes to) (Some after) None) → AreNoted depths goes from after old new →
    AreBettered depths from b old new
bettered-by depths goes from after b old new is noted to =
    noted to
    ∙ (same (goes to) (is_none (depth_at depths to)) (found_at old to)
    ∙ ap (λ (o : Option ℕ). cond (is_none (depth_at depths to)) (better (found_at old to) from o) (found_at old to)) (sym (is to)))
  where
    same : (g n : Bool) (o : Best) → cond (g && n) (lesser o from after) o ≡ cond n (better o from (cond g (Some after) None)) o
    same true n o = refl
    same false true o = refl
    same false false o = refl

pub listed-by : (depths : List (Option ℕ)) (goes : ℕ → Bool) (after : ℕ) (b : ℕ → Option ℕ) (found : List Best) (old new : List ℕ) →
    ((to : ℕ) → b to ≡ cond (goes to) (Some after) None) → AreListed depths goes found old new →
    AreListed depths (λ to. is_some (b to)) found old new
listed-by depths goes after b found old new is listed to =
    subst (λ (t : Bool). Contains new to ↔ (Contains old to ⊎ IsTrue (t && (is_none (depth_at depths to) && is_none (found_at found to)))))
    (sym (ap (λ (o : Option ℕ). is_some o) (is to) ∙ same (goes to))) (listed to)
  where
    same : (g : Bool) → is_some (cond g (Some after) None) ≡ g
    same true = refl
    same false = refl
