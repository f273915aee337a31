-- Where no rule on depths fails, each place to which control passes is reached, with one depth.
use Rattle.std.proofs.Common.{◌≡◌, ◌≢◌, inl, inr, ℕ, zero, suc, ◌<◌, ◌≤◌, Bool, true, false, not, ◌&&◌, ◌||◌, cond, IsTrue, is_some, Option, Some, None, List, length, refl, sym, ap, subst, ◌∙◌, arith}
use Rattle.std.specs.Option.{option_or}
use Rattle.std.proofs.lemmas.Bool.{cases_eq, cases_lt, ltb-false}
use Rattle.std.proofs.lemmas.List.{get_or_past}
use Rattle.host_events.specs.declared.outcome.VerifyRule.TheVariants.{Depth, Underflow, MaxStack, Index, Target, Member}
use Rattle.il_verifier.specs.declared.line.Line.{Line}
use Rattle.il_verifier.specs.Effects.{depth_after}
use Rattle.il_verifier.specs.Lines.{line_at}
use Rattle.il_verifier.specs.Depths.{lacks, overflows, is_stuck, goes_to, brought_by, least, brought, round, IsReached}
use Rattle.il_verifier.specs.Faults.{FailsAt, FailsDepths, NoneFails, depth_rules}
use Rattle.il_verifier.proofs.Rounds.{seen-reached}

abbrev pub IsClean : ℕ → List (Option Line) → Type 0
IsClean max lines = NoneFails (FailsDepths max lines) depth_rules

-- an instruction that is reached
pub record IsAt (max : ℕ) (lines : List (Option Line)) (at depth : ℕ) (line : Line) : Type 0 where
  pub here : line_at lines at ≡ Some line
  pub reached : IsReached max lines at depth

false-of : (b : Bool) → (b ≡ true → ⊥) → b ≡ false
false-of true out = absurd (out refl)
false-of false out = refl

lacks-not : (max : ℕ) (lines : List (Option Line)) (at depth : ℕ) (line : Line) → IsClean max lines →
    IsAt max lines at depth line → lacks line depth ≡ false
lacks-not max lines at depth line clean is = false-of (lacks line depth) (λ h.
    clean Underflow at (1, omega arith, refl)
    (depth, is.reached, subst (λ (o : Option Line). FailsAt max o depth Underflow) (sym is.here) h))

overflows-not : (max : ℕ) (lines : List (Option Line)) (at depth : ℕ) (line : Line) → IsClean max lines →
    IsAt max lines at depth line → overflows max line depth ≡ false
overflows-not max lines at depth line clean is = false-of (overflows max line depth) (λ h.
    clean MaxStack at (2, omega arith, refl)
    (depth, is.reached, subst (λ (o : Option Line). FailsAt max o depth MaxStack) (sym is.here) h))

index-not : (max : ℕ) (lines : List (Option Line)) (at depth : ℕ) (line : Line) → IsClean max lines →
    IsAt max lines at depth line → not line.is_there ≡ false
index-not max lines at depth line clean is = false-of (not line.is_there) (λ h.
    clean Index at (3, omega arith, refl)
    (depth, is.reached, subst (λ (o : Option Line). FailsAt max o depth Index) (sym is.here) h))

member-not : (max : ℕ) (lines : List (Option Line)) (at depth : ℕ) (line : Line) → IsClean max lines →
    IsAt max lines at depth line → not line.is_proper ≡ false
member-not max lines at depth line clean is = false-of (not line.is_proper) (λ h.
    clean Member at (5, omega arith, refl)
    (depth, is.reached, subst (λ (o : Option Line). FailsAt max o depth Member) (sym is.here) h))

pub not-stuck : (max : ℕ) (lines : List (Option Line)) (at depth : ℕ) (line : Line) → IsClean max lines →
    IsAt max lines at depth line → is_stuck max line depth ≡ false
not-stuck max lines at depth line clean is =
    none (lacks line depth) (overflows max line depth) (not line.is_there) (not line.is_proper)
    (lacks-not max lines at depth line clean is) (overflows-not max lines at depth line clean is)
    (index-not max lines at depth line clean is) (member-not max lines at depth line clean is)
  where
    none : (a b c d : Bool) → a ≡ false → b ≡ false → c ≡ false → d ≡ false → (a || (b || (c || d))) ≡ false
    none false false false false p q r s = refl
    none true b c d p q r s = absurd (cc p)
    none false true c d p q r s = absurd (cc q)
    none false false true d p q r s = absurd (cc r)
    none false false false true p q r s = absurd (cc s)

pub deep-after : (max : ℕ) (lines : List (Option Line)) (at depth : ℕ) (line : Line) → IsClean max lines →
    IsAt max lines at depth line → depth_after line.effect depth ≤ max
deep-after max lines at depth line clean is =
    ltb-false max (depth_after line.effect depth) (overflows-not max lines at depth line clean is)

-- there is an instruction at each place that is reached
pub line-there : (max : ℕ) (lines : List (Option Line)) (at depth : ℕ) → IsClean max lines → IsReached max lines at depth →
    line_at lines at ≢ None
line-there max lines at depth clean reached none =
    clean Target at (4, omega arith, refl)
    (depth, reached, subst (λ (o : Option Line). FailsAt max o depth Target) (sym none) refl)

-- what it brings
pub brings-there : (max : ℕ) (lines : List (Option Line)) (at depth to : ℕ) (line : Line) → IsClean max lines →
    IsAt max lines at depth line → IsTrue (goes_to line to) →
    brought_by max (line_at lines at) (Some depth) to ≡ Some (depth_after line.effect depth)
brings-there max lines at depth to line clean is goes =
    ap (λ (o : Option Line). brought_by max o (Some depth) to) is.here
    ∙ (ap (λ b. cond {A = Option ℕ} (not b && goes_to line to) (Some (depth_after line.effect depth)) None)
    (not-stuck max lines at depth line clean is)
    ∙ ap (λ b. cond {A = Option ℕ} b (Some (depth_after line.effect depth)) None) goes)

-- one of so many places gives something where the least does, and the other way round
pub least-gives : {A : Type 0} (gives : ℕ → Option A) (n : ℕ) (x : A) → least gives n ≡ Some x →
    (i : ℕ) × (i < n) × (gives i ≡ Some x)
least-gives gives zero x e = absurd (cc e)
least-gives {A} gives (suc n) x e = by (least gives n) refl e (λ h. least-gives gives n x h)
  where
    by : (o : Option A) → least gives n ≡ o → option_or o (gives n) ≡ Some x →
        (least gives n ≡ Some x → (i : ℕ) × (i < n) × (gives i ≡ Some x)) → (i : ℕ) × (i < suc n) × (gives i ≡ Some x)
    by None is h before = (n, omega arith, h)
    by (Some y) is h before =
        let rest = before (is ∙ h) in
        (rest.0, omega (arith, rest.1), rest.2)

some-least : {A : Type 0} (gives : ℕ → Option A) (n i : ℕ) → i < n → is_some (gives i) ≡ true → is_some (least gives n) ≡ true
some-least gives zero i less some = absurd (omega (arith, less))
some-least {A} gives (suc n) i less some = by (least gives n) refl (λ before. some-least gives n i before some)
  where
    by : (o : Option A) → least gives n ≡ o → (i < n → is_some (least gives n) ≡ true) → is_some (option_or o (gives n)) ≡ true
    by (Some y) is rest = refl
    by None is rest = elim (cases_lt i n) [
      | inl before ↦ absurd (cc (rest before, ap (λ (o : Option A). is_some o) is))
      | inr past ↦
          let same : i ≡ n = omega (arith, less, past) in
          subst (λ k. is_some (gives k) ≡ true) same some
    ]

pub at-within : (lines : List (Option Line)) (at : ℕ) (line : Line) → line_at lines at ≡ Some line → at < length lines
at-within lines at line here = elim (cases_lt at (length lines)) [
  | inl less ↦ less
  | inr past ↦ absurd (cc (get_or_past lines at None past, here))
]

-- a place to which control passes is reached
reached-next : (max : ℕ) (lines : List (Option Line)) (at depth to : ℕ) (line : Line) → IsClean max lines →
    IsAt max lines at depth line → IsTrue (goes_to line to) → (its : ℕ) × IsReached max lines to its
unfolding round
reached-next max lines at depth to line clean is goes = by ((round max lines k).seen to) refl
  where
    k : ℕ
    k = is.reached.0

    gives : ℕ → Option ℕ
    gives from = brought_by max (line_at lines from) ((round max lines k).fresh from) to

    given : gives at ≡ Some (depth_after line.effect depth)
    given = ap (λ (o : Option ℕ). brought_by max (line_at lines at) o to) is.reached.1
        ∙ brings-there max lines at depth to line clean is goes

    some : is_some (brought max lines (round max lines k).fresh to) ≡ true
    some = some-least gives (length lines) at (at-within lines at line is.here) (ap (λ (o : Option ℕ). is_some o) given)

    found : (o : Option ℕ) → brought max lines (round max lines k).fresh to ≡ o → is_some o ≡ true →
        (round max lines k).seen to ≡ None → (its : ℕ) × IsReached max lines to its
    found None e h none = absurd (cc h)
    found (Some d) e h none =
        (d, (suc k, ap (λ (s : Option ℕ). cond {A = Option ℕ} (is_some s) None (brought max lines (round max lines k).fresh to)) none ∙ e))

    by : (o : Option ℕ) → (round max lines k).seen to ≡ o → (its : ℕ) × IsReached max lines to its
    by (Some d) e = (d, seen-reached max lines k to d e)
    by None e = found (brought max lines (round max lines k).fresh to) refl some e

-- and has no other depth than the one that is brought to it
pub one-depth : (max : ℕ) (lines : List (Option Line)) (at depth to : ℕ) (line : Line) → IsClean max lines →
    IsAt max lines at depth line → IsTrue (goes_to line to) → (its : ℕ) → IsReached max lines to its →
    its ≡ depth_after line.effect depth
one-depth max lines at depth to line clean is goes its reached = elim (cases_eq (depth_after line.effect depth) its) [
  | inl same ↦ sym same
  | inr other ↦ absurd (clean Depth to (0, omega arith, refl) (
    its,
    reached,
    (at, depth, depth_after line.effect depth, is.reached, brings-there max lines at depth to line clean is goes, other),
  ))
]

pub reached-to : (max : ℕ) (lines : List (Option Line)) (at depth to : ℕ) (line : Line) → IsClean max lines →
    IsAt max lines at depth line → IsTrue (goes_to line to) → IsReached max lines to (depth_after line.effect depth)
reached-to max lines at depth to line clean is goes =
    let next = reached-next max lines at depth to line clean is goes in
    subst (λ (d : ℕ). IsReached max lines to d) (one-depth max lines at depth to line clean is goes next.0 next.1) next.1

-- what is brought to a place comes from an instruction that goes there
pub brought-from : (max : ℕ) (o : Option Line) (p : Option ℕ) (to d : ℕ) → brought_by max o p to ≡ Some d →
    (line : Line) × (its : ℕ) × (o ≡ Some line) × (p ≡ Some its) × IsTrue (goes_to line to)
brought-from max None p to d e = absurd (cc e)
brought-from max (Some line) None to d e = absurd (cc e)
brought-from max (Some line) (Some its) to d e = (line, its, refl, refl, at (is_stuck max line its) (goes_to line to) e)
  where
    at : (s g : Bool) → cond {A = Option ℕ} (not s && g) (Some (depth_after line.effect its)) None ≡ Some d → g ≡ true
    at true g h = absurd (cc h)
    at false true h = refl
    at false false h = absurd (cc h)

-- a body without an instruction fails a rule
pub some-line : (max : ℕ) (lines : List (Option Line)) → IsClean max lines → 0 < length lines
unfolding round
some-line max lines clean = elim (cases_lt 0 (length lines)) [
  | inl less ↦ less
  | inr past ↦ absurd (line-there max lines 0 0 clean (0, refl) (get_or_past lines 0 None past))
]
