-- The first failing rule on depths.
use Rattle.std.proofs.Common.{◌≡◌, inl, inr, ℕ, ◌+◌, ◌<◌, Bool, true, false, not, cond, is_none, Option, Some, None, List, length, get_or, refl, sym, ap, subst, ◌∙◌, Contains, arith}
use Rattle.std.specs.Option.{option_and_then}
use Rattle.std.specs.List.{list_any}
use Rattle.std.proofs.lemmas.Bool.{cases_lt}
use Rattle.std.proofs.lemmas.List.{get_or_past}
use Rattle.host_events.specs.declared.outcome.VerifyRule.{VerifyRule}
use Rattle.host_events.specs.declared.outcome.VerifyRule.TheVariants.{Depth, Kind, Underflow, Operand, MaxStack, Index, Target, Assign, Member, Return, Region}
use Rattle.il_verifier.specs.declared.line.Line.{Line}
use Rattle.il_verifier.specs.Lines.{line_at}
use Rattle.il_verifier.specs.Depths.{lacks, overflows, IsReached}
use Rattle.il_verifier.specs.Faults.{rule_number, depth_rules, FailsAt, FailsDepths, BringsOther, IsFirst, NoneFails}
use Rattle.il_verifier.specs.Search.{depth_at, AreDepths, AreMarked, FailsHere, depth_rule, IsClear, AreClearBelow}
use Rattle.il_verifier.proofs.Differences.{marked-brings, brings-marked}

-- a rule of a lesser number does not fail where the tests before it do not hold
below : (max : ℕ) (line : Line) (depth n : ℕ) → (3 < n → lacks line depth ≡ false) →
    (5 < n → overflows max line depth ≡ false) → (6 < n → not line.is_there ≡ false) →
    (7 < n → list_any is_none line.goes ≡ false) → (9 < n → not line.is_proper ≡ false) →
    (r : VerifyRule) → rule_number r < n → FailsHere max (Some line) depth false r → ⊥
below max line depth n ha hb hc hd he Depth less h = cc h
below max line depth n ha hb hc hd he Kind less h = h
below max line depth n ha hb hc hd he Underflow less h = cc (ha less, h)
below max line depth n ha hb hc hd he Operand less h = h
below max line depth n ha hb hc hd he MaxStack less h = cc (hb less, h)
below max line depth n ha hb hc hd he Index less h = cc (hc less, h)
below max line depth n ha hb hc hd he Target less h = cc (hd less, h)
below max line depth n ha hb hc hd he Assign less h = h
below max line depth n ha hb hc hd he Member less h = cc (he less, h)
below max line depth n ha hb hc hd he Return less h = h
below max line depth n ha hb hc hd he Region less h = h

small : (r : VerifyRule) → rule_number r < 12
small Depth = omega arith
small Kind = omega arith
small Underflow = omega arith
small Operand = omega arith
small MaxStack = omega arith
small Index = omega arith
small Target = omega arith
small Assign = omega arith
small Member = omega arith
small Return = omega arith
small Region = omega arith

-- what the first failing rule says
abbrev pub IsRule : ℕ → Option Line → ℕ → Bool → Option VerifyRule → Type 0
IsRule max line depth other None = (r : VerifyRule) → FailsHere max line depth other r → ⊥
IsRule max line depth other (Some rule) =
    Contains depth_rules rule × FailsHere max line depth other rule
    × ((r : VerifyRule) → rule_number r < rule_number rule → FailsHere max line depth other r → ⊥)

none-sooner : (max : ℕ) (line : Option Line) (depth : ℕ) (r : VerifyRule) → rule_number r < 1 →
    FailsHere max line depth true r → ⊥
none-sooner max line depth Depth less h = absurd (omega (arith, less))
none-sooner max line depth Kind less h = absurd (omega (arith, less))
none-sooner max line depth Underflow less h = absurd (omega (arith, less))
none-sooner max line depth Operand less h = absurd (omega (arith, less))
none-sooner max line depth MaxStack less h = absurd (omega (arith, less))
none-sooner max line depth Index less h = absurd (omega (arith, less))
none-sooner max line depth Target less h = absurd (omega (arith, less))
none-sooner max line depth Assign less h = absurd (omega (arith, less))
none-sooner max line depth Member less h = absurd (omega (arith, less))
none-sooner max line depth Return less h = absurd (omega (arith, less))
none-sooner max line depth Region less h = absurd (omega (arith, less))

no-line-sooner : (max depth : ℕ) (r : VerifyRule) → rule_number r < 7 → FailsHere max None depth false r → ⊥
no-line-sooner max depth Depth less h = cc h
no-line-sooner max depth Kind less h = cc h
no-line-sooner max depth Underflow less h = cc h
no-line-sooner max depth Operand less h = cc h
no-line-sooner max depth MaxStack less h = cc h
no-line-sooner max depth Index less h = cc h
no-line-sooner max depth Target less h = absurd (omega (arith, less))
no-line-sooner max depth Assign less h = cc h
no-line-sooner max depth Member less h = cc h
no-line-sooner max depth Return less h = cc h
no-line-sooner max depth Region less h = cc h

pub rule-is : (max : ℕ) (line : Option Line) (depth : ℕ) (other : Bool) →
    IsRule max line depth other (depth_rule max line depth other)
rule-is max line depth true = ((0, omega arith, refl), refl, none-sooner max line depth)
rule-is max None depth false = ((4, omega arith, refl), refl, no-line-sooner max depth)
rule-is max (Some line) depth false =
    by (lacks line depth) (overflows max line depth) (not line.is_there) (list_any is_none line.goes) (not line.is_proper)
    refl refl refl refl refl
  where
    by : (a b c d e : Bool) → lacks line depth ≡ a → overflows max line depth ≡ b → not line.is_there ≡ c →
        list_any is_none line.goes ≡ d → not line.is_proper ≡ e →
        IsRule max (Some line) depth false (cond a (Some Underflow) (cond b (Some MaxStack) (cond c (Some Index)
        (cond d (Some Target) (cond e (Some Member) None)))))
    by true b c d e ia ib ic id ie = (
      (1, omega arith, refl),
      ia,
      below max line depth 3
          (λ l. absurd (omega (arith, l))) (λ l. absurd (omega (arith, l))) (λ l. absurd (omega (arith, l)))
          (λ l. absurd (omega (arith, l))) (λ l. absurd (omega (arith, l))),
    )
    by false true c d e ia ib ic id ie = (
      (2, omega arith, refl),
      ib,
      below max line depth 5 (λ l. ia)
          (λ l. absurd (omega (arith, l))) (λ l. absurd (omega (arith, l)))
          (λ l. absurd (omega (arith, l))) (λ l. absurd (omega (arith, l))),
    )
    by false false true d e ia ib ic id ie = (
      (3, omega arith, refl),
      ic,
      below max line depth 6 (λ l. ia) (λ l. ib)
          (λ l. absurd (omega (arith, l))) (λ l. absurd (omega (arith, l))) (λ l. absurd (omega (arith, l))),
    )
    by false false false true e ia ib ic id ie = (
      (4, omega arith, refl),
      id,
      below max line depth 7 (λ l. ia) (λ l. ib)
          (λ l. ic) (λ l. absurd (omega (arith, l))) (λ l. absurd (omega (arith, l))),
    )
    by false false false false true ia ib ic id ie = (
      (5, omega arith, refl),
      ie,
      below max line depth 9 (λ l. ia)
          (λ l. ib) (λ l. ic) (λ l. id) (λ l. absurd (omega (arith, l))),
    )
    by false false false false false ia ib ic id ie =
        λ r h. below max line depth 12 (λ l. ia) (λ l. ib) (λ l. ic) (λ l. id) (λ l. ie) r (small r) h

-- a rule fails at a place by its depth and the marks
pub record IsSought (max : ℕ) (lines : List (Option Line)) (depths : List (Option ℕ)) (marks : List Bool) : Type 0 where
  pub reached : AreDepths max lines depths
  pub marked : AreMarked max lines depths (length lines) marks

one-depth : (max : ℕ) (lines : List (Option Line)) (depths : List (Option ℕ)) → AreDepths max lines depths →
    (at d e : ℕ) → depth_at depths at ≡ Some d → IsReached max lines at e → e ≡ d
one-depth max lines depths all at d e has reached = cc ((all at e).1 reached, has)

pub fails-here : (max : ℕ) (lines : List (Option Line)) (depths : List (Option ℕ)) (marks : List Bool) →
    IsSought max lines depths marks → (at d : ℕ) → depth_at depths at ≡ Some d → (r : VerifyRule) →
    FailsDepths max lines r at → FailsHere max (line_at lines at) d (get_or marks at false) r
fails-here max lines depths marks s at d has Depth h =
    brings-marked max lines depths marks s.reached s.marked at d has
    (subst (λ k. BringsOther max lines at k) (one-depth max lines depths s.reached at d h.0 has h.1) h.2)
fails-here max lines depths marks s at d has Kind h =
    subst (λ k. FailsAt max (line_at lines at) k Kind) (one-depth max lines depths s.reached at d h.0 has h.1) h.2
fails-here max lines depths marks s at d has Underflow h =
    subst (λ k. FailsAt max (line_at lines at) k Underflow) (one-depth max lines depths s.reached at d h.0 has h.1) h.2
fails-here max lines depths marks s at d has Operand h =
    subst (λ k. FailsAt max (line_at lines at) k Operand) (one-depth max lines depths s.reached at d h.0 has h.1) h.2
fails-here max lines depths marks s at d has MaxStack h =
    subst (λ k. FailsAt max (line_at lines at) k MaxStack) (one-depth max lines depths s.reached at d h.0 has h.1) h.2
fails-here max lines depths marks s at d has Index h =
    subst (λ k. FailsAt max (line_at lines at) k Index) (one-depth max lines depths s.reached at d h.0 has h.1) h.2
fails-here max lines depths marks s at d has Target h =
    subst (λ k. FailsAt max (line_at lines at) k Target) (one-depth max lines depths s.reached at d h.0 has h.1) h.2
fails-here max lines depths marks s at d has Assign h =
    subst (λ k. FailsAt max (line_at lines at) k Assign) (one-depth max lines depths s.reached at d h.0 has h.1) h.2
fails-here max lines depths marks s at d has Member h =
    subst (λ k. FailsAt max (line_at lines at) k Member) (one-depth max lines depths s.reached at d h.0 has h.1) h.2
fails-here max lines depths marks s at d has Return h =
    subst (λ k. FailsAt max (line_at lines at) k Return) (one-depth max lines depths s.reached at d h.0 has h.1) h.2
fails-here max lines depths marks s at d has Region h =
    subst (λ k. FailsAt max (line_at lines at) k Region) (one-depth max lines depths s.reached at d h.0 has h.1) h.2

pub here-fails : (max : ℕ) (lines : List (Option Line)) (depths : List (Option ℕ)) (marks : List Bool) →
    IsSought max lines depths marks → (at d : ℕ) → depth_at depths at ≡ Some d → (r : VerifyRule) →
    FailsHere max (line_at lines at) d (get_or marks at false) r → FailsDepths max lines r at
here-fails max lines depths marks s at d has Depth h =
    (d, (s.reached at d).0 has, marked-brings max lines depths marks s.reached s.marked at d has h)
here-fails max lines depths marks s at d has Kind h = (d, (s.reached at d).0 has, h)
here-fails max lines depths marks s at d has Underflow h = (d, (s.reached at d).0 has, h)
here-fails max lines depths marks s at d has Operand h = (d, (s.reached at d).0 has, h)
here-fails max lines depths marks s at d has MaxStack h = (d, (s.reached at d).0 has, h)
here-fails max lines depths marks s at d has Index h = (d, (s.reached at d).0 has, h)
here-fails max lines depths marks s at d has Target h = (d, (s.reached at d).0 has, h)
here-fails max lines depths marks s at d has Assign h = (d, (s.reached at d).0 has, h)
here-fails max lines depths marks s at d has Member h = (d, (s.reached at d).0 has, h)
here-fails max lines depths marks s at d has Return h = (d, (s.reached at d).0 has, h)
here-fails max lines depths marks s at d has Region h = (d, (s.reached at d).0 has, h)

reached-of : (max : ℕ) (lines : List (Option Line)) (r : VerifyRule) (at : ℕ) → FailsDepths max lines r at →
    (d : ℕ) × IsReached max lines at d
reached-of max lines Depth at h = (h.0, h.1)
reached-of max lines Kind at h = (h.0, h.1)
reached-of max lines Underflow at h = (h.0, h.1)
reached-of max lines Operand at h = (h.0, h.1)
reached-of max lines MaxStack at h = (h.0, h.1)
reached-of max lines Index at h = (h.0, h.1)
reached-of max lines Target at h = (h.0, h.1)
reached-of max lines Assign at h = (h.0, h.1)
reached-of max lines Member at h = (h.0, h.1)
reached-of max lines Return at h = (h.0, h.1)
reached-of max lines Region at h = (h.0, h.1)

-- the rule that is found at a place
abbrev pub rule_at : ℕ → List (Option Line) → List (Option ℕ) → List Bool → ℕ → Option VerifyRule
rule_at max lines depths marks at =
    option_and_then (λ depth. depth_rule max (line_at lines at) depth (get_or marks at false)) (depth_at depths at)

pub none-at : (max : ℕ) (lines : List (Option Line)) (depths : List (Option ℕ)) (marks : List Bool) →
    IsSought max lines depths marks → (at : ℕ) → rule_at max lines depths marks at ≡ None →
    IsClear (FailsDepths max lines) depth_rules at
none-at max lines depths marks s at none r among fails =
    let there = reached-of max lines r at fails in
    let d : ℕ = there.0 in
    let has : depth_at depths at ≡ Some d = (s.reached at d).1 there.1 in
    let rule : depth_rule max (line_at lines at) d (get_or marks at false) ≡ None =
    sym (ap (λ (o : Option ℕ). option_and_then (λ depth. depth_rule max (line_at lines at) depth (get_or marks at false)) o) has) ∙ none in
    let is = subst (λ (o : Option VerifyRule). IsRule max (line_at lines at) d (get_or marks at false) o) rule
    (rule-is max (line_at lines at) d (get_or marks at false)) in
    is r (fails-here max lines depths marks s at d has r fails)

pub first-at-place : (max : ℕ) (lines : List (Option Line)) (depths : List (Option ℕ)) (marks : List Bool) →
    IsSought max lines depths marks → (at : ℕ) (rule : VerifyRule) → rule_at max lines depths marks at ≡ Some rule →
    AreClearBelow (FailsDepths max lines) depth_rules at → IsFirst (FailsDepths max lines) depth_rules at rule
first-at-place max lines depths marks s at rule some clear = by (depth_at depths at) refl some
  where
    other : Bool
    other = get_or marks at false

    by : (o : Option ℕ) → depth_at depths at ≡ o → option_and_then (λ depth. depth_rule max (line_at lines at) depth other) o ≡ Some rule →
        IsFirst (FailsDepths max lines) depth_rules at rule
    by None has e = absurd (cc e)
    by (Some d) has e =
        let is = subst (λ (o : Option VerifyRule). IsRule max (line_at lines at) d other o) e
        (rule-is max (line_at lines at) d other) in
        record {
          fails = here-fails max lines depths marks s at d has rule is.1;
          among = is.0;
          nowhere_before = λ r place less among fails. clear place less r among fails;
          none_sooner = λ r less among fails. is.2 r less (fails-here max lines depths marks s at d has r fails);
        }

pub clear-more : (Fails : VerifyRule → ℕ → Type 0) (rules : List VerifyRule) (n : ℕ) → AreClearBelow Fails rules n →
    IsClear Fails rules n → AreClearBelow Fails rules (n + 1)
clear-more Fails rules n below here at less = elim (cases_lt at n) [
  | inl before ↦ below at before
  | inr past ↦
      let same : n ≡ at = omega (arith, less, past) in
      subst (λ k. IsClear Fails rules k) same here
]

pub none-past : (max : ℕ) (lines : List (Option Line)) (depths : List (Option ℕ)) (marks : List Bool) →
    IsSought max lines depths marks → AreClearBelow (FailsDepths max lines) depth_rules (length depths) →
    NoneFails (FailsDepths max lines) depth_rules
none-past max lines depths marks s clear r at among fails = elim (cases_lt at (length depths)) [
  | inl less ↦ clear at less r among fails
  | inr past ↦
      let there = reached-of max lines r at fails in
      absurd (cc (get_or_past depths at None past, (s.reached at there.0).1 there.1))
]
