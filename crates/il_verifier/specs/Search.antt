-- How the depths of a body are sought: the words in which the search states its steps (own).
use Rattle.std.specs.Prelude.{◌≡◌, ◌⊎◌, ◌↔◌, ℕ, ◌<◌, ◌≤◌, nat_le, Bool, IsTrue, ◌&&◌, if◌then◌else◌, ◌+◌, List, [], ◌∷◌, length, slice_index_or, Contains}
use Rattle.std.specs.Prelude.{Option, Some, None, is_some, is_none, zero, suc, true, false, not, ◌==◌, ◌||◌}
use Rattle.host_events.specs.declared.outcome.VerifyRule.{VerifyRule}
use Rattle.host_events.specs.declared.outcome.VerifyRule.TheVariants.{Depth, Underflow, MaxStack, Index, Target, Member}
use Rattle.std.specs.List.{list_any}
use Rattle.il_verifier.specs.declared.line.Line.{Line}
use Rattle.il_verifier.specs.Effects.{depth_after}
use Rattle.il_verifier.specs.Lines.{line_at}
use Rattle.il_verifier.specs.Faults.{FailsAt, IsFirst, NoneFails}
use Rattle.il_verifier.specs.Depths.{lacks, overflows, is_stuck, goes_to, is_place, brought_by, round, IsReached}

-- the depth at a place in a list of depths by places
abbrev pub depth_at : List (Option ℕ) → ℕ → Option ℕ
depth_at depths at = slice_index_or depths at None

-- the depth that an instruction hands on, where it does
abbrev pub handed : ℕ → Line → ℕ → Option ℕ
handed max line depth = if is_stuck max line depth then None else Some (depth_after line.effect depth)

-- control passes to places of the body alone
abbrev pub LeadsInside : List (Option Line) → Type 0
LeadsInside lines =
    (at to : ℕ) (line : Line) → line_at lines at ≡ Some line → IsTrue (goes_to line to) → to < length lines

-- the depths are those of the places that are reached
abbrev pub AreDepths : ℕ → List (Option Line) → List (Option ℕ) → Type 0
AreDepths max lines depths =
    (at depth : ℕ) → (depth_at depths at ≡ Some depth) ↔ IsReached max lines at depth

-- no depth is greater than the greatest one
abbrev pub AreLow : ℕ → List (Option ℕ) → Type 0
AreLow max depths = (at depth : ℕ) → depth_at depths at ≡ Some depth → depth ≤ max

-- a place that brings a depth, and the depth, by the place to which it is brought
abbrev pub found_at : List (Option (ℕ × ℕ)) → ℕ → Option (ℕ × ℕ)
found_at found at = slice_index_or found at None

-- of two places that bring a depth the lesser one
abbrev pub lesser : Option (ℕ × ℕ) → ℕ → ℕ → Option (ℕ × ℕ)
lesser None from depth = Some (from, depth)
lesser (Some best) from depth = if nat_le best.0 from then Some best else Some (from, depth)

-- the same where the second may bring nothing
abbrev pub better : Option (ℕ × ℕ) → ℕ → Option ℕ → Option (ℕ × ℕ)
better best from None = best
better best from (Some depth) = lesser best from depth

-- the least of some places that brings a depth, and what it brings
abbrev pub IsBest : (ℕ → Option ℕ) → List ℕ → Option (ℕ × ℕ) → Type 0
IsBest brings froms None = (from : ℕ) → Contains froms from → brings from ≡ None
IsBest brings froms (Some best) =
    Contains froms best.0 × (brings best.0 ≡ Some best.1)
    × ((from : ℕ) → Contains froms from → IsTrue (is_some (brings from)) → best.0 ≤ from)

-- the depth that a place brings to another, by its own depth in the list
abbrev pub brings_by : ℕ → List (Option Line) → List (Option ℕ) → ℕ → ℕ → Option ℕ
brings_by max lines depths to from = brought_by max (line_at lines from) (depth_at depths from) to

-- what was found for a place is what the least of the newest places brings to it, where it has no depth
abbrev pub AreBest : ℕ → List (Option Line) → List (Option ℕ) → List ℕ → List (Option (ℕ × ℕ)) → Type 0
AreBest max lines depths newest found =
    (to : ℕ) → depth_at depths to ≡ None → IsBest (brings_by max lines depths to) newest (found_at found to)

-- the places are those without a depth for which something was found
abbrev pub AreFound : List (Option ℕ) → List (Option (ℕ × ℕ)) → List ℕ → Type 0
AreFound depths found next =
    (to : ℕ) → Contains next to ↔ ((depth_at depths to ≡ None) × IsTrue (is_some (found_at found to)))

-- nothing was found yet for a place without a depth
abbrev pub AreClear : List (Option ℕ) → List (Option (ℕ × ℕ)) → Type 0
AreClear depths found = (to : ℕ) → depth_at depths to ≡ None → found_at found to ≡ None

-- the depths of the places that are seen by a round, and the places that are fresh in it
pub record HasSought (max : ℕ) (lines : List (Option Line)) (k : ℕ) (depths : List (Option ℕ)) (newest : List ℕ) : Type 0 where
  pub seen : (at : ℕ) → depth_at depths at ≡ (round max lines k).seen at
  pub fresh : (at : ℕ) → Contains newest at ↔ IsTrue (is_some ((round max lines k).fresh at))

-- for each of the places to which control passes, where it has no depth, it is noted that another brings a
-- depth to it
abbrev pub AreNoted : List (Option ℕ) → (ℕ → Bool) → ℕ → ℕ → List (Option (ℕ × ℕ)) → List (Option (ℕ × ℕ)) → Type 0
AreNoted depths goes from depth old new =
    (to : ℕ) → found_at new to
    ≡ (if goes to && is_none (depth_at depths to) then lesser (found_at old to) from depth else found_at old to)

-- and those of them for which nothing was found before are listed
abbrev pub AreListed : List (Option ℕ) → (ℕ → Bool) → List (Option (ℕ × ℕ)) → List ℕ → List ℕ → Type 0
AreListed depths goes found old new =
    (to : ℕ) → Contains new to
    ↔ (Contains old to ⊎ IsTrue (goes to && (is_none (depth_at depths to) && is_none (found_at found to))))

-- the same by the depth that is brought to each place, where one is
abbrev pub AreBettered : List (Option ℕ) → ℕ → (ℕ → Option ℕ) → List (Option (ℕ × ℕ)) → List (Option (ℕ × ℕ)) → Type 0
AreBettered depths from brings old new =
    (to : ℕ) → found_at new to
    ≡ (if is_none (depth_at depths to) then better (found_at old to) from (brings to) else found_at old to)

-- a depth that is brought is another than that of a place
abbrev pub differs : Option ℕ → Option ℕ → Bool
differs None own = false
differs (Some depth) None = true
differs (Some depth) (Some own) = not (depth == own)

-- one of so many numbers passes a test
abbrev pub any_below : (ℕ → Bool) → ℕ → Bool
any_below test zero = false
any_below test (suc n) = any_below test n || test n

-- the marks stand at the places to which another depth is brought by places before one
abbrev pub AreMarked : ℕ → List (Option Line) → List (Option ℕ) → ℕ → List Bool → Type 0
AreMarked max lines depths end marks =
    (to : ℕ) → slice_index_or marks to false
    ≡ any_below (λ from. differs (brings_by max lines depths to from) (depth_at depths to)) end

-- a rule fails at a place of a depth, to which another depth is brought or not
abbrev pub FailsHere : ℕ → Option Line → ℕ → Bool → VerifyRule → Type 0
FailsHere max line depth other Depth = IsTrue other
FailsHere max line depth other rule = FailsAt max line depth rule

-- the first rule on depths that fails there
abbrev pub depth_rule : ℕ → Option Line → ℕ → Bool → Option VerifyRule
depth_rule max line depth true = Some Depth
depth_rule max None depth false = Some Target
depth_rule max (Some line) depth false =
    if lacks line depth then Some Underflow else
    (if overflows max line depth then Some MaxStack else
    (if not line.is_there then Some Index else
    (if list_any is_none line.goes then Some Target else
    (if not line.is_proper then Some Member else None))))

-- none of these rules fails at a place
abbrev pub IsClear : (VerifyRule → ℕ → Type 0) → List VerifyRule → ℕ → Type 0
IsClear Fails rules at = (rule : VerifyRule) → Contains rules rule → Fails rule at → ⊥

-- none of them fails at a place before one
abbrev pub AreClearBelow : (VerifyRule → ℕ → Type 0) → List VerifyRule → ℕ → Type 0
AreClearBelow Fails rules end = (at : ℕ) → at < end → IsClear Fails rules at

-- the first failing place with its rule, or there is none
abbrev pub IsFirstOrNone : (VerifyRule → ℕ → Type 0) → List VerifyRule → Option (ℕ × VerifyRule) → Type 0
IsFirstOrNone Fails rules None = NoneFails Fails rules
IsFirstOrNone Fails rules (Some fault) = IsFirst Fails rules fault.0 fault.1

-- how many places have no depth
abbrev pub missing : List (Option ℕ) → ℕ
missing [] = 0
missing (depth ∷ depths) = (if is_none depth then 1 else 0) + missing depths

-- the places to which a list of places leads
abbrev pub is_among : List (Option ℕ) → ℕ → Bool
is_among goes to = list_any (is_place to) goes
