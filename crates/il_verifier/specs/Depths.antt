-- The depths of the stack, by rounds (own; after ECMA-335 III.1.7.4, III.1.8.1.1).
use Rattle.std.specs.Prelude.{◌≡◌, ℕ, zero, suc, ◌==◌, ◌||◌, ◌&&◌, nat_lt, Bool, false, not, if◌then◌else◌, List, length}
use Rattle.std.specs.Prelude.{Option, Some, None, is_some}
use Rattle.std.specs.List.{list_any}
use Rattle.std.specs.Option.{option_or}
use Rattle.il_verifier.specs.declared.line.Line.{Line}
use Rattle.il_verifier.specs.Effects.{takes, is_return, depth_after}
use Rattle.il_verifier.specs.Lines.{line_at}

-- fewer operands than needed
abbrev pub lacks : Line → ℕ → Bool
lacks line depth =
    not (is_return line.effect.operands) && nat_lt depth (takes line.effect.operands)

-- more values after the instruction than a body may have
abbrev pub overflows : ℕ → Line → ℕ → Bool
overflows max line depth = nat_lt max (depth_after line.effect depth)

-- an instruction that hands on nothing
abbrev pub is_stuck : ℕ → Line → ℕ → Bool
is_stuck max line depth =
    lacks line depth || (overflows max line depth || (not line.is_there || not line.is_proper))

abbrev pub is_place : ℕ → Option ℕ → Bool
is_place to (Some at) = at == to
is_place to None = false

-- control may pass to a place
abbrev pub goes_to : Line → ℕ → Bool
goes_to line to = list_any (is_place to) line.goes

-- the depth that an instruction brings to a place, where it hands on to it
abbrev pub brings : ℕ → Line → ℕ → ℕ → Option ℕ
brings max line depth to =
    if not (is_stuck max line depth) && goes_to line to then Some (depth_after line.effect depth) else None

-- the same for the instruction at a place, where one stands there that is given a depth
abbrev pub brought_by : ℕ → Option Line → Option ℕ → ℕ → Option ℕ
brought_by max (Some line) (Some depth) to = brings max line depth to
brought_by max _ _ to = None

-- what the least of so many places gives of those that give something
abbrev pub least : {A : Type 0} → (ℕ → Option A) → ℕ → Option A
least gives zero = None
least gives (suc n) = option_or (least gives n) (gives n)

-- the depth that the least place brings to another, of those that are given one
abbrev pub brought : ℕ → List (Option Line) → (ℕ → Option ℕ) → ℕ → Option ℕ
brought max lines given to =
    least (λ from. brought_by max (line_at lines from) (given from) to) (length lines)

-- the depths of the places that are reached in a round, and of those that are reached by then
pub record Round : Type 0 where
  pub fresh : ℕ → Option ℕ
  pub seen : ℕ → Option ℕ

abbrev pub start : ℕ → Option ℕ
start at = if at == 0 then Some 0 else None

-- a place is fresh where it was not seen before and a place of the last round hands on to it; its depth
-- is the one that the least such place brings
abbrev pub fresh_after : ℕ → List (Option Line) → Round → ℕ → Option ℕ
fresh_after max lines round to =
    if is_some (round.seen to) then None else brought max lines round.fresh to

abbrev pub next_round : ℕ → List (Option Line) → Round → Round
next_round max lines round = record {
  fresh = fresh_after max lines round;
  seen = λ at. option_or (round.seen at) (fresh_after max lines round at);
}

unfoldable pub round : ℕ → List (Option Line) → ℕ → Round
round max lines zero = record { fresh = start; seen = start }
round max lines (suc k) = next_round max lines (round max lines k)

-- control can come to a place, with this depth
abbrev pub IsReached : ℕ → List (Option Line) → ℕ → ℕ → Type 0
IsReached max lines at depth = (k : ℕ) × ((round max lines k).fresh at ≡ Some depth)
