use Rattle.std.proofs.Common.{◌≡◌, ℕ, ◌+◌, ◌*◌, ◌-◌, ◌^◌, ◌≤◌, List, ◌++◌, map, take, drop, length, true}
use Rattle.signatures.specs.Types.{are_types}
use Rattle.signatures.proofs.made_of.first_len.Given as goal

-- what is due completes the first type, and what is left is that and the other types
abbrev pub invariant-loop-due : goal.invariant-loop-due
invariant-loop-due g l =
    (l.at ≤ length l.parts)
    × (l.due ≤ 1 + 2 ^ 32 * l.at)
    × ((more : List ℕ) → are_types l.due more ≡ true → are_types 1 (map g.P.Part.made_of (take l.at l.parts) ++ more) ≡ true)
    × (are_types (l.due + (l.count - 1)) (map g.P.Part.made_of (drop l.at l.parts)) ≡ true)

abbrev pub decreases-loop-due : goal.decreases-loop-due
decreases-loop-due g l = length l.parts - l.at
