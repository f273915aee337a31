use Rattle.std.proofs.Common.{◌≡◌, ℕ, ◌≤◌, length}
use Rattle.signatures.specs.Grammar.{after_modifiers, modifiers_at}
use Rattle.signatures.proofs.number.read_modifiers.Given as goal

-- with some count of steps that is enough, what is left leads where all bytes do
abbrev pub invariant-loop-modified : goal.invariant-loop-modified
invariant-loop-modified l =
    (length l.rest ≤ length l.bytes)
    × ((steps : ℕ) × (length l.rest ≤ steps) × (after_modifiers steps l.rest ≡ modifiers_at l.bytes))

abbrev pub decreases-loop-modified : goal.decreases-loop-modified
decreases-loop-modified l = length l.rest
