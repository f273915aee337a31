use Rattle.std.proofs.Common.{◌≡◌, ℕ}
use Rattle.il_verifier.specs.TypeRules.{AreKeptBelow}
use Rattle.il_verifier.specs.Worklist.{stacks_by, typing_of, ArePlaced}
use Rattle.il_verifier.proofs.verdict.type_fault.Given as goal

-- each rule is kept at the places so far
abbrev pub invariant-loop-at : goal.invariant-loop-at
invariant-loop-at g l = record {
  known : l.known ≡ l.parents;
  kept : (max : ℕ) → ArePlaced max l.lines (stacks_by l.typing.pool l.typing.stacks.items) →
      AreKeptBelow (g.P.Parents.family l.parents) max l.lines (typing_of (stacks_by l.typing.pool l.typing.stacks.items)) l.at;
}
