use Rattle.std.proofs.Common.{◌≡◌, ℕ, length, slice_index_or, take, false}
use Rattle.il_verifier.specs.Lines.{is_begun}
use Rattle.il_verifier.proofs.begins.marks_at.Given as goal

-- the marks stand at the places so far
abbrev pub invariant-loop-place : goal.invariant-loop-place
invariant-loop-place l = record {
  sized : length l.marks.items ≡ l.len;
  marked : (at : ℕ) → slice_index_or l.marks.items at false ≡ is_begun (take l.place-index l.places) at;
}
