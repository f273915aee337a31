use Rattle.std.proofs.Common.{◌≡◌, ◌<◌, length}
use Rattle.il_verifier.proofs.known.seek_wants.Given as goal

-- the operand that is next is on a stack
abbrev pub invariant-loop-n : goal.invariant-loop-n
invariant-loop-n g l = record {
  within : l.low < length l.pool;
  same : l.known ≡ l.fn.known;
}
