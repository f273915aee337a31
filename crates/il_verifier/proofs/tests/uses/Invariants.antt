use Rattle.std.proofs.Common.{◌≡◌, length}
use Rattle.il_verifier.proofs.tests.uses.Given as goal

abbrev pub invariant-loop-byte : goal.invariant-loop-byte
invariant-loop-byte l = length l.uses.items ≡ l.byte-index
