use Rattle.std.proofs.Common.{◌≡◌, Some, length}
use Rattle.host_lock.proofs.tests.hundred.Given as goal

abbrev pub invariant-loop-i : goal.invariant-loop-i
invariant-loop-i g l =
    (length l.numbers ≡ 100) × (l.seat.lock ≡ Some l.lock) × (l.seat.thread ≡ l.fn.seat.thread) × (length l.seat.mine ≡ l.i)
