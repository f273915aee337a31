use Rattle.std.proofs.Common.{◌≡◌}
use Rattle.std.specs.List.{filter, range_with_len}
use Rattle.host_threads.specs.Seats.{asks_at, given}
use Rattle.host_threads.proofs.seed.waiting_threads.Given as goal

abbrev pub invariant-loop-before : goal.invariant-loop-before
invariant-loop-before g l = l.threads.items ≡ filter (asks_at (given l.seats)) (range_with_len 1 l.before)
