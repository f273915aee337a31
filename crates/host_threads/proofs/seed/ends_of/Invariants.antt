use Rattle.std.proofs.Common.{◌≡◌, map}
use Rattle.host_events.specs.declared.flow.Next.TheVariants.{End}
use Rattle.host_threads.specs.Seats.{given}
use Rattle.host_threads.proofs.seed.ends_of.Given as goal

abbrev pub invariant-loop-seat : goal.invariant-loop-seat
invariant-loop-seat g l = given l.yielded ≡ map End l.ends.items
