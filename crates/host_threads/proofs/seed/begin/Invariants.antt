use Rattle.std.proofs.Common.{◌≡◌, ℕ, [], Some, length}
use Rattle.std.specs.List.{slice_get}
use Rattle.host_events.specs.Flows.{stand_after, Gives}
use Rattle.host_threads.specs.declared.seat.Seat.{Seat}
use Rattle.host_threads.proofs.seed.begin.Given as goal

abbrev pub invariant-loop-flow : goal.invariant-loop-flow
invariant-loop-flow g l =
    (length l.seats.items ≡ length l.yielded)
    × ((i : ℕ) (flow : g.row.L.Denot) (seat : Seat g.row.L.Denot g.row.L-Order.Denot g.row.L-End.Denot) →
    slice_get l.yielded i ≡ Some flow → slice_get l.seats.items i ≡ Some seat →
    (g.L.Flow.plan seat.flow ≡ g.L.Flow.plan flow) × (g.L.Flow.trace seat.flow ≡ [])
    × (g.L.Flow.stand seat.flow ≡ stand_after seat.next)
    × Gives (g.L.Flow.Asks (g.L.Flow.plan flow) []) (g.L.Flow.Ends (g.L.Flow.plan flow) []) seat.next)
