use Rattle.std.proofs.Common.{◌≡◌, ◌<◌, ◌+◌, ◌-◌, ◌^◌, ℕ, Some, length}
use Rattle.std.specs.List.{slice_get}
use Rattle.host_events.specs.Flows.{stand_after, Gives}
use Rattle.host_events.specs.Steps.{own_steps}
use Rattle.host_threads.specs.declared.seat.Seat.{Seat}
use Rattle.host_threads.specs.Seats.{GoesOn, IfGoesOn, asking, given}
use Rattle.host_threads.proofs.Turns.{HasTaken}
use Rattle.host_threads.proofs.seed.run_by_seed.Given as goal

abbrev pub invariant-loop-digit : goal.invariant-loop-digit
invariant-loop-digit g l = record {
  fixed : g.K.Kept.fixed l.state ≡ g.K.Kept.fixed l.fn.state;
  allowed : g.K.Kept.Allows (g.K.Kept.fixed l.state) (g.K.Kept.journal l.state);
  count : length l.seats.items ≡ length l.fn.flows.items;
  plan : (i : ℕ) (flow : g.row.L.Denot) (seat : Seat g.row.L.Denot g.row.K-Order.Denot g.row.L-End.Denot) →
      slice_get l.fn.flows.items i ≡ Some flow → slice_get l.seats.items i ≡ Some seat →
      g.L.Flow.plan seat.flow ≡ g.L.Flow.plan flow;
  seated : (i : ℕ) (seat : Seat g.row.L.Denot g.row.K-Order.Denot g.row.L-End.Denot) → slice_get l.seats.items i ≡ Some seat →
      (g.L.Flow.stand seat.flow ≡ stand_after seat.next)
      × Gives (g.L.Flow.Asks (g.L.Flow.plan seat.flow) (g.L.Flow.trace seat.flow)) (g.L.Flow.Ends (g.L.Flow.plan seat.flow) (g.L.Flow.trace seat.flow)) seat.next
      × IfGoesOn seat.next (own_steps g.K.Kept.code_of (g.K.Kept.journal l.state) (i + 1) ≡ g.L.Flow.trace seat.flow);
  waiting : l.waiting.items ≡ asking (given l.seats.items);
  within : l.turn < length l.schedule;
  taken : ((i : ℕ) (seat : Seat g.row.L.Denot g.row.K-Order.Denot g.row.L-End.Denot) → slice_get l.seats.items i ≡ Some seat → GoesOn seat.next) →
      HasTaken (given l.seats.items) (g.K.Kept.journal l.state) l.schedule l.turn;
}

abbrev pub decreases-loop-digit : goal.decreases-loop-digit
decreases-loop-digit g l = 2 ^ 32 - length (g.K.Kept.journal l.state)
