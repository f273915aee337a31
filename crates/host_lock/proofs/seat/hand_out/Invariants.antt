use Rattle.std.proofs.Common.{◌≡◌, ◌+◌, ◌≤◌, ℕ, [], Some, map}
use Rattle.std.specs.List.{range_with_len}
use Rattle.host_lock.specs.Views.{seated}
use Rattle.host_lock.specs.Known.{new_seat, lock_of}
use Rattle.host_lock.proofs.seat.hand_out.Given as goal

abbrev pub invariant-loop-thread : goal.invariant-loop-thread
invariant-loop-thread g l =
    (n : ℕ) × (l.thread ≡ n + 1) × (l.thread ≤ l.threads) × (l.first.table_id ≡ l.table.table_id)
    × (l.first.me ≡ (seated l.table.key 1 [] [] (Some (n + 1)), []))
    × (l.seats.items ≡ map (new_seat (lock_of l.table.table_id l.table.key)) (range_with_len 2 n))
