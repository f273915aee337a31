use Rattle.std.proofs.Common.{◌≡◌, ◌++◌, ◌∷◌, length}
use Rattle.std.specs.Vec.Iter.{into_iter_items, into_iter_len}
use Rattle.host_lock.specs.Known.{Gathers}
use Rattle.host_lock.proofs.seat.join_all.Given as goal

abbrev pub invariant-loop-other : goal.invariant-loop-other
invariant-loop-other g l =
    (goal.iterator-loop-other g).can_next l.other-iterator × (goal.iterator-loop-other g).is_finite l.other-iterator
    × (l.yielded ++ into_iter_items l.other-iterator ≡ l.fn.others.items)
    × (into_iter_len l.other-iterator ≡ length (into_iter_items l.other-iterator))
    × (l.taker.table_id ≡ l.table.table_id)
    × Gathers (l.fn.first ∷ l.yielded) l.taker.me.0
