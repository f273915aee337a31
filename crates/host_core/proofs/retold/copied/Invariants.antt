use Rattle.std.proofs.Common.{◌≡◌, ◌+◌, take}
use Rattle.host_core.proofs.retold.copied.Given as goal

abbrev pub invariant-loop-item : goal.invariant-loop-item
invariant-loop-item g l =
    (l.copy.list ≡ take l.item-index l.items) × (l.copy.spare + l.item-index ≡ l.fn.room.spare)
