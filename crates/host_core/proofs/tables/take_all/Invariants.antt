use Rattle.std.proofs.Common.{◌≡◌, take}
use Rattle.host_core.specs.After.{with_freed}
use Rattle.host_core.proofs.tables.take_all.Given as goal

abbrev pub invariant-loop-number : goal.invariant-loop-number
invariant-loop-number l = l.contexts ≡ with_freed l.fn.contexts (take l.number-index l.numbers)
