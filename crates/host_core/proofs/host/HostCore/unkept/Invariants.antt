use Rattle.std.proofs.Common.{◌+◌, ◌≤◌}
use Rattle.host_core.proofs.Collected.{IsCollectedBelow}
use Rattle.host_core.proofs.host.HostCore.unkept.Given as goal

abbrev pub invariant-loop-context : goal.invariant-loop-context
invariant-loop-context g l = record {
  collected : IsCollectedBelow l.self.journal l.context l.freed.list;
  room : l.fn.room.spare ≤ l.freed.spare + l.context;
}
