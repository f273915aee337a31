use Rattle.std.proofs.Common.{◌+◌, ◌<◌, ◌^◌, ◌∷◌, [], ◌++◌, ℕ, List, length, ap, sym, subst, ◌∙◌, arith}
use Rattle.host_lock.specs.Tallies.{Tallied, MayTick}
use Rattle.host_lock.proofs.Tallies.{tallied_room}
use Rattle.host_lock.proofs.tests.tallies.TallyKept.step.Goals as goal

pub overflow_add-number : goal.overflow_add-number
overflow_add-number c =
    let s = c.self.inside in
    let may = subst (λ (t : Tallied). MayTick t.shares t.entries c.args.thread) (sym c.self.view_is) c.requires in
    let room = tallied_room (s.first, s.second) s.entries.items c.args.thread c.self.invariant.0 may in
    omega (arith, room.0, room.1, s.entries.ok)

pub unwrap-requires : goal.unwrap-requires
unwrap-requires c =
    let s = c.self.inside in
    let may = subst (λ (t : Tallied). MayTick t.shares t.entries c.args.thread) (sym c.self.view_is) c.requires in
    let room = tallied_room (s.first, s.second) s.entries.items c.args.thread c.self.invariant.0 may in
    c.push.ensures.succeeds (omega (arith, room.0, c.self.invariant.1, s.entries.ok))
