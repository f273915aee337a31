use Rattle.std.proofs.Common.{◌≡◌, ap, sym, subst, ◌∙◌, ℕ}
use Rattle.host_lock.specs.Views.{seated, with_ticket}
use Rattle.host_lock.specs.Steps.{Seated}
use Rattle.host_lock.specs.Known.{LockId, SeatView, lock_of, seat_view, first_mine, IsPossible, HasHappened}
use Rattle.host_events.specs.Steps.{entry_of}
use Rattle.host_lock.proofs.Waiting.{some_inj}
use Rattle.host_lock.proofs.Events.{turn_of, possible_in, stepped_in, may_pass, stays_seated, happened}
use Rattle.host_lock.proofs.lock.Lock.event.Goals as goal

pub wait_turn-requires-clause-waits : goal.wait_turn-requires-clause-waits
wait_turn-requires-clause-waits g c =
    record {
      begun = _;
      thread = _;
      seen = _;
      mine = _;
      handed = _;
      is = c.draw-ticket.ensures.draws ∙ ap (λ (m : Seated g.row.K.Denot). (with_ticket c.draw-ticket.result m.0, m.1)) c.seat.invariant.1;
    }

pub step-answer-requires : goal.step-answer-requires
step-answer-requires g c =
    let k = g.K.Kept in
    let s = c.seat.inside in
    let b = c.seat.invariant.0 in
    let m = s.seat.me.0 in
    let drawn = c.draw-ticket.ensures.draws ∙ ap (λ (x : Seated g.row.K.Denot). (with_ticket c.draw-ticket.result x.0, x.1)) c.seat.invariant.1 in
    let turn = turn_of k.journal k.fixed k.Allows b s.thread c.draw-ticket.result m.seen (first_mine m.threads) m.handed _ _ _ c.take_out-state.result
    drawn c.wait_turn.ensures.takes c.take_out-state.ensures.takes in
    let possible = possible_in k.journal k.fixed k.Allows s.seat.table_id turn in
    let state = c.take_out-state.result in
    let own_view : SeatView g.row.K.Denot = seat_view s.seat.table_id s.thread (seated b s.thread m.seen (first_mine m.threads) m.handed) in
    let seat_is : own_view ≡ c.args.seat.now = ap (λ (x : Seated g.row.K.Denot). seat_view s.seat.table_id s.thread x.0) (sym c.seat.invariant.1) ∙ c.seat.view_is in
    let lock_is : lock_of s.seat.table_id b ≡ c.args.self.now = some_inj (lock_of s.seat.table_id b) c.args.self.now (ap (λ (v : SeatView g.row.K.Denot). v.lock) seat_is ∙ c.requires.own) in
    let may = c.requires.may (k.journal state) (subst (λ (p : LockId g.row.K.Denot × SeatView g.row.K.Denot). IsPossible k.fixed k.Allows p.0 p.1 (k.journal state)) (λ i. (lock_is i, seat_is i)) possible) in
    let part : k.fixed c.args.self.now.begun ≡ k.fixed state = ap (λ (l : LockId g.row.K.Denot). k.fixed l.begun) (sym lock_is) ∙ sym turn.fixed_part in
    subst (λ (p : k.Fixed × ℕ). k.Accepts p.0 (k.journal state) p.1 c.args.order) (λ i. (part i, sym (ap (λ (v : SeatView g.row.K.Denot). v.thread) seat_is) i)) may

pub pass_on-requires-clause-may : goal.pass_on-requires-clause-may
pass_on-requires-clause-may g c =
    let k = g.K.Kept in
    let s = c.seat.inside in
    let b = c.seat.invariant.0 in
    let m = s.seat.me.0 in
    let drawn = c.draw-ticket.ensures.draws ∙ ap (λ (x : Seated g.row.K.Denot). (with_ticket c.draw-ticket.result x.0, x.1)) c.seat.invariant.1 in
    let turn = turn_of k.journal k.fixed k.Allows b s.thread c.draw-ticket.result m.seen (first_mine m.threads) m.handed _ _ _ c.take_out-state.result
    drawn c.wait_turn.ensures.takes c.take_out-state.ensures.takes in
    let made = c.step-answer.ensures in
    let did = stepped_in k.journal k.fixed k.Allows c.step-answer.new.self (g.K.Order.HasEvent.event c.args.order) (g.K.Answer.HasReply.reply c.step-answer.result) _ _
    turn c.take_out-state.ensures.takes c.put_in.ensures.puts made.entry made.fixed made.allowed in
    may_pass k.journal k.fixed k.Allows did

pub invariant_of-seat : goal.invariant_of-seat
invariant_of-seat g c =
    let k = g.K.Kept in
    let s = c.seat.inside in
    let b = c.seat.invariant.0 in
    let m = s.seat.me.0 in
    let drawn = c.draw-ticket.ensures.draws ∙ ap (λ (x : Seated g.row.K.Denot). (with_ticket c.draw-ticket.result x.0, x.1)) c.seat.invariant.1 in
    let turn = turn_of k.journal k.fixed k.Allows b s.thread c.draw-ticket.result m.seen (first_mine m.threads) m.handed _ _ _ c.take_out-state.result
    drawn c.wait_turn.ensures.takes c.take_out-state.ensures.takes in
    let made = c.step-answer.ensures in
    let did = stepped_in k.journal k.fixed k.Allows c.step-answer.new.self (g.K.Order.HasEvent.event c.args.order) (g.K.Answer.HasReply.reply c.step-answer.result) _ _
    turn c.take_out-state.ensures.takes c.put_in.ensures.puts made.entry made.fixed made.allowed in
    stays_seated k.journal k.fixed k.Allows _ did c.pass_on.ensures.passes

pub returns : goal.returns
returns g c =
    let k = g.K.Kept in
    let s = c.seat.inside in
    let b = c.seat.invariant.0 in
    let m = s.seat.me.0 in
    let drawn = c.draw-ticket.ensures.draws ∙ ap (λ (x : Seated g.row.K.Denot). (with_ticket c.draw-ticket.result x.0, x.1)) c.seat.invariant.1 in
    let turn = turn_of k.journal k.fixed k.Allows b s.thread c.draw-ticket.result m.seen (first_mine m.threads) m.handed _ _ _ c.take_out-state.result
    drawn c.wait_turn.ensures.takes c.take_out-state.ensures.takes in
    let made = c.step-answer.ensures in
    let did = stepped_in k.journal k.fixed k.Allows c.step-answer.new.self (g.K.Order.HasEvent.event c.args.order) (g.K.Answer.HasReply.reply c.step-answer.result) _ _
    turn c.take_out-state.ensures.takes c.put_in.ensures.puts made.entry made.fixed made.allowed in
    let last = c.pass_on.new.seat in
    let history = k.journal c.take_out-state.result in
    let event = g.K.Order.HasEvent.event c.args.order in
    let reply = g.K.Answer.HasReply.reply c.step-answer.result in
    let done = happened k.journal k.fixed k.Allows s.seat.table_id last.me did c.pass_on.ensures.passes in
    let table : last.table_id ≡ s.seat.table_id =
    c.pass_on.ensures.own.0 ∙ c.put_in.ensures.own.0 ∙ c.take_out-state.ensures.own.0 ∙ c.wait_turn.ensures.own.0 ∙ c.draw-ticket.ensures.own.0 in
    let own_view : SeatView g.row.K.Denot = seat_view s.seat.table_id s.thread (seated b s.thread m.seen (first_mine m.threads) m.handed) in
    let seat_is : own_view ≡ c.args.seat.now = ap (λ (x : Seated g.row.K.Denot). seat_view s.seat.table_id s.thread x.0) (sym c.seat.invariant.1) ∙ c.seat.view_is in
    let lock_is : lock_of s.seat.table_id b ≡ c.args.self.now = some_inj (lock_of s.seat.table_id b) c.args.self.now (ap (λ (v : SeatView g.row.K.Denot). v.lock) seat_is ∙ c.requires.own) in
    let after = subst (λ t. HasHappened k.fixed k.Allows (lock_of s.seat.table_id b) own_view history event reply (seat_view t s.thread last.me.0)) (sym table) done in (
      history,
      subst (λ (p : LockId g.row.K.Denot × SeatView g.row.K.Denot). HasHappened k.fixed k.Allows p.0 p.1 history event reply (seat_view last.table_id s.thread last.me.0)) (λ i. (lock_is i, seat_is i)) after,
      made.code ∙ ap (λ (v : SeatView g.row.K.Denot). k.code_of history (entry_of v.thread event reply)) seat_is,
    )
