use Rattle.std.proofs.Common.{◌≡◌, ◌<◌, ◌++◌, ◌∷◌, [], ℕ, List, Some, length, ap, sym, subst, ◌∙◌, append_assoc, arith}
use Rattle.std.specs.List.{Contains}
use Rattle.std.specs.Vec.Iter.{into_iter_items}
use Rattle.std.proofs.lemmas.List.Elements.{All-contains, Contains-append_right}
use Rattle.host_lock.specs.declared.view.View.{View}
use Rattle.host_lock.specs.Views.{joined, thread_count}
use Rattle.host_lock.specs.Steps.{Seated}
use Rattle.host_lock.specs.Known.{LockId, SeatView, lock_of, known_lock, seat_view, Gathers}
use Rattle.host_lock.proofs.Waiting.{some_inj}
use Rattle.host_lock.proofs.Joining.{joins_keeps}
use Rattle.host_lock.proofs.Closing.{contains_here, gathers_more}
use Rattle.host_lock.proofs.seat.join_all.Goals as goal

pub join_seat-requires : goal.join_seat-requires
join_seat-requires g c =
    let k = g.K.Kept in
    let inv = c.loop-other.invariant in
    let other = c.in-Some.other in
    let w = c.other.inside.seat in
    let rest : List (SeatView g.row.K.Denot) = into_iter_items c.next.new.self in
    let steps : into_iter_items c.loop-other.other-iterator ≡ other ∷ rest = c.in-Some.ensures.steps.0 in
    let items : c.loop-other.yielded ++ other ∷ rest ≡ c.args.others.items = ap (λ xs. c.loop-other.yielded ++ xs) (sym steps) ∙ inv.2 in
    let among : Contains c.args.others.items other =
    subst (λ (xs : List (SeatView g.row.K.Denot)). Contains xs other) items (Contains-append_right c.loop-other.yielded (other ∷ rest) other (contains_here other other rest (λ _. other))) in
    let of_table = All-contains (λ (x : SeatView g.row.K.Denot). x.lock ≡ Some (lock_of c.args.table.now.table_id c.args.table.now.key)) c.args.others.items other c.requires.own.1 among in
    let idle = c.other.invariant.1 in
    let threads : 0 < thread_count c.loop-other.taker.me.0 =
    subst (λ (n : ℕ). 0 < n) (sym (ap length inv.5.threads)) (omega arith) in (
      inv.4,
      ap (λ (l : LockId g.row.K.Denot). l.table) (some_inj (lock_of w.table_id c.other.invariant.0) (lock_of c.args.table.now.table_id c.args.table.now.key)
          (ap (λ (m : Seated g.row.K.Denot). known_lock w.table_id m.0.begun) (sym idle) ∙ ap (λ (x : SeatView g.row.K.Denot). x.lock) c.other.view_is ∙ of_table)),
      ap (λ (m : Seated g.row.K.Denot). m.1) idle,
      c.requires.words,
      joins_keeps k.journal k.fixed k.Allows c.args.table.now.key c.loop-other.taker.id w.id c.loop-other.taker.me.0 w.me.0 inv.5.idle.0 inv.5.idle.1
          (ap (λ (m : Seated g.row.K.Denot). m.0.ticket) idle) (ap (λ (m : Seated g.row.K.Denot). m.0.taken) idle) threads,
    )

pub loop-other-preserved : goal.loop-other-preserved
loop-other-preserved g c =
    let inv = c.loop-other.invariant in
    let other = c.in-Some.other in
    let s = c.other.inside in
    let v = c.loop-other.taker.me.0 in
    let done = c.args.first ∷ c.loop-other.yielded in
    let steps : into_iter_items c.loop-other.other-iterator ≡ other ∷ into_iter_items c.next.new.self = c.in-Some.ensures.steps.0 in
    let value : SeatView g.row.K.Denot = seat_view s.seat.table_id s.thread s.seat.me.0 in
    let more = gathers_more c.other.invariant.0 done v value s.seat.me.0.handed inv.5 in
    let with_seat = subst (λ (w : View g.row.K.Denot). Gathers (done ++ value ∷ []) (joined v w)) (sym (ap (λ (m : Seated g.row.K.Denot). m.0) c.other.invariant.1)) more in
    let with_other = subst (λ (x : SeatView g.row.K.Denot). Gathers (done ++ x ∷ []) (joined v s.seat.me.0)) c.other.view_is with_seat in (
      tt,
      tt,
      append_assoc c.loop-other.yielded (other ∷ []) _ ∙ ap (λ xs. c.loop-other.yielded ++ xs) (sym steps) ∙ inv.2,
      (let was = inv.3 in
          let gone = c.in-Some.ensures.steps.1 in
          let short = ap length steps in
          omega arith),
      c.join_seat.ensures.0 ∙ inv.4,
      subst (Gathers (done ++ other ∷ [])) (sym (ap (λ (m : Seated g.row.K.Denot). m.0) c.join_seat.ensures.2)) with_other,
    )
