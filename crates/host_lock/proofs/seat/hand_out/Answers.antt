use Rattle.std.proofs.Common.{◌≡◌, ◌+◌, ◌<◌, ℕ, suc, [], ◌∷◌, ◌++◌, None, map, ap, sym, subst, ◌∙◌, arith}
use Rattle.std.specs.List.{range_with_len, insert}
use Rattle.std.proofs.lemmas.List.FromFn.{map-range_with_len_more}
use Rattle.atomic_table.specs.Seated.{TableId}
use Rattle.atomic_table.specs.Table.{Splits}
use Rattle.host_lock.specs.declared.view.View.{View}
use Rattle.host_lock.specs.Rule.{IsOneHistory}
use Rattle.host_lock.specs.Views.{seated, with_one_more, next_seat}
use Rattle.host_lock.specs.Known.{new_seat, seat_view, lock_of, first_mine}
use Rattle.host_lock.specs.Steps.{Seated}
use Rattle.host_lock.proofs.Splitting.{splits_keeps}
use Rattle.host_lock.proofs.seat.hand_out.Goals as goal

pub split_seat-seat-requires : goal.split_seat-seat-requires
split_seat-seat-requires g c =
    let i = c.loop-thread.invariant in
    let k = g.K.Kept in
    let table = c.args.table.now in
    let below = c.loop-thread-test.true in
    let n : ℕ = i.0 in
    let more : n + 1 < table.key.threads = omega (arith, i.1, c.requires.threads.0) in (
      i.3,
      c.requires.own.1,
      subst (λ (v : View g.row.K.Denot). Splits (IsOneHistory k.journal k.fixed k.Allows table.key) c.loop-thread.first.id v (with_one_more v) (next_seat v))
          (sym (ap (λ (m : Seated g.row.K.Denot). m.0) i.4))
          (splits_keeps k.journal k.fixed k.Allows table.key table.key c.loop-thread.first.id 1 (n + 1) [] [] more),
    )

pub seat_of-requires : goal.seat_of-requires
seat_of-requires g c =
    let i = c.loop-thread.invariant in
    let n : ℕ = i.0 in
    let table = c.args.table.now in
    let thread : n + 1 + 1 ≡ c.loop-thread.thread + 1 = omega (arith, i.1) in
    let is = c.split_seat-seat.ensures.4 ∙ ap (λ (m : Seated g.row.K.Denot). (next_seat m.0, [])) i.4
    ∙ ap (λ t. (seated table.key t [] [] None, [])) thread in (
      table.key,
      is ∙ ap (λ (m : Seated g.row.K.Denot). (seated table.key (c.loop-thread.thread + 1) m.0.seen (first_mine m.0.threads) m.0.handed, [])) (sym is),
    )

pub seat_of-requires-2 : goal.seat_of-requires-2
seat_of-requires-2 g c =
    let table = c.args.table.now in
    let is = c.loop-thread.invariant.4 in
    (table.key, is ∙ ap (λ (m : Seated g.row.K.Denot). (seated table.key 1 m.0.seen (first_mine m.0.threads) m.0.handed, [])) (sym is))

pub loop-thread-preserved : goal.loop-thread-preserved
loop-thread-preserved g c =
    let i = c.loop-thread.invariant in
    let n : ℕ = i.0 in
    let split = c.split_seat-seat.ensures in
    let table = c.args.table.now in
    let lock = lock_of table.table_id table.key in
    let below = c.loop-thread-test.true in
    let view : View g.row.K.Denot = seated table.key (n + 1 + 1) [] [] None in
    let is = ap (λ (m : Seated g.row.K.Denot). m.0) (split.4 ∙ ap (λ (m : Seated g.row.K.Denot). (next_seat m.0, [])) i.4) in
    let made : c.seat_of.result ≡ new_seat lock (c.loop-thread.thread + 1) =
    c.seat_of.ensures ∙ ap (λ (t : TableId). seat_view t (c.loop-thread.thread + 1) c.split_seat-seat.result.me.0) (split.3 ∙ i.3)
    ∙ ap (λ (v : View g.row.K.Denot). seat_view table.table_id (c.loop-thread.thread + 1) v) is in (
      n + 1,
      omega (arith, i.1),
      omega (arith, below),
      split.0 ∙ i.3,
      split.2 ∙ ap (λ (m : Seated g.row.K.Denot). (with_one_more m.0, m.1)) i.4,
      c.in_ok-push.ensures.items
          ∙ (λ z. i.5 z ++ made z ∷ [])
          ∙ sym (map-range_with_len_more (new_seat lock) 2 n (c.loop-thread.thread + 1) (omega (arith, i.1))),
    )

pub returns : goal.returns
returns g c =
    let i = c.loop-thread.invariant in
    let n : ℕ = i.0 in
    let table = c.args.table.now in
    let lock = lock_of table.table_id table.key in
    let done = c.loop-thread-test.false in
    let all : suc n ≡ c.args.threads = omega (arith, i.1, i.2) in
    let made : c.seat_of-2.result ≡ new_seat lock 1 =
    c.seat_of-2.ensures ∙ ap (λ (t : TableId). seat_view t 1 c.loop-thread.first.me.0) i.3
    ∙ ap (λ (m : Seated g.row.K.Denot). seat_view table.table_id 1 m.0) i.4 in
    c.in_ok-insert.ensures.items
    ∙ (λ z. insert (i.5 z) 0 (made z))
    ∙ ap (λ k. map (new_seat lock) (range_with_len 1 k)) all
