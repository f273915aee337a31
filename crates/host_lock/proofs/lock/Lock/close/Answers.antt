use Rattle.std.proofs.Common.{◌≡◌, ◌<◌, ◌∷◌, ℕ, List, length, ap, sym, subst, ◌∙◌}
use mathlib.Core.Option.{some-injective}
use Rattle.host_lock.specs.Known.{LockId, SeatView, Gathers, IsHistory}
use Rattle.host_lock.proofs.Waiting.{some_inj, none_some}
use Rattle.host_lock.proofs.Closing.{closing, first_rest}
use Rattle.host_lock.proofs.lock.Lock.close.Goals as goal

pub unreachable-requires : goal.unreachable-requires
unreachable-requires g c =
    let k = g.K.Kept in
    let table = c.self.inside.table.shared in
    let first = c.remove-first.result in
    let seat = c.join_all-seat.result in
    let threads : c.args.self.threads ≡ table.key.threads = ap (λ (l : LockId g.row.K.Denot). l.threads) (sym c.self.view_is) in
    let some_seat : 0 < length c.args.seats.items = subst (λ (n : ℕ). 0 < n) (sym (c.requires.all ∙ threads)) c.self.invariant.2 in
    let items : first ∷ c.remove-first.new.self.items ≡ c.args.seats.items =
    ap (λ (xs : List (SeatView g.row.K.Denot)). first ∷ xs) c.remove-first.ensures.items ∙ first_rest c.args.seats.items first some_seat c.remove-first.ensures.value in
    let gathered = subst (λ (xs : List (SeatView g.row.K.Denot)). Gathers xs seat.me.0) items c.join_all-seat.ensures.gathers in
    let done = closing k.journal k.fixed k.Allows table.key seat.id seat.me.0 c.args.seats.items _ _ c.close_with-closed.ensures.values.2 gathered
    (c.requires.all ∙ threads) in
    none_some done.0 (some-injective _ _ (sym c.in-None.ensures.value ∙ done.1))

pub returns-clause-fixed : goal.returns-clause-fixed
returns-clause-fixed g c =
    let k = g.K.Kept in
    let table = c.self.inside.table.shared in
    let first = c.remove-first.result in
    let seat = c.join_all-seat.result in
    let threads : c.args.self.threads ≡ table.key.threads = ap (λ (l : LockId g.row.K.Denot). l.threads) (sym c.self.view_is) in
    let some_seat : 0 < length c.args.seats.items = subst (λ (n : ℕ). 0 < n) (sym (c.requires.all ∙ threads)) c.self.invariant.2 in
    let items : first ∷ c.remove-first.new.self.items ≡ c.args.seats.items =
    ap (λ (xs : List (SeatView g.row.K.Denot)). first ∷ xs) c.remove-first.ensures.items ∙ first_rest c.args.seats.items first some_seat c.remove-first.ensures.value in
    let gathered = subst (λ (xs : List (SeatView g.row.K.Denot)). Gathers xs seat.me.0) items c.join_all-seat.ensures.gathers in
    let done = closing k.journal k.fixed k.Allows table.key seat.id seat.me.0 c.args.seats.items _ _ c.close_with-closed.ensures.values.2 gathered
    (c.requires.all ∙ threads) in
    let same : done.0 ≡ c.in-Some.state = some_inj _ _ (some-injective _ _ (sym done.1 ∙ c.in-Some.ensures.value)) in
    ap k.fixed (sym same) ∙ done.2
    ∙ ap (λ (l : LockId g.row.K.Denot). k.fixed l.begun) c.self.view_is

pub returns-clause-history : goal.returns-clause-history
returns-clause-history g c =
    let k = g.K.Kept in
    let table = c.self.inside.table.shared in
    let first = c.remove-first.result in
    let seat = c.join_all-seat.result in
    let threads : c.args.self.threads ≡ table.key.threads = ap (λ (l : LockId g.row.K.Denot). l.threads) (sym c.self.view_is) in
    let some_seat : 0 < length c.args.seats.items = subst (λ (n : ℕ). 0 < n) (sym (c.requires.all ∙ threads)) c.self.invariant.2 in
    let items : first ∷ c.remove-first.new.self.items ≡ c.args.seats.items =
    ap (λ (xs : List (SeatView g.row.K.Denot)). first ∷ xs) c.remove-first.ensures.items ∙ first_rest c.args.seats.items first some_seat c.remove-first.ensures.value in
    let gathered = subst (λ (xs : List (SeatView g.row.K.Denot)). Gathers xs seat.me.0) items c.join_all-seat.ensures.gathers in
    let done = closing k.journal k.fixed k.Allows table.key seat.id seat.me.0 c.args.seats.items _ _ c.close_with-closed.ensures.values.2 gathered
    (c.requires.all ∙ threads) in
    let same : done.0 ≡ c.in-Some.state = some_inj _ _ (some-injective _ _ (sym done.1 ∙ c.in-Some.ensures.value)) in
    subst (λ s. IsHistory c.args.seats.items (k.journal s)) same done.3
