use Rattle.std.proofs.Common.{ap, sym, subst, ◌∙◌, ℕ, ◌+◌, ◌%◌, ◌^◌, ◌<◌, arith}
use Rattle.atomic_table.specs.Table.{Allows}
use Rattle.host_lock.specs.Rule.{IsOneHistory}
use Rattle.host_lock.specs.Steps.{Seated, draws}
use Rattle.host_lock.proofs.Waiting.{draws_keeps}
use Rattle.host_lock.proofs.lock.Lock.draw.Goals as goal

pub fetch_add-requires : goal.fetch_add-requires
fetch_add-requires g c =
    let table = c.self.inside.table.shared in
    let idle = c.requires.idle in (
      c.requires.own ∙ ap (λ l. l.table) (sym c.self.view_is),
      subst (λ (n : ℕ). 0 < n) (sym c.self.invariant.0) (omega arith),
      subst (λ (m : Seated g.row.K.Denot). Allows (IsOneHistory g.K.Kept.journal g.K.Kept.fixed g.K.Kept.Allows table.key) table.table_id.slots c.args.seat.now.id m 0 (λ n. (n + 1) % 2 ^ 64) (draws m))
          (sym idle.is) (draws_keeps _ _ _ g.K.Kept.few _ _ idle.begun _ idle.thread idle.seen idle.mine idle.handed _),
    )
