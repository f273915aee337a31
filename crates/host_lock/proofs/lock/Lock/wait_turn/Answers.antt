use Rattle.std.proofs.Common.{ap, sym, subst, ◌∙◌, ℕ, ◌<◌, arith}
use Rattle.atomic_table.specs.Table.{Allows}
use Rattle.host_lock.specs.Rule.{IsOneHistory}
use Rattle.host_lock.specs.Steps.{Seated, looks}
use Rattle.host_lock.proofs.Waiting.{looks_keeps}
use Rattle.host_lock.proofs.lock.Lock.wait_turn.Goals as goal

pub load-requires : goal.load-requires
load-requires g c =
    let table = c.self.inside.table.shared in
    let waits = c.requires.waits in
    let same = c.loop.invariant in (
      same.2 ∙ c.requires.own ∙ ap (λ l. l.table) (sym c.self.view_is),
      subst (λ (n : ℕ). 1 < n) (sym c.self.invariant.0) (omega arith),
      subst (λ (m : Seated g.row.K.Denot). Allows (IsOneHistory g.K.Kept.journal g.K.Kept.fixed g.K.Kept.Allows table.key) table.table_id.slots c.loop.seat.id m 1 (λ n. n) (looks g.K.Kept.journal g.K.Kept.fixed g.K.Kept.Allows m))
          (sym (same.4 ∙ waits.is))
          (looks_keeps _ _ _ table.table_id.slots _ waits.begun _ waits.thread _ waits.seen waits.mine waits.handed),
    )
