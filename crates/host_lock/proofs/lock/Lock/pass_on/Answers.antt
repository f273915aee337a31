use Rattle.std.proofs.Common.{ap, sym, subst, ◌∙◌, ℕ, ◌+◌, ◌%◌, ◌^◌, ◌<◌, arith}
use Rattle.atomic_table.specs.Table.{Allows}
use Rattle.host_lock.specs.Rule.{IsOneHistory}
use Rattle.host_lock.specs.Steps.{Seated, passes}
use Rattle.host_lock.proofs.Turns.{passes_keeps}
use Rattle.host_lock.proofs.lock.Lock.pass_on.Goals as goal

pub fetch_add-requires : goal.fetch_add-requires
fetch_add-requires g c =
    let table = c.self.inside.table.shared in
    let may = c.requires.may in (
      c.requires.own ∙ ap (λ l. l.table) (sym c.self.view_is),
      subst (λ (n : ℕ). 1 < n) (sym c.self.invariant.0) (omega arith),
      subst (λ (m : Seated g.row.K.Denot). Allows (IsOneHistory g.K.Kept.journal g.K.Kept.fixed g.K.Kept.Allows table.key) table.table_id.slots c.args.seat.now.id m 1 (λ n. (n + 1) % 2 ^ 64) (λ _. passes g.K.Kept.journal m))
          (sym may.is)
          (passes_keeps _ _ _ g.K.Kept.few _ _ may.begun _ may.thread may.ticket may.seen may.mine may.handed may.state may.before may.entry may.by may.grew may.fixed_part may.allowed),
    )
