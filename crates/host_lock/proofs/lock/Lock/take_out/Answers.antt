use Rattle.std.proofs.Common.{ap, sym, ◌∙◌, ◌∷◌, Some}
use Rattle.atomic_table.specs.Table.{rest}
use Rattle.host_lock.proofs.lock.Lock.take_out.Goals as goal

pub exchange-requires : goal.exchange-requires
exchange-requires g c =
    let holds = c.requires.holds in (
      c.requires.own ∙ ap (λ l. l.table) (sym c.self.view_is),
      (Some holds.0, holds.1 ∙ ap (λ r. (0, Some holds.0) ∷ r) (sym (ap rest holds.1))),
    )
