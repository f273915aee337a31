use Rattle.std.proofs.Common.{◌≡◌, ◌++◌, ◌∷◌, [], List, Some, Option, ap, sym, subst, ◌∙◌}
use Rattle.atomic_table.specs.Table.{opening}
use Rattle.host_events.specs.declared.journal.Entry.{Entry}
use Rattle.host_lock.specs.declared.view.Begun.{Begun}
use Rattle.host_lock.specs.Rule.{IsOneHistory}
use Rattle.host_lock.specs.Views.{first_seat}
use Rattle.host_lock.proofs.Splitting.{starts}
use Rattle.host_lock.proofs.lock.Lock.new.Goals as goal

pub new-requires : goal.new-requires
new-requires g c =
    let k = g.K.Kept in
    let state = c.args.state in
    let begun : Begun g.row.K.Denot = record { state = c.of.result; threads = c.args.threads } in
    let part : k.fixed state ≡ k.fixed begun.state.value = ap k.fixed (sym c.of.ensures) in
    let items = c.in_ok-push.ensures.items ∙ ap (λ (xs : List (Option g.row.K.Denot)). xs ++ Some state ∷ []) c.new-slots.ensures.items in
    let allowed = subst (λ (p : k.Fixed × List Entry). k.Allows p.0 p.1) (λ i. (part i, c.requires.empty i)) c.keeps.ensures in
    subst (λ (xs : List (Option g.row.K.Denot)). IsOneHistory k.journal k.fixed k.Allows begun (opening (0 ∷ 0 ∷ []) xs (first_seat begun)))
    (sym items)
    (starts k.journal k.fixed k.Allows begun state part c.requires.empty allowed c.requires.threads c.ranges.threads.fits)
