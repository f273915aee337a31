use Rattle.std.proofs.Common.{List, [], sym, subst}
use Rattle.std.proofs.lemmas.List.{take_all}
use Rattle.il_flow.proofs.Order.{Key}
use Rattle.il_flow.proofs.Levels.{AreAbove, above-none, above-one}
use Rattle.il_flow.proofs.level.next_level.Goals as goal

pub loop-key-init : goal.loop-key-init
loop-key-init g c =
    let family = g.P.Parents.family c.args.parents.now in
    subst (λ (keys : List Key). AreAbove family [] keys) (sym c.new-next.ensures.items) (above-none family)

pub loop-key-preserved : goal.loop-key-preserved
loop-key-preserved g c =
    above-one (g.P.Parents.family c.args.parents.now) c.args.level.now c.loop-key.next.items
    c.add_above.new.keys.items c.loop-key.key-index c.key-item.result c.loop-key-test.true c.key-item.is
    c.loop-key.invariant c.in_ok-add_above.ensures

pub returns : goal.returns
returns g c =
    let family = g.P.Parents.family c.args.parents.now in
    subst (λ (seen : List Key). AreAbove family seen c.loop-key.next.items)
    (take_all c.loop-key.key-index c.args.level.now c.loop-key-test.false) c.loop-key.invariant
