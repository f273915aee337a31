use Rattle.std.proofs.Common.{◌≡◌, map, take}
use Rattle.image_maker.proofs.plans.list.Given as goal

abbrev pub invariant-loop-item : goal.invariant-loop-item
invariant-loop-item g l = l.made.items ≡ map g.T.Literal.part (take l.item-index l.items)
