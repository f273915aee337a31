use Rattle.std.proofs.Common.{take}
use Rattle.std.specs.List.{flat_map, sum_by}
use Rattle.image_maker.specs.Tally.{Adds}
use Rattle.image_maker.proofs.tally.count_all.Given as goal

abbrev pub invariant-loop-item : goal.invariant-loop-item
invariant-loop-item g l =
    Adds (flat_map g.T.Counted.texts (take l.item-index l.items))
    (sum_by g.T.Counted.bytes (take l.item-index l.items)) l.fn.tally l.tally
