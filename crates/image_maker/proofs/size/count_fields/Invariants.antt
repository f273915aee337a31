use Rattle.std.proofs.Common.{◌+◌, length, map, take}
use Rattle.std.specs.List.{flat_map, sum_by}
use Rattle.image_maker.specs.Tally.{Adds}
use Rattle.image_maker.proofs.size.count_fields.Given as goal

abbrev pub invariant-loop-item : goal.invariant-loop-item
invariant-loop-item l =
    Adds (map (λ f. f.name) (flat_map (λ t. t.fields) (take l.item-index l.types)))
    (sum_by (λ f. length f.sig + 4) (flat_map (λ t. t.fields) (take l.item-index l.types))) l.fn.tally l.tally
