use Rattle.std.proofs.Common.{map, take}
use Rattle.std.specs.List.{flat_map, sum_by}
use Rattle.image_maker.specs.Tally.{Adds, method_bytes}
use Rattle.image_maker.proofs.size.count_methods.Given as goal

abbrev pub invariant-loop-item : goal.invariant-loop-item
invariant-loop-item l =
    Adds (map (λ f. f.name) (flat_map (λ t. t.methods) (take l.item-index l.types)))
    (sum_by (method_bytes) (flat_map (λ t. t.methods) (take l.item-index l.types))) l.fn.tally l.tally
