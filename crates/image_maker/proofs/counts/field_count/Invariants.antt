use Rattle.std.proofs.Common.{◌≡◌, length, take, min}
use Rattle.std.specs.List.{sum_by}
use Rattle.image_maker.specs.Tally.{most}
use Rattle.image_maker.proofs.counts.field_count.Given as goal

abbrev pub invariant-loop-item : goal.invariant-loop-item
invariant-loop-item l = l.count ≡ min (sum_by (λ t. length t.fields) (take l.item-index l.types)) most
