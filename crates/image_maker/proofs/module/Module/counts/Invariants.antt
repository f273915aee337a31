use Rattle.std.proofs.Common.{◌≡◌, ℕ, ◌<◌, length, get_or, min}
use Rattle.image_maker.specs.Sound.{count}
use Rattle.image_maker.specs.Tally.{most_rows}
use Rattle.image_maker.proofs.module.Module.counts.Given as goal

abbrev pub invariant-loop-table : goal.invariant-loop-table
invariant-loop-table l =
    (length l.counts ≡ 45) × ((t : ℕ) → t < l.table → get_or l.counts t 0 ≡ min (count l.self t) most_rows)
