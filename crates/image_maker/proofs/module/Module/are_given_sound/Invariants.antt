use Rattle.std.proofs.Common.{◌≡◌, [], drop, length}
use Rattle.image_maker.specs.Rows.{given_rows}
use Rattle.image_maker.specs.Sound.{are_rows_sound}
use Rattle.image_maker.specs.Tally.{layout_of}
use Rattle.image_maker.proofs.module.Module.are_given_sound.Given as goal

abbrev pub invariant-loop-row : goal.invariant-loop-row
invariant-loop-row l =
    are_rows_sound (layout_of l.self) (length l.self.guids) l.table l.before
    (given_rows l.table (drop l.row-index l.self.rows))
    ≡ are_rows_sound (layout_of l.self) (length l.self.guids) l.table [] (given_rows l.table l.self.rows)
