use Rattle.std.proofs.Common.{◌≡◌, ℕ, drop}
use Rattle.image_maker.specs.Params.{left_of}
use Rattle.image_maker.proofs.ParamRows.{TypesWithin}
use Rattle.image_maker.proofs.sound.are_types_within.Given as goal

abbrev pub invariant-loop-item : goal.invariant-loop-item
invariant-loop-item l =
    (rows : ℕ) → l.fn.left ≡ left_of rows 0 → TypesWithin rows l.types l.left (drop l.item-index l.types)
