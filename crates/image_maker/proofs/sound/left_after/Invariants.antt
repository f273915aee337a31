use Rattle.std.proofs.Common.{◌≡◌, ℕ, ◌+◌, take}
use Rattle.std.specs.List.{sum_by}
use Rattle.image_maker.specs.Params.{left_of}
use Rattle.image_maker.proofs.sound.left_after.Given as goal

abbrev pub invariant-loop-method : goal.invariant-loop-method
invariant-loop-method l =
    (rows before : ℕ) → l.fn.left ≡ left_of rows before
    → l.left ≡ left_of rows (before + sum_by (λ m. m.params) (take l.method-index l.methods))
