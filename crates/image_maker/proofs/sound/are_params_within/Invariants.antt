use Rattle.std.proofs.Common.{◌≡◌, ℕ, drop}
use Rattle.image_maker.specs.Params.{left_of}
use Rattle.image_maker.proofs.ParamRows.{Within}
use Rattle.image_maker.proofs.sound.are_params_within.Given as goal

abbrev pub invariant-loop-method : goal.invariant-loop-method
invariant-loop-method l =
    (rows before : ℕ) → l.fn.left ≡ left_of rows before
    → Within rows before l.methods l.left (drop l.method-index l.methods)
