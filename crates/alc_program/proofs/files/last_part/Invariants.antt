use Rattle.std.proofs.Common.{◌≡◌, ◌==◌, cond, length}
use Rattle.std.specs.List.{list_any}
use Rattle.alc_program.specs.Images.{last_part, slash}
use Rattle.alc_program.proofs.files.last_part.Given as goal

-- the last part is that of what is left, where a `/` is, or else what follows the last that was passed
abbrev pub invariant-loop-rest : goal.invariant-loop-rest
invariant-loop-rest l = last_part l.units ≡ cond (list_any (λ unit. unit == slash) l.rest) (last_part l.rest) l.part

abbrev pub decreases-loop-rest : goal.decreases-loop-rest
decreases-loop-rest l = length l.rest
