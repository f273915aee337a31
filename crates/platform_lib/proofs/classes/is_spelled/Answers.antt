use Rattle.std.proofs.Common.{arith}
use Rattle.platform_lib.proofs.Spelled.{not_as_long, alike}
use Rattle.platform_lib.proofs.classes.is_spelled.Goals as goal

pub returns-then-units-letters : goal.returns-then-units-letters
returns-then-units-letters c = not_as_long c.args.units.now c.args.letters.now c.if-units-letters.true

pub returns : goal.returns
returns c =
    alike c.args.units.now c.args.letters.now (omega arith) (λ i p. c.loop-i.invariant i (omega arith))
