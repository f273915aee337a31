use Rattle.std.proofs.Common.{◌≢◌, get_or, sym, ap, ◌∙◌, arith}
use Rattle.std.specs.Char.{to_ascii_lowercase}
use Rattle.host_core.proofs.Folds.{unlike, alike}
use Rattle.host_core.proofs.platform.is_alike.Goals as goal

pub returns-then-lower : goal.returns-then-lower
returns-then-lower c =
    let other : to_ascii_lowercase (get_or c.args.units.now c.loop-i.i 0) ≢ to_ascii_lowercase (get_or c.args.letters.now c.loop-i.i 0) =
    λ e. c.if-lower.true (c.lower.ensures ∙ e ∙ ap to_ascii_lowercase (sym c.from.ensures) ∙ sym c.lower-in-loop-i.ensures) in
    unlike to_ascii_lowercase c.args.units.now c.args.letters.now c.loop-i.i (omega arith) (omega arith) other

pub returns : goal.returns
returns c = alike to_ascii_lowercase c.args.units.now c.args.letters.now (omega arith) (λ i p. c.loop-i.invariant i (omega arith))
