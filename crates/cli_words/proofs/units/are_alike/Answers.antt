use Rattle.std.proofs.Common.{◌≢◌, get_or, sym, ◌∙◌, arith}
use Rattle.std.specs.Char.{to_ascii_lowercase}
use Rattle.cli_words.proofs.Folds.{unlike, alike}
use Rattle.cli_words.proofs.units.are_alike.Goals as goal

pub returns-then-lower : goal.returns-then-lower
returns-then-lower c =
    let other : to_ascii_lowercase (get_or c.args.ours.now c.loop-i.i 0) ≢ to_ascii_lowercase (get_or c.args.theirs.now c.loop-i.i 0) = λ e. c.if-lower.true (c.lower.ensures ∙ e ∙ sym c.lower-in-loop-i.ensures) in
    unlike to_ascii_lowercase c.args.ours.now c.args.theirs.now c.loop-i.i (omega arith) (omega arith) other

pub returns : goal.returns
returns c = alike to_ascii_lowercase c.args.ours.now c.args.theirs.now (omega arith) (λ i p. c.loop-i.invariant i (omega arith))
