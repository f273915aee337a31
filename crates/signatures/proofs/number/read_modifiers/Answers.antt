use Rattle.std.proofs.Common.{◌≡◌, ◌≤◌, length, sym, arith}
use Rattle.std.proofs.lemmas.Result.{err_from_is_err_and}
use Rattle.signatures.specs.Grammar.{modifiers_at, past_modifier}
use Rattle.signatures.proofs.Loops.{past_modifier-shorter, modifiers_next, modifiers_end, modifiers_done}
use Rattle.signatures.proofs.number.read_modifiers.Goals as goal

pub returns-in_err-after-clause-read : goal.returns-in_err-after-clause-read
returns-in_err-after-clause-read c =
    let p = err_from_is_err_and c.from_residual.result c.from_residual.ensures.1 in
    let i = c.loop-modified.invariant.1 in
    rw (p.1, p.2) (modifiers_end i.0 c.loop-modified.rest.now c.in-Some.modified.now c.in_err-after.field-0.0 (modifiers_at c.args.bytes.now) i.1 (sym c.in-Some.ensures) c.in_err-after.ensures.read i.2)

pub loop-modified-preserved : goal.loop-modified-preserved
loop-modified-preserved c =
    let i = c.loop-modified.invariant.1 in
    let begins : past_modifier c.loop-modified.rest.now ≡ _ = sym c.in-Some.ensures in
    let lt = past_modifier-shorter c.loop-modified.rest.now c.in-Some.modified.now begins in
    let within : length c.in_ok-after.after.now ≤ length c.in-Some.modified.now = rw c.in_ok-after.after-is c.in_ok-after.ensures.within in (
      omega (arith, c.loop-modified.invariant.0),
      modifiers_next i.0 c.loop-modified.rest.now c.in-Some.modified.now c.in_ok-after.after.now _ (modifiers_at c.args.bytes.now) i.1 begins c.in_ok-after.ensures.read within i.2,
    )

pub returns-clause-read : goal.returns-clause-read
returns-clause-read c =
    let i = c.loop-modified.invariant.1 in
    modifiers_done i.0 c.loop-modified.rest.now (modifiers_at c.args.bytes.now) (sym (c.in_default.ensures {u = tt})) i.2
