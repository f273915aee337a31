use Rattle.std.proofs.Common.{◌≡◌, ◌++◌, ◌∷◌, []}
use Rattle.std.proofs.lemmas.Result.{err_from_is_err_and}
use Rattle.signatures.specs.Grammar.{sigs_at}
use Rattle.signatures.proofs.Loops.{sigs_next, sigs_end, sigs_done}
use Rattle.signatures.proofs.reader.read_types.Goals as goal

pub returns-in_err-sig : goal.returns-in_err-sig
returns-in_err-sig c =
    let p = err_from_is_err_and c.from_residual.result c.from_residual.ensures.1 in
    rw (p.1, p.2) (sigs_end c.in_err-sig.field-0.0 c.loop.sigs.items c.args.count c.loop.counter c.loop.rest.now (sigs_at c.args.count c.args.bytes.now) c.loop-test.true c.in_err-sig.ensures c.loop.invariant)

pub loop-preserved : goal.loop-preserved
loop-preserved c =
    let pushed : c.push.new.self.items ≡ c.loop.sigs.items ++ c.in_ok-sig.sig ∷ [] = c.in_ok-push.ensures.items in
    rw pushed (sigs_next c.loop.sigs.items c.args.count c.loop.counter c.loop.rest.now c.in_ok-sig.after.now c.in_ok-sig.sig (sigs_at c.args.count c.args.bytes.now) c.loop-test.true c.in_ok-sig.ensures c.loop.invariant)

pub returns : goal.returns
returns c = sigs_done c.loop.sigs.items c.args.count c.loop.counter c.loop.rest.now (sigs_at c.args.count c.args.bytes.now) c.loop-test.false c.loop.invariant
