use Rattle.std.proofs.Common.{◌≡◌, ◌+◌, ◌-◌, ◌<◌, [], ◌∷◌, ◌++◌, length, length-append, arith}
use Rattle.std.proofs.lemmas.Result.{err_from_is_err_and}
use Rattle.signatures.specs.Types.{arity}
use Rattle.signatures.specs.Grammar.{type_at}
use Rattle.signatures.proofs.Loops.{types_begin, types_next, types_end, types_done, type-whole}
use Rattle.signatures.proofs.reader.read_type.Goals as goal

pub loop-due-init : goal.loop-due-init
loop-due-init c =
    let bytes = c.args.bytes.now in
    (rw c.new-parts.ensures.items (omega arith), omega arith, types_begin c.new-parts.result.items bytes c.new-parts.ensures.items)

pub returns-in_err-part : goal.returns-in_err-part
returns-in_err-part c =
    let p = err_from_is_err_and c.from_residual.result c.from_residual.ensures.1 in
    let i = c.loop-due.invariant in
    rw (p.1, p.2) (types_end c.loop-due.parts.items _ c.loop-due.due c.loop-due.rest.now c.in_err-part.field-0.0 (type_at c.args.bytes.now) (omega arith) (omega (arith, i.0)) c.in_err-part.ensures.read i.2)

pub loop-due-preserved : goal.loop-due-preserved
loop-due-preserved c =
    let i = c.loop-due.invariant in
    let bytes = c.args.bytes.now in
    let rest = c.loop-due.rest.now in
    let after = c.in_ok-part.after.now in
    let parts = c.loop-due.parts.items in
    let part = c.in_ok-part.part in
    let due = c.loop-due.due in
    let pushed : c.push.new.self.items ≡ parts ++ part ∷ [] = c.in_ok-push.ensures.items in
    let longer : length (parts ++ part ∷ []) ≡ length parts + 1 = length-append parts (part ∷ []) in
    let shorter : length after < length rest = c.in_ok-part.ensures.within in
    let arity_is : c.from.result ≡ arity part = grind (arith, c.from.ensures, c.arity.ensures) in (
      rw pushed (omega (arith, longer, shorter, i.0)),
      omega (arith, shorter, i.1),
      rw (pushed, arity_is) (types_next parts (length bytes - length parts) (length bytes - length (parts ++ part ∷ [])) due (due - 1) rest after part (type_at bytes)
          (omega (arith, longer, shorter, i.0)) (omega arith) c.in_ok-part.ensures.read i.2),
    )

pub of-requires : goal.of-requires
of-requires c =
    let i = c.loop-due.invariant in
    let read = types_done c.loop-due.parts.items _ c.loop-due.due c.loop-due.rest.now (type_at c.args.bytes.now) (omega arith) i.2 in
    type-whole c.args.bytes.now c.loop-due.rest.now c.loop-due.parts.items read

pub returns : goal.returns
returns c =
    let i = c.loop-due.invariant in
    let read = types_done c.loop-due.parts.items _ c.loop-due.due c.loop-due.rest.now (type_at c.args.bytes.now) (omega arith) i.2 in
    rw c.of.ensures read
