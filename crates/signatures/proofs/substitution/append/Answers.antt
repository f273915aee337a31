use Rattle.std.proofs.Common.{◌<◌, [], sym, length}
use Rattle.std.proofs.lemmas.List.{get_or_read}
use Rattle.std.proofs.lemmas.Bool.{leb-false}
use Rattle.signatures.proofs.Closing.{stands-key}
use Rattle.signatures.proofs.substitution.append.Goals as goal

pub returns-in-Class-clause-stands : goal.returns-in-Class-clause-stands
returns-in-Class-clause-stands c =
    let whole = c.class_parts.ensures.whole (rw c.in-Class.is at c.requires.known) in
    rw (c.in-Class.is, sym c.class_parts.ensures.parts) (stands-key c.class_parts.result.now whole.0)

pub returns-in-Var-clause-stands : goal.returns-in-Var-clause-stands
returns-in-Var-clause-stands c =
    let within : c.in-Var.number < length c.args.args.now = leb-false _ _ (rw c.in-Var.is at c.requires.given) in
    let read = get_or_read c.args.args.now c.in-Var.number _ within c.index-args-number.is [] in
    rw (c.in-Var.is, sym read) (stands-key c.index-args-number.result c.key.ensures.proper.0)
