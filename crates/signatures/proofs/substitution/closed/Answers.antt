use Rattle.std.proofs.Common.{◌≡◌, ◌+◌, List, [], ◌∷◌, ◌++◌, map, take, get_or, true, sym, ap, ◌∙◌, arith}
use Rattle.std.proofs.lemmas.Result.{err_from_is_err_and}
use Rattle.std.proofs.lemmas.List.{map_more, take_all, append-nil}
use Rattle.signatures.specs.declared.sig.Primitive.TheVariants.{Bool}
use Rattle.signatures.specs.declared.sig.SigPart.TheVariants.{Prim}
use Rattle.signatures.specs.Types.{arity, are_types}
use Rattle.signatures.specs.Keys.{key_arity}
use Rattle.signatures.specs.Substitution.{closed_part}
use Rattle.signatures.proofs.Closing.{whole_next, proper_next, closed_next, passes}
use Rattle.signatures.proofs.substitution.closed.Goals as goal

pub returns-in_err-append-clause-deep : goal.returns-in_err-append-clause-deep
returns-in_err-append-clause-deep c =
    let p = err_from_is_err_and c.from_residual.result c.from_residual.ensures.1 in
    let f = closed_part c.args.classes.now c.args.args.now in
    let i = c.loop-part.invariant.0 in
    rw (p.1, p.2) (passes c.in_err-append.field-0.0 f c.args.parts.now c.loop-part.part-index (Prim Bool) c.loop-part-test.true (rw (sym i) c.in_err-append.ensures.deep))

pub loop-part-preserved : goal.loop-part-preserved
loop-part-preserved c =
    let f = closed_part c.args.classes.now c.args.args.now in
    let parts = c.args.parts.now in
    let at = c.loop-part.part-index in
    let part = get_or parts at (Prim Bool) in
    let key = c.loop-part.key.items in
    let i = c.loop-part.invariant in
    let added : c.append.new.key.items ≡ key ++ f part = c.in_ok-append.ensures.added in
    let front : map arity (take (at + 1) parts) ≡ map arity (take at parts) ++ arity part ∷ [] = map_more arity parts at (Prim Bool) c.loop-part-test.true in (
      added ∙ (ap (λ (ps : List _). ps ++ f part) i.0 ∙ closed_next f parts at (Prim Bool) c.loop-part-test.true),
      c.in_ok-append.ensures.short,
      rw (front, added) (whole_next (map arity (take at parts)) key (f part) (arity part) i.2 c.in_ok-append.ensures.stands),
      rw added (proper_next key (f part) i.3 c.in_ok-append.ensures.proper),
    )

pub returns-clause-whole : goal.returns-clause-whole
returns-clause-whole c =
    let i = c.loop-part.invariant in
    let parts = c.args.parts.now in
    let all : take c.loop-part.part-index parts ≡ parts = take_all c.loop-part.part-index parts (omega arith) in
    let whole : are_types 1 (map arity (take c.loop-part.part-index parts) ++ []) ≡ true = rw (all, append-nil (map arity parts)) c.requires.whole in
    (rw (sym (append-nil (map key_arity c.loop-part.key.items))) (i.2 1 [] whole), i.3)
