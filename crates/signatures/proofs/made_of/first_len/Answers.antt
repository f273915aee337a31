use Rattle.std.proofs.Common.{◌≡◌, ℕ, suc, ◌+◌, ◌-◌, true, List, [], map, take, drop, get_or, refl, sym, ap, ◌∙◌, arith}
use Rattle.std.proofs.lemmas.List.{append-nil}
use Rattle.signatures.specs.Types.{are_types}
use Rattle.signatures.proofs.Splits.{due_part, first_next, rest_next}
use Rattle.signatures.proofs.made_of.first_len.Goals as goal

pub loop-due-init : goal.loop-due-init
loop-due-init g c =
    let e : 1 + (c.args.count - 1) ≡ c.args.count = omega (arith, c.requires.some) in
    (omega arith, omega arith, λ more h. h, rw e c.requires.whole)

pub loop-due-preserved : goal.loop-due-preserved
loop-due-preserved g c =
    let i = c.loop-due.invariant in
    let arity = g.P.Part.made_of in
    let parts = c.args.parts.now in
    let at = c.loop-due.at in
    let part = c.index-parts-at.result in
    let others = c.args.count - 1 in
    let due : c.loop-due.due ≡ suc (c.loop-due.due - 1) = omega arith in
    let read : part ≡ get_or parts at part = c.index-parts-at.is in
    let own : c.from.result ≡ arity (get_or parts at part) = c.from.ensures ∙ (c.count.ensures ∙ ap arity read) in
    let all : c.loop-due.due + others ≡ suc ((c.loop-due.due - 1) + others) = omega arith in
    let within = due_part arity parts at (c.loop-due.due + others) (omega arith) i.3 in
    let left : are_types (((c.loop-due.due - 1) + others) + arity (get_or parts at part)) (map arity (drop (at + 1) parts)) ≡ true =
    rest_next arity parts at ((c.loop-due.due - 1) + others) part within (rw (sym all) i.3) in
    let sum : ((c.loop-due.due - 1) + c.from.result) + others ≡ ((c.loop-due.due - 1) + others) + arity (get_or parts at part) = omega (arith, own) in (
      omega (arith, within),
      omega (arith, i.1, c.from.ensures, c.from.type_inv),
      rw own (first_next arity parts at (c.loop-due.due - 1) part within (rw (sym due) i.2)),
      rw sum left,
    )

pub returns-clause-first : goal.returns-clause-first
returns-clause-first g c =
    let i = c.loop-due.invariant in
    let arity = g.P.Part.made_of in
    let none : c.loop-due.due ≡ 0 = omega arith in
    let done : are_types c.loop-due.due [] ≡ true = rw none refl in
    ap (λ (ns : List ℕ). are_types 1 ns) (sym (append-nil (map arity (take c.loop-due.at c.args.parts.now)))) ∙ i.2 [] done
