use Rattle.std.proofs.Common.{◌≡◌, ◌≢◌, ◌⊎◌, inl, inr, ℕ, Bool, true, false, not, ap, sym, ◌∙◌, arith}
use Rattle.il_flow.specs.Merging.{Held, joined}
use Rattle.il_verifier.proofs.Ways.{CanRaise, can-raise, raise-own, raise-after, raise-new}
use Rattle.il_verifier.proofs.joins.raise.Goals as goal

was-not : (b : Bool) → b ≡ false → not b ≡ true
was-not b e = ap not e

other-held : (both own : ℕ) (held its joined : Held) → held ≡ joined → (both ≢ own) ⊎ (held ≢ its) →
    (both ≢ own) ⊎ (joined ≢ its)
other-held both own held its joined is (inl apart) = inl apart
other-held both own held its joined is (inr apart) = inr (λ e. apart (is ∙ e))

pub unreachable-requires : goal.unreachable-requires
unreachable-requires g c =
    let less = c.requires.step.2.lesser in
    let none = c.in_default.ensures.0 in
    omega (arith, less, none)

pub returns-then-is_same_top-clause-join : goal.returns-then-is_same_top-clause-join
returns-then-is_same_top-clause-join g c =
    let family = g.P.Parents.family c.args.parents.now in
    let pool = c.args.pool.now in
    let own = c.in-Some.own.now in
    let after = c.in-Some-top.after.now in
    let can : CanRaise family pool c.args.pair own.held after.held c.args.low =
    can-raise family pool c.args.pair c.args.low own.below after.below own.held after.held c.requires.step c.requires.low
    c.in-Some.ensures c.in-Some-top.ensures in
    let same = c.is_same_top.ensures.yes c.if-is_same_top.true in
    raise-own family pool c.args.pair own.held after.held c.args.low can same.0 (sym c.in_ok-held.ensures.held ∙ same.1)

pub returns-then-is_same_top-2-clause-join : goal.returns-then-is_same_top-2-clause-join
returns-then-is_same_top-2-clause-join g c =
    let family = g.P.Parents.family c.args.parents.now in
    let pool = c.args.pool.now in
    let own = c.in-Some.own.now in
    let after = c.in-Some-top.after.now in
    let can : CanRaise family pool c.args.pair own.held after.held c.args.low =
    can-raise family pool c.args.pair c.args.low own.below after.below own.held after.held c.requires.step c.requires.low
    c.in-Some.ensures c.in-Some-top.ensures in
    let apart = c.is_same_top.ensures.no (was-not c.is_same_top.result c.if-is_same_top.false) in
    let same = c.is_same_top-2.ensures.yes c.if-is_same_top-2.true in
    raise-after family pool c.args.pair own.held after.held c.args.low can
    (other-held c.args.low.both c.args.low.pair.own c.in_ok-held.held own.held (joined family own.held after.held) c.in_ok-held.ensures.held apart)
    same.0 (sym c.in_ok-held.ensures.held ∙ same.1)

pub returns-clause-join : goal.returns-clause-join
returns-clause-join g c =
    let family = g.P.Parents.family c.args.parents.now in
    let pool = c.args.pool.now in
    let own = c.in-Some.own.now in
    let after = c.in-Some-top.after.now in
    let can : CanRaise family pool c.args.pair own.held after.held c.args.low =
    can-raise family pool c.args.pair c.args.low own.below after.below own.held after.held c.requires.step c.requires.low
    c.in-Some.ensures c.in-Some-top.ensures in
    let apart = c.is_same_top.ensures.no (was-not c.is_same_top.result c.if-is_same_top.false) in
    raise-new family pool c.push.new.self c.args.pair own.held after.held c.in_ok-held.held c.args.low c.in_ok-both.both can
    (other-held c.args.low.both c.args.low.pair.own c.in_ok-held.held own.held (joined family own.held after.held) c.in_ok-held.ensures.held apart)
    c.in_ok-held.ensures.held c.in_ok-both.ensures
