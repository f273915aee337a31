use Rattle.std.proofs.Common.{◌≡◌, inl, inr, ℕ, ◌<◌, ◌+◌, Option, Some, None, List, length, get_or, refl, sym, ap, ◌∙◌, arith}
use Rattle.std.proofs.lemmas.List.{get_or_read}
use Rattle.il_flow.specs.Families.{Family, IsFamily}
use Rattle.il_flow.specs.Merging.{Held, joined, IsUnder}
use Rattle.il_verifier.specs.declared.line.Line.{Line}
use Rattle.il_verifier.specs.Effects.{stack_after}
use Rattle.il_verifier.specs.Lines.{line_at}
use Rattle.il_verifier.specs.Pools.{stack_by}
use Rattle.il_verifier.specs.Worklist.{stacks_by, weights}
use Rattle.il_verifier.proofs.Order.{IsMerging}
use Rattle.il_verifier.proofs.Weights.{AreRanks}
use Rattle.il_verifier.proofs.Pools.{Pool}
use Rattle.il_verifier.proofs.Reaching.{at-within}
use Rattle.il_verifier.proofs.Turns.{IsTurn, by-none, by-length, nothing-handed}
use Rattle.il_verifier.proofs.Going.{turn-of, going-first, going-skip, going-to, going-within, going-even, going-next, going-last}
use Rattle.il_verifier.proofs.typing.hand_on.Goals as goal

-- the stack of a place, as it is read
read : (ids : List (Option ℕ)) (at : ℕ) (o : Option ℕ) → at < length ids → o ≡ get_or ids at o → get_or ids at None ≡ o
read ids at o less is = sym (get_or_read ids at o less is None)

stack-within : (lines : List (Option Line)) (at : ℕ) (line : Line) (pool : Pool) (ids : List (Option ℕ)) →
    line_at lines at ≡ Some line → length (stacks_by pool ids) ≡ length lines → at < length ids
stack-within lines at line pool ids here sized =
    let less = at-within lines at line here in
    let size = by-length pool ids in
    omega (arith, less, sized, size)

-- the laws of merging
merging-of : (family : Family) → IsFamily family → ((family : Family) (a : Held) → IsUnder family a a) →
    ((family : Family) (a b c : Held) → IsUnder family a b → IsUnder family b c → IsUnder family a c) →
    ((family : Family) → IsFamily family → (a b : Held) → IsUnder family a b → IsUnder family b a → a ≡ b) →
    ((family : Family) (a b : Held) → IsUnder family a (joined family a b) × IsUnder family b (joined family a b)) →
    ((family : Family) → IsFamily family → (a b c : Held) → IsUnder family a c → IsUnder family b c → IsUnder family (joined family a b) c) →
    IsMerging family
merging-of family lawful same trans anti upper least = record {
  same = same family;
  trans = trans family;
  anti = anti family lawful;
  upper = upper family;
  least = least family lawful;
}

pub returns-in_default-clause-sought : goal.returns-in_default-clause-sought
returns-in_default-clause-sought g c =
    nothing-handed (g.P.Parents.family c.args.parents.now) c.args.max c.args.lines.now
    (stacks_by c.args.search.now.pool c.args.search.now.stacks.items) c.args.search.now.todo c.args.at
    (inl (sym c.in_default.ensures)) c.requires.sought

pub returns-in_default-index-clause-sought : goal.returns-in_default-index-clause-sought
returns-in_default-index-clause-sought g c =
    let search = c.args.search.now in
    let less = stack-within c.args.lines.now c.args.at c.in-Some.line.now search.pool search.stacks.items (sym c.in-Some.ensures)
    c.requires.sought.sized in
    nothing-handed (g.P.Parents.family c.args.parents.now) c.args.max c.args.lines.now
    (stacks_by search.pool search.stacks.items) search.todo c.args.at
    (inr (by-none search.pool search.stacks.items c.args.at
    (read search.stacks.items c.args.at c.index.result.now less c.index.ensures ∙ c.in_default-index.is)))
    c.requires.sought

pub stack_after-requires : goal.stack_after-requires
stack_after-requires g c =
    let search = c.args.search.now in
    let less = stack-within c.args.lines.now c.args.at c.in-Some.line.now search.pool search.stacks.items (sym c.in-Some.ensures)
    c.requires.sought.sized in
    c.requires.sound.numbered c.args.at c.in-Some-index.own
    (read search.stacks.items c.args.at c.index.result.now less c.index.ensures ∙ c.in-Some-index.is)

pub loop-place-init : goal.loop-place-init
loop-place-init g c =
    let search = c.args.search.now in
    let less = stack-within c.args.lines.now c.args.at c.in-Some.line.now search.pool search.stacks.items (sym c.in-Some.ensures)
    c.requires.sought.sized in
    going-first (g.P.Parents.family c.args.parents.now) c.args.max c.args.lines.now c.args.at c.in-Some-index.own c.in-Some.line.now
    c.items-place-items.result.now search.pool c.stack_after.new.pool search.joins search.stacks.items search.todo
    (sym c.in-Some.ensures) c.items-place-items.ensures
    (read search.stacks.items c.args.at c.index.result.now less c.index.ensures ∙ c.in-Some-index.is)
    c.in_ok-after.ensures.grows c.requires.sound c.requires.sought

pub loop-place-preserved-in_default-place : goal.loop-place-preserved-in_default-place
loop-place-preserved-in_default-place g c =
    let search = c.args.search.now in
    let now = c.loop-place.search in
    going-skip (g.P.Parents.family c.args.parents.now) c.args.max c.args.lines.now c.args.at (stack_by search.pool c.in-Some-index.own)
    c.items-place-items.result.now c.loop-place.place-index c.stack_after.new.pool now.pool now.joins now.stacks.items now.todo
    (weights (g.P.Parents.family c.args.parents.now) c.args.max (stacks_by search.pool search.stacks.items) + length search.todo)
    c.loop-place-test.true c.in_default-place.is c.loop-place.invariant

pub meet-requires-clause-within : goal.meet-requires-clause-within
meet-requires-clause-within g c =
    let now = c.loop-place.search in
    going-within c.args.lines.now c.args.at c.in-Some-place.to c.in-Some.line.now now.stacks.items c.requires.inside
    (sym c.in-Some.ensures)
    (going-to c.in-Some.line.now c.items-place-items.result.now c.loop-place.place-index c.in-Some-place.to
    c.items-place-items.ensures c.loop-place-test.true c.in-Some-place.is)
    c.loop-place.invariant.sized

pub meet-requires-clause-even : goal.meet-requires-clause-even
meet-requires-clause-even g c = λ id some.
    let family = g.P.Parents.family c.args.parents.now in
    let lawful = g.met.P.Parents.lawful c.args.parents.now in
    let search = c.args.search.now in
    let now = c.loop-place.search in
    let line = c.in-Some.line.now in
    let less = stack-within c.args.lines.now c.args.at line search.pool search.stacks.items (sym c.in-Some.ensures)
    c.requires.sought.sized in
    let law = c.merging_is_least.ensures in
    let after : List Held = stack_after line.effect (stack_by search.pool c.in-Some-index.own) in
    let turn : IsTurn family c.args.max c.args.lines.now c.args.at (stack_by search.pool c.in-Some-index.own) after line =
    turn-of family c.args.max c.args.lines.now c.args.at c.in-Some-index.own line after search.pool search.stacks.items search.todo
    (merging-of family lawful law.reflexive law.transitive law.antisymmetric law.above_both law.least)
    (c.stacks_rise.ensures family lawful) c.requires.clear (sym c.in-Some.ensures)
    (read search.stacks.items c.args.at c.index.result.now less c.index.ensures ∙ c.in-Some-index.is) c.requires.sought refl in
    let stays : stack_by now.pool c.in_ok-after.after ≡ after =
    c.loop-place.invariant.grows.stays c.in_ok-after.after c.in_ok-after.ensures.within ∙ c.in_ok-after.ensures.is in
    going-even family c.args.max c.args.lines.now c.args.at c.in-Some-place.to id (stack_by search.pool c.in-Some-index.own) after line
    now.pool now.stacks.items now.todo turn
    (going-to line c.items-place-items.result.now c.loop-place.place-index c.in-Some-place.to
    c.items-place-items.ensures c.loop-place-test.true c.in-Some-place.is)
    c.loop-place.invariant.found some
    ∙ ap (λ (s : List Held). length s) (sym stays)

pub loop-place-preserved : goal.loop-place-preserved
loop-place-preserved g c =
    let family = g.P.Parents.family c.args.parents.now in
    let lawful = g.met.P.Parents.lawful c.args.parents.now in
    let search = c.args.search.now in
    let now = c.loop-place.search in
    let new = c.meet.new.search in
    let line = c.in-Some.line.now in
    let less = stack-within c.args.lines.now c.args.at line search.pool search.stacks.items (sym c.in-Some.ensures)
    c.requires.sought.sized in
    let law = c.merging_is_least.ensures in
    let after : List Held = stack_after line.effect (stack_by search.pool c.in-Some-index.own) in
    let turn : IsTurn family c.args.max c.args.lines.now c.args.at (stack_by search.pool c.in-Some-index.own) after line =
    turn-of family c.args.max c.args.lines.now c.args.at c.in-Some-index.own line after search.pool search.stacks.items search.todo
    (merging-of family lawful law.reflexive law.transitive law.antisymmetric law.above_both law.least)
    (c.stacks_rise.ensures family lawful) c.requires.clear (sym c.in-Some.ensures)
    (read search.stacks.items c.args.at c.index.result.now less c.index.ensures ∙ c.in-Some-index.is) c.requires.sought refl in
    let ranks : AreRanks family = record {
      falls = c.rank_falls_upwards.ensures.falls family lawful;
      small = c.rank_falls_upwards.ensures.small family;
    } in
    going-next family c.args.max c.args.lines.now c.args.at c.in-Some-place.to c.in_ok-after.after
    (stack_by search.pool c.in-Some-index.own) after line c.items-place-items.result.now c.loop-place.place-index
    c.stack_after.new.pool now.pool new.pool now.joins new.joins now.stacks.items new.stacks.items now.todo new.todo
    (weights family c.args.max (stacks_by search.pool search.stacks.items) + length search.todo)
    turn ranks c.requires.inside c.items-place-items.ensures c.loop-place-test.true c.in-Some-place.is
    c.in_ok-after.ensures.is c.in_ok-after.ensures.within c.loop-place.invariant
    c.in_ok-meet.ensures.sound c.in_ok-meet.ensures.grows c.in_ok-meet.ensures.sized c.in_ok-meet.ensures.met

pub returns-clause-sought : goal.returns-clause-sought
returns-clause-sought g c =
    let search = c.args.search.now in
    let now = c.loop-place.search in
    going-last (g.P.Parents.family c.args.parents.now) c.args.max c.args.lines.now c.args.at (stack_by search.pool c.in-Some-index.own)
    c.items-place-items.result.now c.loop-place.place-index c.stack_after.new.pool now.pool now.joins now.stacks.items now.todo
    (weights (g.P.Parents.family c.args.parents.now) c.args.max (stacks_by search.pool search.stacks.items) + length search.todo)
    c.loop-place-test.false c.loop-place.invariant
