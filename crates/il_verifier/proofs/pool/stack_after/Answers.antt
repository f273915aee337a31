use Rattle.std.proofs.Common.{◌≡◌, ℕ, ◌-◌, ◌++◌, [], List, map, length, take, ap, subst, ◌∙◌}
use Rattle.il_flow.specs.Merging.{Held}
use Rattle.il_verifier.specs.declared.effect.Effect.{Effect}
use Rattle.il_verifier.specs.declared.effect.Gift.{Gift}
use Rattle.il_verifier.specs.Effects.{takes, given, operands_on, stack_after}
use Rattle.il_verifier.specs.Pools.{stack_by, IsMade}
use Rattle.il_verifier.proofs.Oks.{if-then}
use Rattle.il_verifier.proofs.pool.stack_after.Goals as goal

-- gifts of which the types are told without the operands
told : (effect : Effect) (stack low : List Held) (n : ℕ) (gives : List Gift) → n ≡ takes effect.operands →
    low ≡ take (length stack - n) stack → gives ≡ effect.gives →
    ((operands : List Held) → map (given []) gives ≡ map (given operands) gives) →
    low ++ map (given []) gives ≡ stack_after effect stack
told effect stack low n gives count beneath is same =
    let operands = operands_on effect stack in
    ap (λ (helds : List Held). low ++ helds) (same operands)
    ∙ (ap (λ (gifts : List Gift). low ++ map (given operands) gifts) is
    ∙ ap (λ (under : List Held). under ++ map (given operands) effect.gives)
    (beneath ∙ ap (λ (k : ℕ). take (length stack - k) stack) count))

pub returns-then-are_told : goal.returns-then-are_told
returns-then-are_told c =
    let pool = c.args.pool.now in
    let new = c.push_gifts.new.pool in
    let made = told c.args.effect.now (stack_by pool c.args.id) (stack_by pool c.beneath-low.result) c.takes.result
    c.items-gives.result.now c.takes.ensures c.beneath-low.ensures.beneath c.items-gives.ensures
    (c.are_told.ensures c.if-are_told.true) in
    if-then c.push_gifts.result (λ (id : ℕ) is. subst (λ (stack : List Held). IsMade pool new stack id) made is) c.push_gifts.ensures
