use Rattle.std.proofs.Common.{◌≡◌, ℕ, ◌-◌, length, take, subst, arith}
use Rattle.il_verifier.specs.Pools.{stack_by}
use Rattle.il_verifier.proofs.Pools.{take-less, take-none}
use Rattle.il_verifier.proofs.pool.beneath.Goals as goal

pub loop-init : goal.loop-init
loop-init c = record { within = c.requires; beneath = take-none (stack_by c.args.pool.now c.args.id) }

pub below-low-requires : goal.below-low-requires
below-low-requires c = c.loop.invariant.within

pub loop-preserved : goal.loop-preserved
loop-preserved c = record {
  within = c.below-low.ensures.within;
  beneath = take-less (stack_by c.args.pool.now c.args.id) (stack_by c.args.pool.now c.loop.low)
      (stack_by c.args.pool.now c.below-low.result) c.loop.counter c.loop.invariant.beneath c.below-low.ensures.below;
}

pub returns-clause-within : goal.returns-clause-within
returns-clause-within c = c.loop.invariant.within

pub returns-clause-beneath : goal.returns-clause-beneath
returns-clause-beneath c =
    let all : c.loop.counter ≡ c.args.count = omega (arith, c.loop-test.false, c.loop.auto.counter-end) in
    subst (λ (n : ℕ). stack_by c.args.pool.now c.loop.low ≡ take (length (stack_by c.args.pool.now c.args.id) - n) (stack_by c.args.pool.now c.args.id))
    all c.loop.invariant.beneath
