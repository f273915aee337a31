use Rattle.std.proofs.Common.{arith}
use Rattle.il_verifier.specs.Pools.{stack_by}
use Rattle.il_verifier.proofs.Pools.{top-off, none-off}
use Rattle.il_verifier.proofs.pool.below.Goals as goal

pub returns-in-Some : goal.returns-in-Some
returns-in-Some c =
    let on = c.in-Some.ensures in
    record {
      within = omega (arith, on.lesser, on.within);
      below = top-off (stack_by c.args.pool.now c.args.id) (stack_by c.args.pool.now c.in-Some.node.now.below)
          c.in-Some.node.now.held on.is;
    }

pub returns-in-None : goal.returns-in-None
returns-in-None c = record {
  within = c.requires;
  below = none-off (stack_by c.args.pool.now c.args.id) c.in-None.ensures.1;
}
