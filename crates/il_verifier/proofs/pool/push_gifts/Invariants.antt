use Rattle.std.proofs.Common.{◌++◌, map, take}
use Rattle.il_verifier.specs.Effects.{given}
use Rattle.il_verifier.specs.Pools.{stack_by, IsMade}
use Rattle.il_verifier.proofs.pool.push_gifts.Given as goal

-- the gifts so far are pushed
abbrev pub invariant-loop-gift : goal.invariant-loop-gift
invariant-loop-gift l =
    IsMade l.fn.pool l.pool (stack_by l.fn.pool l.below ++ map (given l.operands) (take l.gift-index l.gives)) l.top
