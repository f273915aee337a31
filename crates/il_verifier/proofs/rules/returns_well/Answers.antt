use Rattle.std.proofs.Common.{Bool, ◌∙◌}
use Rattle.il_verifier.specs.Pools.{stack_by}
use Rattle.il_verifier.proofs.Oks.{if-then}
use Rattle.il_verifier.proofs.Tops.{returns-same}
use Rattle.il_verifier.proofs.rules.returns_well.Goals as goal

pub returns : goal.returns
returns g c =
    let same = returns-same (g.P.Parents.family c.args.parents.now) c.args.operands.now (stack_by c.args.pool.now c.args.id)
    c.deref.result.now (c.deref.ensures.value ∙ c.in_ok-top.ensures) in
    if-then c.returns.result (λ (fits : Bool) is. (λ h. same.0 (is.0 h), λ h. is.1 (same.1 h))) c.returns.ensures
