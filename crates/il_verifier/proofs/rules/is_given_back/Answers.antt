use Rattle.std.proofs.Common.{◌↔◌, Option, IsTrue, sym, subst}
use Rattle.std.specs.Result.{IfOk}
use Rattle.il_flow.specs.declared.stack.StackType.{StackType}
use Rattle.il_verifier.specs.Faults.{IsGivenBack}
use Rattle.il_verifier.proofs.rules.is_given_back.Goals as goal

pub returns-in-Some : goal.returns-in-Some
returns-in-Some g c =
    subst (λ (given : Option StackType). IfOk c.gives_back.result
    (λ fits. IsTrue fits ↔ IsGivenBack (g.P.Parents.family c.args.parents.now) given c.args.stack.now))
    (sym c.in-Some.is) c.gives_back.ensures
