use Rattle.std.proofs.Common.{subst}
use Rattle.host_threads.specs.Counted.{IsCounted}
use Rattle.host_threads.proofs.fakes.CounterKept.keeps.Goals as goal

pub returns : goal.returns
returns c = subst (λ v. IsCounted v.0 v.1) c.self.view_is c.self.invariant.0
