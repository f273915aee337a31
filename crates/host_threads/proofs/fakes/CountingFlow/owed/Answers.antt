use Rattle.std.proofs.Common.{◌≡◌, ◌∙◌, ap, sym, false}
use Rattle.host_events.specs.Operations.{open_in}
use Rattle.host_events.specs.Steps.{without_codes}
use Rattle.host_threads.specs.Counted.{counted_steps}
use Rattle.host_threads.proofs.CountedLemmas.{open_in-counted}
use Rattle.host_threads.proofs.fakes.CountingFlow.owed.Goals as goal

pub returns-then-not-self : goal.returns-then-not-self
returns-then-not-self c =
    let v = c.args.self.now in
    let fails : v.1 ≡ false = ap (λ x. x.1) (sym c.self.view_is) ∙ c.if-not-self.true in
    ap (λ b. open_in (without_codes (counted_steps b v.2))) fails ∙ open_in-counted v.2
