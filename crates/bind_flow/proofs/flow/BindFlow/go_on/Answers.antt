use Rattle.std.proofs.Common.{sym, subst}
use Rattle.host_events.specs.declared.flow.Next.{Next}
use Rattle.host_events.specs.declared.order.Order.{Order}
use Rattle.host_events.specs.declared.outcome.Outcome.{Outcome}
use Rattle.host_events.specs.Flows.{Gives}
use Rattle.bind_flow.specs.declared.images.ImageCode.{ImageCode}
use Rattle.bind_flow.specs.declared.turn.Turn.{Turn}
use Rattle.bind_flow.specs.Flow.{IsAsked, IsEnd}
use Rattle.bind_flow.specs.State.{Bind, CanGo}
use Rattle.bind_flow.proofs.FlowLemmas.{IsEnd-found, IsEnd-refused}
use Rattle.bind_flow.proofs.flow.BindFlow.go_on.Goals as goal

pub returns-in-Found-clause-gives : goal.returns-in-Found-clause-gives
returns-in-Found-clause-gives c =
    let now = c.args.self.now in
    let end = IsEnd-found now.plan now.trace c.in-Found.assembly (subst (λ (turn : Turn). CanGo now.plan now.trace turn) c.in-Found.is c.requires.can) in
    subst (λ (flow : Bind). Gives (IsAsked flow.plan flow.trace) (IsEnd flow.plan flow.trace) c.end.result) (sym c.end.ensures.flow)
    (subst (λ (next : Next (Order ImageCode) Outcome). Gives (IsAsked now.plan now.trace) (IsEnd now.plan now.trace) next) (sym c.end.ensures.end) end)

pub returns-in-Refused-clause-gives : goal.returns-in-Refused-clause-gives
returns-in-Refused-clause-gives c =
    let now = c.args.self.now in
    let end = IsEnd-refused now.plan now.trace c.in-Refused.outcome (subst (λ (turn : Turn). CanGo now.plan now.trace turn) c.in-Refused.is c.requires.can) in
    subst (λ (flow : Bind). Gives (IsAsked flow.plan flow.trace) (IsEnd flow.plan flow.trace) c.end-in-Refused.result) (sym c.end-in-Refused.ensures.flow)
    (subst (λ (next : Next (Order ImageCode) Outcome). Gives (IsAsked now.plan now.trace) (IsEnd now.plan now.trace) next) (sym c.end-in-Refused.ensures.end) end)
