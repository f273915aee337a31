use Rattle.std.proofs.Common.{◌≡◌, ◌<◌, ◌++◌, ◌∷◌, [], length, None, inl, inr, refl, ap, sym, subst, ◌∙◌, arith}
use Rattle.std.specs.List.{slice_get}
use Rattle.std.proofs.lemmas.List.{length_push, map-id}
use Rattle.std.proofs.lemmas.Option.{slice_get_read, slice_get_within}
use Rattle.std.proofs.lemmas.Iterator.Adapters.{YieldsList-from_vec}
use Rattle.std.proofs.lemmas.Iterator.Consumers.{YieldsList-turn, YieldsList-end}
use Rattle.host_events.specs.Flows.{trace_after, stand_after, Gives}
use Rattle.host_threads.specs.declared.seat.Seat.{Seat}
use Rattle.host_threads.proofs.Places.{slice_get-push_cases}
use Rattle.host_threads.proofs.seed.begin.Goals as goal

pub loop-flow-preserved : goal.loop-flow-preserved
loop-flow-preserved g c =
    let turn = YieldsList-turn (YieldsList-from_vec c.args.flows.items (cc) (cc c.args.flows.ok.0)) c.loop-flow.yielded c.loop-flow.flow-iterator c.loop-flow.yielded_by c.next.result c.next.new.self c.in-Some.flow c.in-Some.is c.next.ensures.steps in
    let now = c.in-Some.flow in
    let at = slice_get_read c.args.flows.items (length c.args.flows.items) (length c.loop-flow.yielded) now refl turn.0 turn.1 in
    let fresh = c.requires (length c.loop-flow.yielded) now at in
    let one : Seat g.row.L.Denot g.row.L-Order.Denot g.row.L-End.Denot = record { flow = c.resume-next.new.self; next = c.resume-next.result } in
    let pushed : c.push.new.self.items ≡ c.loop-flow.seats.items ++ one ∷ [] = c.in_ok-push.ensures.items in
    let plan : g.L.Flow.plan one.flow ≡ g.L.Flow.plan now = c.resume-next.ensures.plan in
    let trace : g.L.Flow.trace one.flow ≡ [] =
    c.resume-next.ensures.trace
    ∙ ap (λ t. trace_after g.L.Order.HasEvent.event g.L.Answer.HasReply.reply g.L.Answer.HasReply.code t (g.L.Flow.stand now) None) fresh.1
    ∙ ap (λ s. trace_after g.L.Order.HasEvent.event g.L.Answer.HasReply.reply g.L.Answer.HasReply.code [] s None) fresh.0 in
    let gives : Gives (g.L.Flow.Asks (g.L.Flow.plan now) []) (g.L.Flow.Ends (g.L.Flow.plan now) []) one.next =
    subst (λ t. Gives (g.L.Flow.Asks (g.L.Flow.plan now) t) (g.L.Flow.Ends (g.L.Flow.plan now) t) one.next) trace
    (subst (λ p. Gives (g.L.Flow.Asks p (g.L.Flow.trace one.flow)) (g.L.Flow.Ends p (g.L.Flow.trace one.flow)) one.next) plan c.resume-next.ensures.gives) in
    let same : length c.loop-flow.seats.items ≡ length c.loop-flow.yielded = c.loop-flow.invariant.0 in (
      omega (arith, length_push c.loop-flow.yielded now, length_push c.loop-flow.seats.items one, ap length pushed),
      λ i flow seat at_flow at_seat. elim (slice_get-push_cases c.loop-flow.yielded now flow i at_flow) [
        | inl before ↦
            let within : i < length c.loop-flow.yielded = slice_get_within c.loop-flow.yielded i flow before in
            elim (slice_get-push_cases c.loop-flow.seats.items one seat i (ap (λ s. slice_get s i) (sym pushed) ∙ at_seat)) [
              | inl seat_before ↦ c.loop-flow.invariant.1 i flow seat before seat_before
              | inr here ↦ let last : i ≡ length c.loop-flow.seats.items = here.0 in absurd (omega arith)
            ]
        | inr here ↦
            let last : i ≡ length c.loop-flow.yielded = here.0 in
            elim (slice_get-push_cases c.loop-flow.seats.items one seat i (ap (λ s. slice_get s i) (sym pushed) ∙ at_seat)) [
              | inl seat_before ↦ let within : i < length c.loop-flow.seats.items = slice_get_within c.loop-flow.seats.items i seat seat_before in absurd (omega arith)
              | inr seat_here ↦
                  subst (λ (f : g.row.L.Denot). (g.L.Flow.plan seat.flow ≡ g.L.Flow.plan f) × (g.L.Flow.trace seat.flow ≡ []) × (g.L.Flow.stand seat.flow ≡ stand_after seat.next) × Gives (g.L.Flow.Asks (g.L.Flow.plan f) []) (g.L.Flow.Ends (g.L.Flow.plan f) []) seat.next) here.1
                  (subst (λ (s : Seat g.row.L.Denot g.row.L-Order.Denot g.row.L-End.Denot). (g.L.Flow.plan s.flow ≡ g.L.Flow.plan now) × (g.L.Flow.trace s.flow ≡ []) × (g.L.Flow.stand s.flow ≡ stand_after s.next) × Gives (g.L.Flow.Asks (g.L.Flow.plan now) []) (g.L.Flow.Ends (g.L.Flow.plan now) []) s.next) seat_here.1
                  (plan, trace, c.resume-next.ensures.stand, gives))
            ]
      ],
    )

pub returns-clause-begun : goal.returns-clause-begun
returns-clause-begun g c =
    let end = YieldsList-end (YieldsList-from_vec c.args.flows.items (cc) (cc c.args.flows.ok.0)) c.loop-flow.yielded c.loop-flow.flow-iterator c.loop-flow.yielded_by c.next.result c.next.new.self c.in-None.is c.next.ensures.steps in
    let all : c.loop-flow.yielded ≡ c.args.flows.items = sym (map-id c.loop-flow.yielded) ∙ end.0 in
    λ i flow seat at_flow at_seat.
    c.loop-flow.invariant.1 i flow seat (ap (λ fs. slice_get fs i) all ∙ at_flow) at_seat
