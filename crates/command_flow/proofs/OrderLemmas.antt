-- A thread's run has one way for its replies, and each of its events was due.
use Rattle.std.proofs.Common.{◌≡◌, ◌<◌, ◌≤◌, ◌+◌, ◌-◌, ◌∙◌, ℕ, zero, suc, inl, inr, refl, sym, ap, subst, List, [], ◌∷◌, ◌++◌, length, take, Option, Some, None, Ok, Err, arith, length-append}
use Rattle.std.proofs.Math.Seq.{take-append-add}
use Rattle.std.proofs.lemmas.List.{append-nil, append_cancel_left}
use Rattle.host_events.specs.declared.event.Event.{Event}
use Rattle.host_events.specs.declared.outcome.Outcome.{Outcome}
use Rattle.host_events.specs.declared.outcome.Outcome.TheVariants.{Replied}
use Rattle.host_events.specs.declared.reply.Reply.{Reply}
use Rattle.host_events.specs.declared.reply.Reply.TheVariants as replies
use Rattle.host_events.specs.Asking.{Asking, Ending}
use Rattle.host_events.specs.Task.{never}
use Rattle.host_events.specs.Task.Why.{Refused, Stopped}
use Rattle.host_events.specs.TaskLaws.{EndsTrace}
use Rattle.host_events.proofs.Tasks.{due_before, event_asked, exact-for_each, one_due, stops-for_each}
use Rattle.bind_flow.specs.Flow.{world_of}
use Rattle.bind_flow.specs.Images.{World, reading_at}
use Rattle.bind_flow.proofs.OrderLemmas.{InOrder, order-asks, order-binds, order-give, order-if_module, order-if_some, order-image_published, order-never, order-then}
use Rattle.host_script.specs.declared.command.Command.{Command}
use Rattle.host_script.specs.declared.command.Command.TheVariants as commands
use Rattle.command_flow.specs.Events.{event_of}
use Rattle.command_flow.specs.Laws.{CommandsInOrder, HasOneEnd}
use Rattle.command_flow.specs.Run.{ComesTo, with_end, entered, loads, most_within, operates, runs, runs_all, runs_event, within_limit}

-- what has an outcome is within the limit
few : (trace : List (Event × Reply)) (last : Ending ℕ) (end : Ending Outcome) → ComesTo trace last end → length trace ≤ most_within
few trace (Ok a) end told = told.0
few trace (Err (Refused refusal)) end told = told.0
few trace (Err (Stopped event)) end (inl told) = let fewer = told.0 in omega arith
few trace (Err (Stopped event)) end (inr told) = let all = told.0 in omega arith

-- of what comes after a trace, as much as the limit has room for
abbrev room_after : List (Event × Reply) → List (Event × Reply) → List (Event × Reply)
room_after trace rest = take (most_within - length trace) rest

limit_parts : (trace rest : List (Event × Reply)) → length trace ≤ most_within → take most_within (trace ++ rest) ≡ trace ++ room_after trace rest
limit_parts trace rest within =
    let all : most_within ≡ length trace + (most_within - length trace) = omega arith in
    ap (λ n. take n (trace ++ rest)) all ∙ take-append-add trace rest (most_within - length trace)

take_none : (n : ℕ) (rest : List (Event × Reply)) → rest ≡ [] → take n rest ≡ []
take_none zero rest none = refl
take_none (suc n) rest none = ap (take (suc n)) none

-- where the outcome ends the trace, the work within ends it in what the limit has room for
ends_within : (trace rest : List (Event × Reply)) (last : Ending ℕ) (end : Ending Outcome) → ComesTo trace last end → EndsTrace end rest →
    EndsTrace last (room_after trace rest)
ends_within trace rest (Ok a) end told ends = tt
ends_within trace rest (Err (Refused refusal)) end told ends = tt
ends_within trace rest (Err (Stopped event)) end (inl told) ends =
    take_none (most_within - length trace) rest (subst (λ (e : Ending Outcome). EndsTrace e rest) told.1 ends)
ends_within trace rest (Err (Stopped event)) end (inr told) ends =
    let none : most_within - length trace ≡ 0 = let all = told.0 in omega arith in
    ap (λ n. take n rest) none

-- what the work comes to has one outcome
one_outcome : (trace : List (Event × Reply)) (work : Ending ℕ) (end last : Ending Outcome) → ComesTo trace work end → ComesTo trace work last → end ≡ last
one_outcome trace (Ok a) end last told also = told.1 ∙ sym also.1
one_outcome trace (Err (Refused refusal)) end last told also = told.1 ∙ sym also.1
one_outcome trace (Err (Stopped event)) end last (inl told) (inl also) = told.1 ∙ sym also.1
one_outcome trace (Err (Stopped event)) end last (inl told) (inr also) = let fewer = told.0 in let all = also.0 in absurd (omega arith)
one_outcome trace (Err (Stopped event)) end last (inr told) (inl also) = let all = told.0 in let fewer = also.0 in absurd (omega arith)
one_outcome trace (Err (Stopped event)) end last (inr told) (inr also) = told.1 ∙ sym also.1

module _ (work : Asking ℕ) (order : InOrder work) where
  -- Of two ways whose traces go on as each other, the work's ways do so up to the limit.
  limit_one : (before first second : Unit {0}) (own other rest more : List (Event × Reply)) (end last : Ending Outcome) →
      ((came : Ending ℕ) × work before own first came × ComesTo own came end) →
      ((came : Ending ℕ) × work before other second came × ComesTo other came last) →
      own ++ rest ≡ other ++ more → EndsTrace end rest → EndsTrace last more → (own ≡ other) × (first ≡ second) × (end ≡ last)
  limit_one before first second own other rest more end last (p, way, told) (q, also, said) same ends lasts =
      let parts : own ++ room_after own rest ≡ other ++ room_after other more =
      sym (limit_parts own rest (few own p end told)) ∙ ap (take most_within) same ∙ limit_parts other more (few other q last said) in
      let one : (own ≡ other) × (first ≡ second) × (p ≡ q) =
      order.exact.one before first second own other (room_after own rest) (room_after other more) p q way also parts
      (ends_within own rest p end told ends) (ends_within other more q last said lasts) in
      let too : ComesTo other q end =
      subst (λ (t : List (Event × Reply)). ComesTo t q end) one.0 (subst (λ (e : Ending ℕ). ComesTo own e end) one.2 told) in
      (one.0, one.1, one_outcome other q end last too said)

  -- Before a step of a way there is room for one event more.
  limit_stops : (before after : Unit {0}) (own more : List (Event × Reply)) (step : Event × Reply) (end : Ending Outcome) →
      ((came : Ending ℕ) × work before (own ++ step ∷ more) after came × ComesTo (own ++ step ∷ more) came end) →
      (there : Unit {0}) × ((came : Ending ℕ) × work before own there came × ComesTo own came (Err (Stopped (event_asked step))))
  limit_stops before after own more step end (p, way, told) =
      let stopped : (there : Unit {0}) × work before own there (Err (Stopped (event_asked step))) = order.stops.stops before after own more step p way in
      let fewer : length own < most_within = let all = few (own ++ step ∷ more) p end told in omega (arith, length-append own (step ∷ more)) in
      (stopped.0, (Err (Stopped (event_asked step)), stopped.1, inl (fewer, refl)))

  order-within_limit : InOrder (within_limit work)
  unfolding within_limit
  order-within_limit = record { exact = record { one = limit_one }; stops = record { stops = limit_stops } }

order-entered : (work : ℕ → Asking ℕ) (reply : Reply) → ((context : ℕ) → InOrder (work context)) → InOrder (entered work reply)
order-entered work (replies.Entered k c) works =
    order-then (within_limit (work c)) _ (order-within_limit (work c) (works c)) (λ outcome. order-asks _ _ (λ left. order-give outcome))
order-entered work reply works = order-give (Replied reply)

order-operates : (context : List ℕ) (work : ℕ → Asking ℕ) → ((c : ℕ) → InOrder (work c)) → InOrder (operates context work)
order-operates context work works = order-asks _ _ (λ reply. order-entered work reply works)

pub order-loads : (world : World) (image context : ℕ) → InOrder (loads world image context)
order-loads world image context =
    order-if_some (reading_at world.images image) _ never
    (λ reading. order-if_module _ reading (λ m. order-asks _ _ order-image_published)) order-never

order-runs_event : (event : Option Event) → InOrder (runs_event event)
order-runs_event None = order-never
order-runs_event (Some event) = order-asks _ _ (λ reply. order-give (Replied reply))

order-runs : (world : World) (command : Command) → InOrder (runs world command)
order-runs world (commands.Load context image) = order-operates context _ (order-loads world image)
order-runs world (commands.Bind context name version) =
    order-operates context _ (λ c. order-binds world (record { context = c; name = name; version = version }))
order-runs world command = order-runs_event (event_of command)

order-with_end : (command : Asking Outcome) → InOrder command → InOrder (with_end command)
order-with_end command order = order-then command _ order (λ outcome. order-give _)

-- the run of a thread has one way for its replies, and each of its events was due
pub order-runs_all : (world : World) (given : List Command) → InOrder (runs_all world given)
order-runs_all world given = record {
  exact = exact-for_each _ given (λ command. (order-with_end (runs world command) (order-runs world command)).exact);
  stops = stops-for_each event_asked _ given (λ command. (order-with_end (runs world command) (order-runs world command)).stops);
}

pub one_end_each : HasOneEnd
one_end_each given assemblies images trace more ends others run whole =
    let one = (order-runs_all (world_of assemblies images) given).exact.one tt tt tt trace (trace ++ more) more [] (Ok ends) (Ok others) run whole
    (sym (append-nil (trace ++ more))) tt tt in
    let none : [] ≡ more = append_cancel_left trace [] more (append-nil trace ∙ one.0) in
    let told = one.2 in
    (sym none, cc)

pub in_order_each : CommandsInOrder
in_order_each given assemblies images before event reply after ends run =
    let task = runs_all (world_of assemblies images) given in
    let order = order-runs_all (world_of assemblies images) given in
    let due = due_before task order.stops before after (event, reply) (Ok ends) run in
    (due, λ other also. one_due task order.exact before other event also due)
