-- How far a thread's run is (own).
use Rattle.std.specs.Prelude.{ℕ, ◌≡◌, ◌<◌, ◌≤◌, ◌+◌, ◌^◌, Bool, true, false, List, [], ◌∷◌, ◌++◌, length, map, sum_by, slice_get, All, Option, Some, IsSome}
use Rattle.std.specs.Option.{option_to_list}
use Rattle.host_events.specs.declared.event.Event.{Event}
use Rattle.host_events.specs.declared.event.Event.TheVariants as events
use Rattle.host_events.specs.declared.flow.Next.{Next}
use Rattle.host_events.specs.declared.order.Answer.{Answer}
use Rattle.host_events.specs.declared.order.CodeOf.{CodeOf}
use Rattle.host_events.specs.declared.order.Order.{Order}
use Rattle.host_events.specs.declared.outcome.CommandEnd.{CommandEnd}
use Rattle.host_events.specs.declared.outcome.Outcome.{Outcome}
use Rattle.host_events.specs.declared.reply.Reply.{Reply}
use Rattle.host_events.specs.Asking.{Asking, Ending, IsWay, asks}
use Rattle.host_events.specs.Flows.{Gives, IsResumable, Stand, stand_after, trace_after}
use Rattle.host_events.specs.Operations.{open_in}
use Rattle.host_events.specs.Steps.{Step, AgreeWith, step_of, without_codes}
use Rattle.host_events.specs.Task.{give, ◌>>=◌}
use Rattle.bind_flow.specs.declared.images.ImageCode.{ImageCode}
use Rattle.bind_flow.specs.Binds.{binds}
use Rattle.bind_flow.specs.Flow.{CanCome, world_of}
use Rattle.bind_flow.specs.Images.{World}
use Rattle.bind_flow.specs.State.{Bind, is_publication, stand_of}
use Rattle.host_script.specs.declared.command.Command.{Command}
use Rattle.command_flow.specs.declared.run.At.{At}
use Rattle.command_flow.specs.declared.run.At.TheVariants as places
use Rattle.command_flow.specs.declared.run.Told.{Told}
use Rattle.command_flow.specs.declared.turn.Turn.{Turn}
use Rattle.command_flow.specs.declared.turn.Turn.TheVariants as turns
use Rattle.command_flow.specs.declared.turn.Wait.{Wait}
use Rattle.command_flow.specs.declared.turn.Wait.TheVariants as waits
use Rattle.command_flow.specs.Events.{is_built}
use Rattle.command_flow.specs.Flow.{HasImage, IsAsked, IsEnd, Plan, is_bind, most_events, progress_of}
use Rattle.command_flow.specs.Run.{end_of, with_end, most_within, loads, runs, runs_all, within_limit}
use Rattle.command_flow.specs.Turns.{IsLoad, first_event, first_wait, work_in}

-- The plan, the trace so far, how the commands ended so far, and how far the run is. Contracts see a run so.
pub record Running : Type 0 where
  pub plan : Plan
  pub trace : List Step
  pub ends : List CommandEnd
  pub at : At

-- a run that was not yet resumed
abbrev pub fresh_run : Plan → Running
fresh_run plan = record { plan = plan; trace = []; ends = []; at = places.Fresh }

abbrev pub step_told : Told → Step
step_told told = step_of told.order.value.event told.answer.value.reply told.answer.value.code

abbrev pub steps_told : List Told → List Step
steps_told told = map step_told told

abbrev pub stand_at : At → Stand (Order ImageCode)
stand_at places.Fresh = Stand.Fresh
stand_at (places.Waits wait order) = Stand.Waiting order.value
stand_at places.Ended = Stand.Ended
stand_at places.WithoutMemory = Stand.WithoutMemory

-- what is left of a thread whose commands before these have ended so
abbrev pub goes_on : World → List Command → List CommandEnd → Asking (List CommandEnd)
goes_on world [] ends = give ends
goes_on world (command ∷ later) ends = do
  end ← with_end (runs world command)
  goes_on world later (ends ++ end ∷ [])

-- what is left of a thread with a command under way, of which this is left
abbrev pub ends_later : World → List Command → List CommandEnd → Asking Outcome → Asking (List CommandEnd)
ends_later world later ends command = do
  end ← with_end command
  goes_on world later (ends ++ end ∷ [])

-- what is left of an operation whose work has ended so
abbrev pub leaves : ℕ → Outcome → Asking Outcome
leaves k outcome = do
  _ ← asks (events.Leave k)
  give outcome

-- what is left of an operation with this work
abbrev pub works : ℕ → Asking ℕ → Asking Outcome
works k work = within_limit work >>= leaves k

-- After the trace just so much is left of the thread, whatever the assemblies are that the codes tell.
abbrev pub IsLeft : Plan → List Step → (World → Asking (List CommandEnd)) → Type 0
IsLeft plan trace left =
    (assemblies : ℕ → Option CodeOf) → AgreeWith assemblies trace →
    (more : List (Event × Reply)) (end : Ending (List CommandEnd)) → IsWay (left (world_of assemblies plan.images)) more end →
    IsWay (runs_all (world_of assemblies plan.images) plan.commands) (without_codes trace ++ more) end

-- These commands have ended, and no other is under way.
pub record IsBetween (plan : Plan) (trace : List Step) (ends : List CommandEnd) : Type 0 where
  pub done : List Command
  pub rest : List Command
  pub parted : plan.commands ≡ done ++ rest
  pub counted : length done ≡ length ends
  pub left : IsLeft plan trace (λ world. goes_on world rest ends)
  pub place : progress_of trace ≡ record { ended = length ends; own = [] }
  pub closed : open_in (without_codes trace) ≡ []
  pub few : length trace ≤ sum_by most_events done

-- A command is under way, of which this is left. It has made so many events.
pub record IsUnderWay (plan : Plan) (trace : List Step) (ends : List CommandEnd) (command : Command) (rest_of : World → Asking Outcome) (own : ℕ) : Type 0 where
  pub done : List Command
  pub rest : List Command
  pub parted : plan.commands ≡ done ++ command ∷ rest
  pub counted : length done ≡ length ends
  pub left : IsLeft plan trace (λ world. ends_later world rest ends (rest_of world))
  pub few : length trace ≤ sum_by most_events done + own

-- the thread waits for the reply to the first event of its next command
pub record IsStarting (plan : Plan) (trace : List Step) (ends : List CommandEnd) (wait : Wait) (event : Event) : Type 0 where
  pub between : IsBetween plan trace ends
  pub command : Command
  pub here : slice_get plan.commands (length ends) ≡ Some command
  pub first : first_event command ≡ Some event
  pub waits : first_wait command ≡ wait

-- The thread is within its operation k, in which these steps of its work were made.
pub record IsInside (plan : Plan) (trace : List Step) (ends : List CommandEnd) (k : ℕ) (inner : List Step) (work : World → Asking ℕ) (bind : Bool) : Type 0 where
  pub outer : List Step
  pub parted : trace ≡ outer ++ inner
  pub command : Command
  pub under_way : IsUnderWay plan outer ends command (λ world. works k (work world)) 1
  pub most : most_events command ≡ most_within + 2
  pub first : Step
  pub unpublished : is_publication first.event ≡ false
  pub place : progress_of trace ≡ record { ended = length ends; own = first ∷ inner }
  pub opened : open_in (without_codes trace) ≡ k ∷ []
  pub bound : is_bind (slice_get plan.commands (length ends)) ≡ bind

-- The thread is within its operation k, whose work has ended so.
pub record IsLeaving (plan : Plan) (trace : List Step) (ends : List CommandEnd) (k : ℕ) (outcome : Outcome) : Type 0 where
  pub command : Command
  pub under_way : IsUnderWay plan trace ends command (λ world. leaves k outcome) (most_within + 1)
  pub most : most_events command ≡ most_within + 2
  pub first : Step
  pub later : List Step
  pub place : progress_of trace ≡ record { ended = length ends; own = first ∷ later }
  pub opened : open_in (without_codes trace) ≡ k ∷ []

-- The thread has just begun its operation k in this context.
pub record IsEntered (plan : Plan) (trace : List Step) (ends : List CommandEnd) (k c : ℕ) : Type 0 where
  pub command : Command
  pub here : slice_get plan.commands (length ends) ≡ Some command
  pub waits : first_wait command ≡ waits.Enter
  pub inside : IsInside plan trace ends k [] (work_in command c) (is_bind (Some command))

-- the thread waits for the reply to the publication of the image that it loads
pub record IsLoading (plan : Plan) (trace : List Step) (ends : List CommandEnd) (k : ℕ) (order : Order ImageCode) : Type 0 where
  pub context : ℕ
  pub image : ℕ
  pub inside : IsInside plan trace ends k [] (λ world. loads world image context) false
  pub load : IsLoad plan.images context image order

-- an event of the work within an operation
abbrev pub is_inner : Event → Bool
is_inner (events.Lookup context name version) = true
is_inner (events.Ask step context name) = true
is_inner (events.Publish context name candidate) = true
is_inner _ = false

-- the thread waits for the reply to an event of a bind
pub record IsBinding (plan : Plan) (trace : List Step) (ends : List CommandEnd) (k count : ℕ) (flow : Bind) (order : Order ImageCode) : Type 0 where
  pub inside : IsInside plan trace ends k flow.trace (λ world. binds world flow.plan.wanted) true
  pub images : flow.plan.images ≡ plan.images
  pub waits : stand_of flow ≡ Stand.Waiting order
  pub inner : is_inner order.event ≡ true
  pub counted : count ≡ length flow.trace
  pub below : count < most_within

-- the trace of a bind once it has the answer
abbrev pub bound_trace : Bind → Option Answer → List Step
bound_trace flow last =
    trace_after (λ (o : Order ImageCode). o.event) (λ (a : Answer). a.reply) (λ (a : Answer). a.code) flow.trace (stand_of flow) last

-- a bind can go on so
pub record CanResume (plan : Plan) (trace : List Step) (ends : List CommandEnd) (k count : ℕ) (flow : Bind) (last : Option Answer) : Type 0 where
  pub inside : IsInside plan trace ends k (bound_trace flow last) (λ world. binds world flow.plan.wanted) true
  pub images : flow.plan.images ≡ plan.images
  pub takes : IsResumable (CanCome flow.plan.images flow.trace) (λ (a : Answer). a.reply) (λ (a : Answer). a.code) (stand_of flow) last
  pub counted : count ≡ length (bound_trace flow last)
  pub within : count ≤ most_within
  pub agrees : (assemblies : ℕ → Option CodeOf) × AgreeWith assemblies (bound_trace flow last)

-- the thread may wait so for the reply to the order
abbrev pub CanWait : Plan → List Step → List CommandEnd → Wait → Order ImageCode → Type 0
CanWait plan trace ends waits.Event order = IsStarting plan trace ends waits.Event order.event
CanWait plan trace ends waits.Enter order = IsStarting plan trace ends waits.Enter order.event
CanWait plan trace ends (waits.Load k) order = IsLoading plan trace ends k order
CanWait plan trace ends (waits.Bind k count flow) order = IsBinding plan trace ends k count flow order
CanWait plan trace ends (waits.Leave k outcome) order = IsLeaving plan trace ends k outcome × (order.event ≡ events.Leave k)

-- the thread may go on so
abbrev pub CanGo : Plan → List Step → List CommandEnd → Turn → Type 0
CanGo plan trace ends (turns.Ends outcome) = IsBetween plan trace (ends ++ end_of outcome ∷ [])
CanGo plan trace ends (turns.Begins k c) = IsEntered plan trace ends k c
CanGo plan trace ends (turns.Binds k count flow answer) = CanResume plan trace ends k count flow (Some answer)
CanGo plan trace ends (turns.Leaves k outcome) = IsLeaving plan trace ends k outcome

-- the thread has asked for nothing, or waits for the answer to an order and has room for it
abbrev pub StandsAt : Plan → List Step → List CommandEnd → At → ℕ → ℕ → Type 0
StandsAt plan trace ends places.Fresh count capacity = (trace ≡ []) × (ends ≡ [])
StandsAt plan trace ends (places.Waits wait order) count capacity = CanWait plan trace ends wait order.value × (count < capacity)
StandsAt plan trace ends places.Ended count capacity = Unit {0}
StandsAt plan trace ends places.WithoutMemory count capacity = Unit {0}

-- What the run's type keeps: its commands can be run, the operation that is open is known, and what it waits for
-- is due.
pub record IsKeptUp (plan : Plan) (trace : List Step) (ends : List CommandEnd) (within : Option ℕ) (at : At) (count capacity : ℕ) : Type 0 where
  pub few : length plan.commands < 2 ^ 32
  pub built : All (λ command. is_built command ≡ true) plan.commands
  pub there : All (HasImage plan.images) plan.commands
  pub opened : open_in (without_codes trace) ≡ option_to_list within
  pub fewer : IsSome within → length trace < sum_by most_events plan.commands
  pub stands : StandsAt plan trace ends at count capacity

-- A run of this plan has gone on after the trace, and gave this.
pub record Moves (plan : Plan) (trace : List Step) (run : Running) (next : Next (Order ImageCode) (List CommandEnd)) : Type 0 where
  pub kept : run.plan ≡ plan
  pub told : run.trace ≡ trace
  pub stands : stand_at run.at ≡ stand_after next
  pub gives : Gives (IsAsked plan trace) (IsEnd plan trace) next
