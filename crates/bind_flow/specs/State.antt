-- How far the flow of a bind is (own).
use Rattle.std.specs.Prelude.{ℕ, ◌≡◌, ◌<◌, ◌&&◌, not, Bool, true, false, if◌then◌else◌, List, [], ◌++◌, map, Option}
use Rattle.std.specs.Arc.{arc_value}
use Rattle.std.specs.List.{filter_map, list_any}
use Rattle.assembly_image.specs.Reading.{FileReading}
use Rattle.host_events.specs.declared.event.Event.{Event}
use Rattle.host_events.specs.declared.event.Event.TheVariants as events
use Rattle.host_events.specs.declared.flow.Due.{Due}
use Rattle.host_events.specs.declared.flow.Due.TheVariants as dues
use Rattle.host_events.specs.declared.order.CodeOf.{CodeOf}
use Rattle.host_events.specs.declared.order.Order.{Order}
use Rattle.host_events.specs.declared.reply.Reply.{Reply}
use Rattle.host_events.specs.Asking.{Ending, IsWay}
use Rattle.host_events.specs.Flows.{Stand}
use Rattle.host_events.specs.Operations.{begun_operation}
use Rattle.host_events.specs.Steps.{Step, AgreeWith, step_of, without_codes}
use Rattle.bind_flow.specs.declared.flow.At.{At}
use Rattle.bind_flow.specs.declared.flow.At.TheVariants as places
use Rattle.bind_flow.specs.declared.flow.Told.{Told}
use Rattle.bind_flow.specs.declared.images.ImageCode.{ImageCode}
use Rattle.bind_flow.specs.declared.search.Search.{Search}
use Rattle.bind_flow.specs.declared.turn.Turn.{Turn}
use Rattle.bind_flow.specs.declared.turn.Turn.TheVariants as turns
use Rattle.bind_flow.specs.declared.turn.Wait.{Wait}
use Rattle.bind_flow.specs.declared.turn.Wait.TheVariants as waits
use Rattle.bind_flow.specs.Binds.{Wanted, binds}
use Rattle.bind_flow.specs.Flow.{Plan, world_of}
use Rattle.bind_flow.specs.Turns.{IsReady, event_at, left_of}

-- what is to be bound, and how the images read
abbrev pub wanted_of : Search → Wanted
wanted_of search = record { context = search.context; name = search.name; version = search.version }

abbrev pub images_of : Search → List FileReading
images_of search = arc_value search.images

abbrev pub plan_of : Search → Plan
plan_of search = record { wanted = wanted_of search; images = images_of search }

-- The plan, the trace so far, and how far the flow is. Contracts see a flow so.
pub record Bind : Type 0 where
  pub plan : Plan
  pub trace : List Step
  pub at : At

-- a flow that was not yet resumed
abbrev pub fresh : Plan → Bind
fresh plan = record { plan = plan; trace = []; at = places.Fresh }

abbrev pub step_told : Told → Step
step_told told = step_of told.order.value.event told.answer.reply told.answer.code

abbrev pub steps_told : List Told → List Step
steps_told told = map step_told told

abbrev pub stand_at : At → Stand (Order ImageCode)
stand_at places.Fresh = Stand.Fresh
stand_at (places.Waits wait order) = Stand.Waiting order.value
stand_at places.Ended = Stand.Ended
stand_at places.WithoutMemory = Stand.WithoutMemory

abbrev pub stand_of : Bind → Stand (Order ImageCode)
stand_of flow = stand_at flow.at

-- a test of whether an event is a publication
abbrev pub is_publication : Event → Bool
is_publication (events.Publish context name candidate) = true
is_publication _ = false

abbrev pub has_published : List Step → Bool
has_published trace = list_any (λ step. is_publication step.event) trace

-- the first publication of a bind is told apart from its other events
abbrev pub due_by : List Step → Event → Due
due_by trace event = if is_publication event && not (has_published trace) then dues.Publish else dues.Plain

abbrev pub due_with : List Step → Stand (Order ImageCode) → Due
due_with trace Stand.Fresh = dues.Plain
due_with trace (Stand.Waiting order) = due_by trace order.event
due_with trace Stand.Ended = dues.Plain
due_with trace Stand.WithoutMemory = dues.Plain

abbrev pub due_of : Bind → Due
due_of flow = due_with flow.trace (stand_of flow)

-- After the trace just so much is left of the bind, whatever the assemblies are that the codes tell.
abbrev pub IsLeft : Plan → List Step → Turn → Type 0
IsLeft plan trace turn =
    (assemblies : ℕ → Option CodeOf) → AgreeWith assemblies trace →
    (more : List (Event × Reply)) (end : Ending ℕ) → IsWay (left_of (world_of assemblies plan.images) plan.wanted turn) more end →
    IsWay (binds (world_of assemblies plan.images) plan.wanted) (without_codes trace ++ more) end

-- a publication was made before this one
abbrev pub is_second : Wait → Bool
is_second waits.Lookup = false
is_second (waits.Ask step) = false
is_second (waits.PublishDefault image) = false
is_second (waits.Publish candidate) = false
is_second (waits.Share a) = true

-- the flow may wait so after the trace
pub record CanWait (plan : Plan) (trace : List Step) (wait : Wait) : Type 0 where
  pub left : IsLeft plan trace (turns.Asks wait)
  pub ready : IsReady plan.images wait
  pub second : has_published trace ≡ is_second wait

-- the flow may go on so after the trace
abbrev pub CanGo : Plan → List Step → Turn → Type 0
CanGo plan trace (turns.Asks wait) = CanWait plan trace wait
CanGo plan trace (turns.Found a) = IsLeft plan trace (turns.Found a)
CanGo plan trace (turns.Refused outcome) = IsLeft plan trace (turns.Refused outcome)

-- the flow waits for the reply to this order, and has room for it
pub record IsWaiting (plan : Plan) (trace : List Step) (wait : Wait) (event : Event) (count capacity : ℕ) : Type 0 where
  pub can : CanWait plan trace wait
  pub asked : event ≡ event_at plan.wanted wait
  pub room : count < capacity

abbrev pub StandsAt : Plan → List Step → At → ℕ → ℕ → Type 0
StandsAt plan trace places.Fresh count capacity = trace ≡ []
StandsAt plan trace (places.Waits wait order) count capacity = IsWaiting plan trace wait order.value.event count capacity
StandsAt plan trace places.Ended count capacity = Unit {0}
StandsAt plan trace places.WithoutMemory count capacity = Unit {0}

-- What the flow's type keeps: no reply began an operation, and what it waits for is due.
pub record IsKeptUp (plan : Plan) (trace : List Step) (at : At) (count capacity : ℕ) : Type 0 where
  pub quiet : filter_map (λ step. begun_operation step.1) (without_codes trace) ≡ []
  pub stands : StandsAt plan trace at count capacity
