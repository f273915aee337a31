-- The meanings of the flow of a thread (own).
use Rattle.std.specs.Prelude.{ℕ, ◌≡◌, ◌<◌, ◌+◌, ◌&&◌, not, Bool, true, false, if◌then◌else◌, List, [], ◌∷◌, ◌++◌, Option, Some, None, IsSome, length, slice_get, sum_by}
use Rattle.assembly_image.specs.Reading.{FileReading}
use Rattle.bind_flow.specs.declared.images.ImageCode.{ImageCode}
use Rattle.bind_flow.specs.Flow.{world_of}
use Rattle.bind_flow.specs.Images.{reading_at}
use Rattle.bind_flow.specs.State.{has_published, is_publication}
use Rattle.host_events.specs.declared.event.Event.{Event}
use Rattle.host_events.specs.declared.event.Event.TheVariants as events
use Rattle.host_events.specs.declared.flow.Due.{Due}
use Rattle.host_events.specs.declared.flow.Due.TheVariants as dues
use Rattle.host_events.specs.declared.order.CodeOf.{CodeOf}
use Rattle.host_events.specs.declared.order.Order.{Order}
use Rattle.host_events.specs.declared.outcome.CommandEnd.{CommandEnd}
use Rattle.host_events.specs.Asking.{IsDue}
use Rattle.host_events.specs.Flows.{Stand}
use Rattle.host_events.specs.Operations.{begun_operation, is_command, open_in}
use Rattle.host_events.specs.Steps.{Step, AgreeWith, without_codes}
use Rattle.host_script.specs.declared.command.Command.{Command}
use Rattle.host_script.specs.declared.command.Command.TheVariants as commands
use Rattle.command_flow.specs.Events.{named_image}
use Rattle.command_flow.specs.Orders.{IsOrder}
use Rattle.command_flow.specs.Run.{RunsThread, most_within, runs_all}

-- what a thread is to do: its commands, and how the images of the run read
pub record Plan : Type 0 where
  pub commands : List Command
  pub images : List FileReading

-- The plan, the trace so far, and the stand. Contracts see a flow so.
pub record Thread : Type 0 where
  pub plan : Plan
  pub trace : List Step
  pub stand : Stand (Order ImageCode)

-- the image that the command names, if any, is one of these
abbrev pub HasImage : List FileReading → Command → Type 0
HasImage images command = (image : ℕ) → named_image command ≡ Some image → IsSome (reading_at images image)

-- a flow that was not yet resumed
abbrev pub fresh : Plan → Thread
fresh plan = record { plan = plan; trace = []; stand = Stand.Fresh }

-- After the trace the order is that of the event that is due, whatever the assemblies are that the codes tell.
pub record IsAsked (plan : Plan) (trace : List Step) (order : Order ImageCode) : Type 0 where
  pub due : (assemblies : ℕ → Option CodeOf) → AgreeWith assemblies trace →
      IsDue (runs_all (world_of assemblies plan.images) plan.commands) (without_codes trace) order.event
  pub brings : IsOrder plan.images order

-- The trace is a whole run of the commands with these ends, whatever the assemblies are that the codes tell.
abbrev pub IsEnd : Plan → List Step → List CommandEnd → Type 0
IsEnd plan trace ends =
    (assemblies : ℕ → Option CodeOf) → AgreeWith assemblies trace →
    RunsThread plan.commands assemblies plan.images (without_codes trace) ends

-- the most events of a command: an operation makes its first, its last and those within
abbrev pub most_events : Command → ℕ
most_events (commands.New context fixed) = 1
most_events (commands.On context name answer) = 1
most_events (commands.Resolving context name answer) = 1
most_events (commands.Resolve name answer) = 1
most_events (commands.Load context image) = most_within + 2
most_events (commands.Bind context name version) = most_within + 2
most_events (commands.Call context name type_name method args) = most_within + 2
most_events (commands.Hold handle context name type_name method) = most_within + 2
most_events (commands.Invoke handle args) = most_within + 2
most_events (commands.DropHandle handle) = 1
most_events (commands.Weak handle context) = 1
most_events (commands.Alive handle) = 1
most_events (commands.Unload context) = 1
most_events commands.Collect = 1

-- The order by which the thread leaves the operation that is open after the trace: there is room for one event more.
pub record IsLeave (plan : Plan) (trace : List Step) (order : Order ImageCode) : Type 0 where
  pub operation : ℕ
  pub opened : open_in (without_codes trace) ≡ operation ∷ []
  pub left : order.event ≡ events.Leave operation
  pub brings : IsOrder plan.images order
  pub fewer : length trace < sum_by most_events plan.commands

-- how far a thread is: how many of its commands have ended, and the steps of the one under way
pub record Progress : Type 0 where
  pub ended : ℕ
  pub own : List Step

-- a test of whether the event is the last of its command, where its reply began this operation or none
abbrev pub is_last_by : Event → Option ℕ → Bool
is_last_by (events.Enter name) None = true
is_last_by (events.Enter name) (Some k) = false
is_last_by (events.EnterHandle handle) None = true
is_last_by (events.EnterHandle handle) (Some k) = false
is_last_by (events.Leave operation) begun = true
is_last_by event begun = is_command event

-- a test of whether the step is the last of its command
abbrev pub is_last : Step → Bool
is_last step = is_last_by step.event (begun_operation step.reply)

abbrev pub progress_after : Progress → Step → Progress
progress_after progress step =
    if is_last step then record { ended = progress.ended + 1; own = [] }
    else record { ended = progress.ended; own = progress.own ++ step ∷ [] }

-- how far a thread is that went on by these steps
abbrev pub progress_by : Progress → List Step → Progress
progress_by progress [] = progress
progress_by progress (step ∷ steps) = progress_by (progress_after progress step) steps

abbrev pub progress_of : List Step → Progress
progress_of trace = progress_by (record { ended = 0; own = [] }) trace

-- a test of whether the command is a bind
abbrev pub is_bind : Option Command → Bool
is_bind (Some (commands.Bind context name version)) = true
is_bind _ = false

-- what the event is that is due after so many commands and these steps of the one under way
abbrev pub due_own : List Command → ℕ → List Step → Event → Due
due_own commands ended [] event = dues.Command (ended + 1)
due_own commands ended (step ∷ steps) event =
    if is_publication event && not (has_published (step ∷ steps)) && is_bind (slice_get commands ended)
    then dues.Publish else dues.Plain

-- What the event is that is due after this progress: the first of the command of a number, counted from 1, the first
-- publication of a bind, or neither of these.
abbrev pub due_at : List Command → Progress → Event → Due
due_at commands progress event = due_own commands progress.ended progress.own event

abbrev pub due_with : List Command → List Step → Stand (Order ImageCode) → Due
due_with commands trace Stand.Fresh = dues.Plain
due_with commands trace (Stand.Waiting order) = due_at commands (progress_of trace) order.event
due_with commands trace Stand.Ended = dues.Plain
due_with commands trace Stand.WithoutMemory = dues.Plain

abbrev pub due_of : Thread → Due
due_of flow = due_with flow.plan.commands flow.trace flow.stand
