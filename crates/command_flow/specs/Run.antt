-- What a command and a thread do in the host, and what they end with (own). A trace is the events with their replies.
use Rattle.std.specs.Prelude.{ℕ, ◌≡◌, ◌⊎◌, ◌<◌, ◌≤◌, List, [], length, Option, Some, None, Ok, Err}
use Rattle.assembly_image.specs.Names.{assembly_name}
use Rattle.assembly_image.specs.Reading.{FileReading}
use Rattle.bind_flow.specs.Binds.{binds, if_image, image_published}
use Rattle.bind_flow.specs.Flow.{world_of}
use Rattle.bind_flow.specs.Images.{World}
use Rattle.host_events.specs.declared.event.Candidate.TheVariants as candidates
use Rattle.host_events.specs.declared.event.Event.{Event}
use Rattle.host_events.specs.declared.event.Event.TheVariants as events
use Rattle.host_events.specs.declared.order.CodeOf.{CodeOf}
use Rattle.host_events.specs.declared.outcome.CommandEnd.{CommandEnd}
use Rattle.host_events.specs.declared.outcome.Outcome.{Outcome}
use Rattle.host_events.specs.declared.outcome.Outcome.TheVariants.{Assembly, EventLimit, Replied}
use Rattle.host_events.specs.declared.reply.Reply.{Reply}
use Rattle.host_events.specs.declared.reply.Reply.TheVariants as replies
use Rattle.host_events.specs.Asking.{Asking, Ending, IsWay, asks}
use Rattle.host_events.specs.Task.Why.{Refused, Stopped}
use Rattle.host_events.specs.Task.{for_each, give, never, ◌>>=◌}
use Rattle.host_script.specs.declared.command.Command.{Command}
use Rattle.host_script.specs.declared.command.Command.TheVariants as commands
use Rattle.command_flow.specs.Events.{event_of}

-- the most events that an operation makes between its first and its last
unfoldable pub most_within : ℕ
most_within = 1000

-- What the work within an operation comes to after a trace: the assembly that it gave, or why it was refused. Where
-- the most events are made and another is due, the outcome is `EventLimit`.
abbrev pub ComesTo : List (Event × Reply) → Ending ℕ → Ending Outcome → Type 0
ComesTo trace (Ok a) end = (length trace ≤ most_within) × (end ≡ Ok (Assembly a))
ComesTo trace (Err (Refused refusal)) end = (length trace ≤ most_within) × (end ≡ Ok refusal)
ComesTo trace (Err (Stopped event)) end =
    ((length trace < most_within) × (end ≡ Err (Stopped event)))
    ⊎ ((length trace ≡ most_within) × (end ≡ Ok EventLimit))

-- the outcome of the work within an operation
unfoldable pub within_limit : Asking ℕ → Asking Outcome
within_limit work before trace after end = (last : Ending ℕ) × work before trace after last × ComesTo trace last end

-- An operation that began works in the context that it entered, and leaves. Where it did not begin, the reply is
-- the outcome.
abbrev pub entered : (ℕ → Asking ℕ) → Reply → Asking Outcome
entered work (replies.Entered k c) = do
  outcome ← within_limit (work c)
  _ ← asks (events.Leave k)
  give outcome
entered work reply = give (Replied reply)

-- an operation: work in the context that has this name
abbrev pub operates : List ℕ → (ℕ → Asking ℕ) → Asking Outcome
operates context work = do
  reply ← asks (events.Enter context)
  entered work reply

-- The work of `load`: an image is published in a context under its own name.
abbrev pub loads : World → ℕ → ℕ → Asking ℕ
loads world image context = if_image world image (λ m. do
  reply ← asks (events.Publish context (assembly_name m) (candidates.Image image))
  image_published reply)

-- A command that is one event has the reply as its outcome. What is neither one event nor an operation that is built
-- has no run.
abbrev pub runs_event : Option Event → Asking Outcome
runs_event None = never
runs_event (Some event) = do
  reply ← asks event
  give (Replied reply)

-- A command: what it asks for, and its outcome. It is never refused: what refuses the work within it is its outcome.
abbrev pub runs : World → Command → Asking Outcome
runs world (commands.Load context image) = operates context (loads world image)
runs world (commands.Bind context name version) =
    operates context (λ c. binds world (record { context = c; name = name; version = version }))
runs world command = runs_event (event_of command)

-- the end of a command with this outcome, which prints nothing
abbrev pub end_of : Outcome → CommandEnd
end_of outcome = record { lines = []; outcome = outcome }

abbrev pub with_end : Asking Outcome → Asking CommandEnd
with_end command = do
  outcome ← command
  give (end_of outcome)

-- A command's run, where each assembly is what this map says, and the images read so, from image 1 on: its events with
-- their replies, and its outcome.
abbrev pub RunsCommand : Command → (ℕ → Option CodeOf) → List FileReading →
    List (Event × Reply) → Outcome → Type 0
RunsCommand command assemblies images trace outcome = IsWay (runs (world_of assemblies images) command) trace (Ok outcome)

-- a thread: its commands, one after the other, and how each ends
abbrev pub runs_all : World → List Command → Asking (List CommandEnd)
runs_all world commands = for_each (λ command. with_end (runs world command)) commands

-- a thread's run, over the same: its events with their replies, and the end of each command
abbrev pub RunsThread : List Command → (ℕ → Option CodeOf) → List FileReading →
    List (Event × Reply) → List CommandEnd → Type 0
RunsThread commands assemblies images trace ends = IsWay (runs_all (world_of assemblies images) commands) trace (Ok ends)
