-- What a thread does next (own): where it goes with a reply, and what its commands ask for.
use Rattle.std.specs.Prelude.{ℕ, ◌≡◌, ◌<◌, ◌+◌, List, Option, Some, None, IsSome}
use Rattle.cli_words.specs.declared.check.CheckCode.TheVariants as code
use Rattle.cli_words.specs.declared.check.FailedCheck.{FailedCheck}
use Rattle.assembly_image.specs.Module.{Module}
use Rattle.assembly_image.specs.Names.{assembly_name}
use Rattle.assembly_image.specs.Reading.{FileReading, image_limit}
use Rattle.assembly_image.specs.Reading.FileReading.{Absent, TooLong, Refused as NoImage, Good}
use Rattle.host_events.specs.declared.event.Candidate.TheVariants as candidates
use Rattle.host_events.specs.declared.event.Event.{Event}
use Rattle.host_events.specs.declared.event.Event.TheVariants as events
use Rattle.host_events.specs.declared.order.Answer.{Answer}
use Rattle.host_events.specs.declared.order.Order.{Order}
use Rattle.host_events.specs.declared.outcome.Outcome.TheVariants as outcomes
use Rattle.host_events.specs.declared.reply.Reply.{Reply}
use Rattle.host_events.specs.declared.reply.Reply.TheVariants as replies
use Rattle.host_events.specs.Asking.{Asking}
use Rattle.host_events.specs.Task.{never}
use Rattle.bind_flow.specs.declared.images.ImageCode.{ImageCode}
use Rattle.bind_flow.specs.Binds.{binds}
use Rattle.bind_flow.specs.Images.{World, reading_at}
use Rattle.host_script.specs.declared.command.Command.{Command}
use Rattle.host_script.specs.declared.command.Command.TheVariants as commands
use Rattle.command_flow.specs.declared.turn.Turn.{Turn}
use Rattle.command_flow.specs.declared.turn.Turn.TheVariants as turns
use Rattle.command_flow.specs.declared.turn.Wait.{Wait}
use Rattle.command_flow.specs.declared.turn.Wait.TheVariants as waits
use Rattle.command_flow.specs.Events.{event_of}
use Rattle.command_flow.specs.Orders.{IsOrder}
use Rattle.host_events.specs.Rooms.{most_contexts, numbers_due, room_for}
use Rattle.command_flow.specs.Run.{loads}

-- the first event of a command: its one event, or that by which its operation begins
abbrev pub first_event : Command → Option Event
first_event (commands.Load context image) = Some (events.Enter context)
first_event (commands.Bind context name version) = Some (events.Enter context)
first_event command = event_of command

-- for the reply to which event a command waits first
abbrev pub first_wait : Command → Wait
first_wait (commands.Load context image) = waits.Enter
first_wait (commands.Bind context name version) = waits.Enter
first_wait command = waits.Event

-- the work of a command within its operation, in the context that it entered
abbrev pub work_in : Command → ℕ → World → Asking ℕ
work_in (commands.Load context image) c world = loads world image c
work_in (commands.Bind context name version) c world = binds world (record { context = c; name = name; version = version })
work_in command c world = never

-- an order that brings no code
abbrev pub order_for : Event → Order ImageCode
order_for event = record {
  event = event;
  again = event;
  code = None;
  room = room_for (numbers_due most_contexts event);
  copy = room_for (numbers_due most_contexts event);
}

-- the publication of an image under its own name
abbrev pub publication : Module → ℕ → ℕ → Event
publication m context image = events.Publish context (assembly_name m) (candidates.Image image)

-- the order by which an image is published under its own name
pub record IsLoad (images : List FileReading) (context image : ℕ) (order : Order ImageCode) : Type 0 where
  pub m : Module
  pub good : reading_at images image ≡ Some (Good m)
  pub event : order.event ≡ publication m context image
  pub brings : IsOrder images order

-- why a file is refused, if it is no image
abbrev pub refused : FileReading → Option FailedCheck
refused Absent = Some (record { code = code.Absent; at = 0 })
refused TooLong = Some (record { code = code.TooLong; at = image_limit })
refused (NoImage failed) = Some failed
refused (Good m) = None

-- the assembly that a context has under a name once an image was published there
abbrev pub loaded : Reply → Option ℕ
loaded (replies.Bound a) = Some a
loaded (replies.Lost a) = Some a
loaded _ = None

-- an operation begins, unless the reply is the outcome
abbrev pub entered_turn : Reply → Turn
entered_turn (replies.Entered k c) = turns.Begins k c
entered_turn reply = turns.Ends (outcomes.Replied reply)

abbrev pub loaded_turn : ℕ → Option ℕ → Turn
loaded_turn k (Some a) = turns.Leaves k (outcomes.Assembly a)
loaded_turn k None = turns.Leaves k outcomes.Void

-- where a thread goes with an answer
abbrev pub turn_with : Wait → Answer → Turn
turn_with waits.Event answer = turns.Ends (outcomes.Replied answer.reply)
turn_with waits.Enter answer = entered_turn answer.reply
turn_with (waits.Load k) answer = loaded_turn k (loaded answer.reply)
turn_with (waits.Bind k count flow) answer = turns.Binds k (count + 1) flow answer
turn_with (waits.Leave k outcome) answer = turns.Ends outcome

-- the reply comes where the thread waits so
abbrev pub CanTurn : Wait → Reply → Type 0
CanTurn waits.Event reply = Unit {0}
CanTurn waits.Enter reply = Unit {0}
CanTurn (waits.Load k) reply = IsSome (loaded reply)
CanTurn (waits.Bind k count flow) reply = count < 1000
CanTurn (waits.Leave k outcome) reply = Unit {0}

-- the operation within which a thread is that goes on so
abbrev pub opened : Turn → Option ℕ
opened (turns.Ends outcome) = None
opened (turns.Begins k c) = Some k
opened (turns.Binds k count flow answer) = Some k
opened (turns.Leaves k outcome) = Some k
