-- The first event of a command, and what a reply to it leaves.
use Rattle.std.proofs.Common.{◌≡◌, ◌∙◌, ◌+◌, ◌≤◌, ℕ, sym, ap, subst, refl, true, List, [], ◌∷◌, Option, Some, arith}
use Rattle.std.specs.Option.{option_map_or}
use Rattle.host_events.specs.declared.event.Event.{Event}
use Rattle.host_events.specs.declared.event.Event.TheVariants as events
use Rattle.host_events.specs.declared.outcome.Outcome.{Outcome}
use Rattle.host_events.specs.declared.outcome.Outcome.TheVariants as outcomes
use Rattle.host_events.specs.declared.reply.Reply.{Reply}
use Rattle.host_events.specs.Asking.{Asking, IsDue, asks}
use Rattle.host_events.specs.Operations.{is_command}
use Rattle.host_events.specs.Task.{give, ◌>>=◌}
use Rattle.bind_flow.specs.Images.{World}
use Rattle.host_script.specs.declared.command.Command.{Command}
use Rattle.host_script.specs.declared.command.Command.TheVariants as commands
use Rattle.command_flow.specs.declared.turn.Wait.TheVariants as waits
use Rattle.command_flow.specs.Events.{event_of}
use Rattle.command_flow.specs.Flow.{most_events}
use Rattle.command_flow.specs.Run.{entered, most_within, runs, runs_event}
use Rattle.command_flow.specs.Turns.{first_event, first_wait, work_in}
use Rattle.command_flow.proofs.WayLemmas.{IsAfter, after-asks, due-asks}

-- a command that is one event
alone-runs : (command : Command) → first_wait command ≡ waits.Event → (world : World) (P : Asking Outcome → Type 0) → P (runs_event (event_of command)) → P (runs world command)
alone-runs (commands.Load context image) alone world P h = cc
alone-runs (commands.Bind context name version) alone world P h = cc
alone-runs command alone world P h = h

alone-event : (command : Command) → first_wait command ≡ waits.Event → first_event command ≡ event_of command
alone-event (commands.Load context image) alone = cc
alone-event (commands.Bind context name version) alone = cc
alone-event command alone = refl

each_is_command : (command : Command) → option_map_or is_command (event_of command) true ≡ true
each_is_command (commands.New context fixed) = refl
each_is_command command = refl

pub some-event : (command : Command) → 1 ≤ most_events command
some-event (commands.New context fixed) = omega arith
some-event command = omega arith

-- the event of such a command is one by itself
pub alone-is_command : (command : Command) (event : Event) → first_wait command ≡ waits.Event → first_event command ≡ Some event → is_command event ≡ true
alone-is_command command event alone first =
    ap (λ (o : Option Event). option_map_or is_command o true) (sym first ∙ alone-event command alone) ∙ each_is_command command

alone-is : (command : Command) (event : Event) → first_wait command ≡ waits.Event → first_event command ≡ Some event → (world : World) (P : Asking Outcome → Type 0) →
    P (runs_event (Some event)) → P (runs world command)
alone-is command event alone first world P h =
    alone-runs command alone world P (subst (λ (o : Option Event). P (runs_event o)) (sym first ∙ alone-event command alone) h)

pub alone-due : (command : Command) (event : Event) → first_wait command ≡ waits.Event → first_event command ≡ Some event → (world : World) → IsDue (runs world command) [] event
alone-due command event alone first world =
    alone-is command event alone first world (λ task. IsDue task [] event) (due-asks event (λ reply. give (outcomes.Replied reply)))

pub alone-after : (command : Command) (event : Event) (reply : Reply) → first_wait command ≡ waits.Event → first_event command ≡ Some event → (world : World) →
    IsAfter ((event, reply) ∷ []) (give (outcomes.Replied reply)) (runs world command)
alone-after command event reply alone first world =
    alone-is command event alone first world (λ task. IsAfter ((event, reply) ∷ []) (give (outcomes.Replied reply)) task)
    (after-asks event reply (λ r. give (outcomes.Replied r)))

-- a command that is an operation
pub enters-parts : (command : Command) (event : Event) → first_wait command ≡ waits.Enter → first_event command ≡ Some event →
    (context : List ℕ) × (event ≡ events.Enter context) × (most_events command ≡ most_within + 2)
enters-parts (commands.Load context image) event enters first = let same : events.Enter context ≡ event = cc first in (context, sym same, refl)
enters-parts (commands.Bind context name version) event enters first = let same : events.Enter context ≡ event = cc first in (context, sym same, refl)
enters-parts command event enters first = cc

enters-is : (command : Command) (event : Event) → first_wait command ≡ waits.Enter → first_event command ≡ Some event → (world : World) (P : Asking Outcome → Type 0) →
    P (asks event >>= entered (λ c. work_in command c world)) → P (runs world command)
enters-is (commands.Load context image) event enters first world P h =
    let same : events.Enter context ≡ event = cc first in
    subst (λ (e : Event). P (asks e >>= entered (λ c. work_in (commands.Load context image) c world)) → P (runs world (commands.Load context image))) same (λ x. x) h
enters-is (commands.Bind context name version) event enters first world P h =
    let same : events.Enter context ≡ event = cc first in
    subst (λ (e : Event). P (asks e >>= entered (λ c. work_in (commands.Bind context name version) c world)) → P (runs world (commands.Bind context name version))) same (λ x. x) h
enters-is command event enters first world P h = cc

pub enters-due : (command : Command) (event : Event) → first_wait command ≡ waits.Enter → first_event command ≡ Some event → (world : World) → IsDue (runs world command) [] event
enters-due command event enters first world =
    enters-is command event enters first world (λ task. IsDue task [] event) (due-asks event (entered (λ c. work_in command c world)))

pub enters-after : (command : Command) (event : Event) (reply : Reply) → first_wait command ≡ waits.Enter → first_event command ≡ Some event → (world : World) →
    IsAfter ((event, reply) ∷ []) (entered (λ c. work_in command c world) reply) (runs world command)
enters-after command event reply enters first world =
    enters-is command event enters first world (λ task. IsAfter ((event, reply) ∷ []) (entered (λ c. work_in command c world) reply) task)
    (after-asks event reply (entered (λ c. work_in command c world)))
