-- What is done by asking the host for one event after another (own). A trace is the events with their replies.
use Rattle.std.specs.Prelude.{◌≡◌, ◌⊎◌, List, [], ◌∷◌, Result, Ok, Err}
use Rattle.host_events.specs.declared.event.Event.{Event}
use Rattle.host_events.specs.declared.outcome.Outcome.{Outcome}
use Rattle.host_events.specs.declared.reply.Reply.{Reply}
use Rattle.host_events.specs.Task.{Task, Why, fail}
use Rattle.host_events.specs.Task.Why.{Refused, Stopped}

-- a task that asks for events, that is refused with an outcome, or that is stopped before the event that is due
abbrev pub Asking : Type 0 → Type 1
Asking A = Task (Unit {0}) (Event × Reply) (Why Outcome Event) A

-- how such a task ends
abbrev pub Ending : Type 0 → Type 0
Ending A = Result A (Why Outcome Event)

-- One event is asked for: it gives its reply, or is what is due.
unfoldable pub asks : Event → Asking Reply
asks event before trace after end =
    (after ≡ before)
    × (((reply : Reply) × (trace ≡ (event, reply) ∷ []) × (end ≡ Ok reply))
    ⊎ ((trace ≡ []) × (end ≡ Err (Stopped event))))

abbrev pub refuses : {A : Type 0} → Outcome → Asking A
refuses outcome = fail (Refused outcome)

-- what a task gives over a trace
abbrev pub IsWay : {A : Type 0} → Asking A → List (Event × Reply) → Ending A → Type 0
IsWay task trace end = task tt trace tt end

-- after the trace the event is due
abbrev pub IsDue : {A : Type 0} → Asking A → List (Event × Reply) → Event → Type 0
IsDue task trace event = IsWay task trace (Err (Stopped event))
