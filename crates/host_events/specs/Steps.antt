-- The steps of a thread: its events, each with the reply and with where the code comes from that the reply
-- names (own).
use Rattle.std.specs.Prelude.{ℕ, ◌≡◌, ◌==◌, if◌then◌else◌, List, [], ◌∷◌, ◌++◌, Option, Some, map}
use Rattle.std.specs.List.{AllByRecursion}
use Rattle.host_events.specs.declared.event.Event.{Event}
use Rattle.host_events.specs.declared.reply.Reply.{Reply}
use Rattle.host_events.specs.declared.journal.Entry.{Entry}
use Rattle.host_events.specs.declared.order.CodeOf.{CodeOf}
use Rattle.host_events.specs.Assemblies.{assembly_in}

abbrev pub entry_of : ℕ → Event → Reply → Entry
entry_of thread event reply = record { thread = thread; event = event; reply = reply }

-- an event with its reply and the code that it brought
pub record Step : Type 0 where
  pub event : Event
  pub reply : Reply
  pub code : Option CodeOf

abbrev pub step_of : Event → Reply → Option CodeOf → Step
step_of event reply code = record { event = event; reply = reply; code = code }

-- the steps without the codes
abbrev pub without_codes : List Step → List (Event × Reply)
without_codes steps = map (λ step. (step.event, step.reply)) steps

-- the one step that an entry is where it is the thread's; `code_of` tells the code of an entry that comes after
-- others
abbrev pub one_step : (List Entry → Entry → Option CodeOf) → ℕ → List Entry → Entry → List Step
one_step code_of thread before entry =
    if entry.thread == thread then step_of entry.event entry.reply (code_of before entry) ∷ [] else []

-- the steps of a thread in what comes after some entries
abbrev pub steps_after : (List Entry → Entry → Option CodeOf) → ℕ → List Entry → List Entry → List Step
steps_after code_of thread before [] = []
steps_after code_of thread before (entry ∷ rest) =
    one_step code_of thread before entry ++ steps_after code_of thread (before ++ entry ∷ []) rest

-- the steps of a thread in a journal
abbrev pub own_steps : (List Entry → Entry → Option CodeOf) → List Entry → ℕ → List Step
own_steps code_of journal thread = steps_after code_of thread [] journal

-- the codes of the steps are those of the assemblies that their replies name
abbrev pub AgreeWith : (ℕ → Option CodeOf) → List Step → Type 0
AgreeWith assemblies steps =
    AllByRecursion (λ step. (a : ℕ) → assembly_in step.reply ≡ Some a → step.code ≡ assemblies a) steps
