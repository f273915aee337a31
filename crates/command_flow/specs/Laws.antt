-- Laws over the runs of threads (own).
use Rattle.std.specs.Prelude.{ℕ, ◌≡◌, List, [], ◌∷◌, ◌++◌, Option}
use Rattle.assembly_image.specs.Reading.{FileReading}
use Rattle.bind_flow.specs.Flow.{world_of}
use Rattle.host_events.specs.declared.event.Event.{Event}
use Rattle.host_events.specs.declared.journal.Entry.{Entry}
use Rattle.host_events.specs.declared.order.CodeOf.{CodeOf}
use Rattle.host_events.specs.declared.outcome.CommandEnd.{CommandEnd}
use Rattle.host_events.specs.declared.reply.Reply.{Reply}
use Rattle.host_events.specs.Asking.{IsDue}
use Rattle.host_events.specs.Files.{Files}
use Rattle.host_events.specs.Journal.{Fits, IsProper, own_entries}
use Rattle.host_script.specs.declared.command.Command.{Command}
use Rattle.command_flow.specs.Run.{RunsThread, runs_all}

-- Events with their replies have one list of ends at most, and no whole run is a proper front of another.
abbrev pub HasOneEnd : Type 0
HasOneEnd =
    (commands : List Command) (assemblies : ℕ → Option CodeOf) (images : List FileReading)
    (trace more : List (Event × Reply)) (ends others : List CommandEnd) →
    RunsThread commands assemblies images trace ends → RunsThread commands assemblies images (trace ++ more) others →
    (more ≡ []) × (ends ≡ others)

-- Each event of a thread is due after those before it, and after the same events with their replies no other is.
abbrev pub CommandsInOrder : Type 0
CommandsInOrder =
    (commands : List Command) (assemblies : ℕ → Option CodeOf) (images : List FileReading)
    (before : List (Event × Reply)) (event : Event) (reply : Reply) (after : List (Event × Reply)) (ends : List CommandEnd) →
    RunsThread commands assemblies images (before ++ (event, reply) ∷ after) ends →
    IsDue (runs_all (world_of assemblies images) commands) before event
    × ((other : Event) → IsDue (runs_all (world_of assemblies images) commands) before other → other ≡ event)

-- What is due in a thread after all that it has in a proper journal fits there.
abbrev pub DueEventsFit : Type 0
DueEventsFit =
    (files : Files) (journal : List Entry) (thread : ℕ) (commands : List Command)
    (assemblies : ℕ → Option CodeOf) (images : List FileReading) (event : Event) →
    IsProper files journal → IsDue (runs_all (world_of assemblies images) commands) (own_entries journal thread) event →
    Fits journal thread event
