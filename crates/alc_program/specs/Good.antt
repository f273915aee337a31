-- What a run leaves: a good journal, in the turns of a schedule (own).
use Rattle.std.specs.Prelude.{ℕ, ◌≡◌, ◌+◌, List, length, map, Some, slice_get}
use Rattle.assembly_image.specs.Reading.{FileReading}
use Rattle.host_events.specs.declared.journal.Entry.{Entry}
use Rattle.host_events.specs.declared.outcome.CommandEnd.{CommandEnd}
use Rattle.host_events.specs.Assemblies.{assembly_of}
use Rattle.host_events.specs.Journal.{IsLegal, own_entries}
use Rattle.host_script.specs.declared.command.Command.{Command}
use Rattle.host_script.specs.declared.command.CommandLine.{CommandLine}
use Rattle.host_script.specs.declared.script.Script.{Script}
use Rattle.host_threads.specs.Turns.{IsOfThreads, TakesTurns}
use Rattle.command_flow.specs.Flow.{Plan}
use Rattle.command_flow.specs.Run.{RunsThread}
use Rattle.alc_program.specs.Images.{files_of}

-- the commands, without the lines on which they stand
abbrev pub commands_of : List CommandLine → List Command
commands_of lines = map (λ line. line.command) lines

-- what the thread of these lines is to do, where the image files read so
abbrev pub plan_of : List FileReading → List CommandLine → Plan
plan_of images lines = record { commands = commands_of lines; images = images }

-- The journal is legal, its entries are of the script's threads, there is one end for each thread, and each
-- thread's entries run its commands and give its end, where the assemblies are those of the journal, and the
-- image files read so.
pub record IsGood (script : Script) (images : List FileReading) (journal : List Entry) (ends : List (List CommandEnd)) : Type 0 where
  pub legal : IsLegal (files_of script images) journal
  pub threads : IsOfThreads (length script.threads) journal
  pub one_end_each : length ends ≡ length script.threads
  pub runs : (i : ℕ) (lines : List CommandLine) (end : List CommandEnd) →
      slice_get script.threads i ≡ Some lines → slice_get ends i ≡ Some end →
      RunsThread (commands_of lines) (assembly_of journal) images (own_entries journal (i + 1)) end

-- A run of the script: a good journal with these ends, in the turns of the schedule.
pub record RunsScript (script : Script) (images : List FileReading) (schedule : List ℕ) (journal : List Entry) (ends : List (List CommandEnd)) : Type 0 where
  pub good : IsGood script images journal ends
  pub turns : TakesTurns (length script.threads) journal schedule
