-- Laws over the definitions of this crate (own).
use Rattle.std.specs.Prelude.{ℕ, ◌≡◌, List, Option}
use Rattle.assembly_image.specs.Reading.{FileReading}
use Rattle.host_events.specs.declared.journal.Entry.{Entry}
use Rattle.host_events.specs.declared.outcome.CommandEnd.{CommandEnd}
use Rattle.host_events.specs.Journal.{IsProper}
use Rattle.host_report.specs.Printable.{IsPrintable}
use Rattle.host_script.specs.declared.script.Script.{Script}
use Rattle.host_script.specs.Script.{Accepts}
use Rattle.alc_program.specs.Good.{IsGood, RunsScript}
use Rattle.alc_program.specs.Images.{AreRead, files_of}

-- a script, what its image files read as, and a schedule have at most one journal, and at most one list of ends
abbrev pub HasOneRun : Type 0
HasOneRun =
    (script : Script) (images : List FileReading) (schedule : List ℕ)
    (journal other : List Entry) (ends others : List (List CommandEnd)) →
    RunsScript script images schedule journal ends → RunsScript script images schedule other others →
    (journal ≡ other) × (ends ≡ others)

-- in a good journal each entry came where it fits
abbrev pub GoodIsProper : Type 0
GoodIsProper =
    (script : Script) (images : List FileReading) (journal : List Entry) (ends : List (List CommandEnd)) →
    IsGood script images journal ends → IsProper (files_of script images) journal

-- what a good journal of an accepted script and its ends say reads back from their report, where the images are
-- what some files read as
abbrev pub GoodIsPrintable : Type 0
GoodIsPrintable =
    (bytes : List ℕ) (script : Script) (held : Option (List (List ℕ × List ℕ))) (images : List FileReading)
    (journal : List Entry) (ends : List (List CommandEnd)) →
    Accepts bytes script → AreRead held script.images images → IsGood script images journal ends →
    IsPrintable ends journal
