-- What each answer of the program means (own).
use Rattle.std.specs.Prelude.{ℕ, ◌≡◌, ◌⊎◌, List, Option, IsSome}
use Rattle.host_events.specs.declared.journal.Entry.{Entry}
use Rattle.host_events.specs.declared.outcome.CommandEnd.{CommandEnd}
use Rattle.plug_io.specs.Faults.{HasRisen}
use Rattle.plug_io.specs.Sink.{HasAppended}
use Rattle.assembly_image.specs.Reading.{FileReading}
use Rattle.host_script.specs.declared.script.Script.{Script}
use Rattle.alc_program.specs.declared.status.Status.{Status}
use Rattle.alc_program.specs.declared.status.Status.TheVariants.{Done, Usage, Script as Refused, ReadFault, WriteFault, OutOfMemory}
use Rattle.alc_program.specs.Good.{RunsScript}
use Rattle.alc_program.specs.Images.{AreRead}
use Rattle.alc_program.specs.Inspect.{ReadsAs}
use Rattle.alc_program.specs.Inspection.{inspection_text}
use Rattle.host_report.specs.Line.{HasStopped}
use Rattle.alc_program.specs.Load.{HoldsScript, RefusesFile}
use Rattle.host_report.specs.ReadBack.{IsReadBack}
use Rattle.alc_program.specs.Words.{Request, Asks}
use Rattle.alc_program.specs.Words.Request.{steps, inspect}

-- A device during a call: what it held, or had been given to write, before the call and after it, where it
-- tells this, and how many faults it had counted then.
pub record During (T : Type 0) : Type 0 where
  pub before : Option T
  pub after : Option T
  pub faults_before : ℕ
  pub faults_after : ℕ

abbrev pub during : {S T : Type 0} → (S → Option T) → (S → ℕ) → S → S → During T
during told faults old new = record { before = told old; after = told new; faults_before = faults old; faults_after = faults new }

abbrev pub HasFailed : {T : Type 0} → During T → Type 0
HasFailed device = HasRisen device.faults_before device.faults_after

abbrev pub IsUntouched : {T : Type 0} → During T → Type 0
IsUntouched device = (device.after ≡ device.before) × (device.faults_after ≡ device.faults_before)

-- where it tells what was written: this text more, a proper prefix of it, or nothing
abbrev pub Writes : During (List ℕ) → List ℕ → Type 0
Writes out text = HasAppended out.before out.after text

abbrev pub WritesPart : During (List ℕ) → List ℕ → Type 0
WritesPart out text = HasStopped out.before out.after text

abbrev pub WritesNothing : During (List ℕ) → Type 0
WritesNothing out = out.after ≡ out.before

-- what is answered in place of how a file reads as an image: its read failed, or memory was wanting
abbrev pub IsUnread : During (List (List ℕ × List ℕ)) → Status → Type 0
IsUnread files ReadFault = HasFailed files
IsUnread files OutOfMemory = Unit {0}
IsUnread files _ = ⊥

-- The text is the report of a run of the file's script over what the files of its images read as, in the turns of
-- the schedule, and reads back as what the run left.
pub record IsReport (held : Option (List (List ℕ × List ℕ))) (file schedule text : List ℕ) : Type 0 where
  pub script : Script
  pub journal : List Entry
  pub ends : List (List CommandEnd)
  pub scripted : HoldsScript held file script
  pub images : List FileReading
  pub read : AreRead held script.images images
  pub run : RunsScript script images schedule journal ends
  pub told : IsReadBack text (ends, journal)

-- The text is the inspection of what the file reads as: it may be absent, too long or no image.
pub record IsInspection (held : Option (List (List ℕ × List ℕ))) (file text : List ℕ) : Type 0 where
  pub reading : FileReading
  pub reads : ReadsAs held file reading
  pub spelled : text ≡ inspection_text reading

-- What each answer to `steps file schedule` means. OutOfMemory is free: nothing ties it to a want of memory.
abbrev pub IsAnswerToSteps : (file schedule : List ℕ) → During (List (List ℕ × List ℕ)) → During (List ℕ) → Status → Type 0
IsAnswerToSteps file schedule files out Done =
    (text : List ℕ) × IsReport files.before file schedule text × Writes out text
IsAnswerToSteps file schedule files out WriteFault =
    (text : List ℕ) × IsReport files.before file schedule text × WritesPart out text × HasFailed out
IsAnswerToSteps file schedule files out (Refused line cause) =
    RefusesFile files.before file line cause × WritesNothing out
IsAnswerToSteps file schedule files out ReadFault = HasFailed files × WritesNothing out
IsAnswerToSteps file schedule files out OutOfMemory = WritesNothing out
IsAnswerToSteps file schedule files out _ = ⊥

-- What each answer to `inspect file` means.
abbrev pub IsAnswerToInspect : (file : List ℕ) → During (List (List ℕ × List ℕ)) → During (List ℕ) → Status → Type 0
IsAnswerToInspect file files out Done = (text : List ℕ) × IsInspection files.before file text × Writes out text
IsAnswerToInspect file files out WriteFault =
    (text : List ℕ) × IsInspection files.before file text × WritesPart out text × HasFailed out
IsAnswerToInspect file files out ReadFault = HasFailed files × WritesNothing out
IsAnswerToInspect file files out OutOfMemory = WritesNothing out
IsAnswerToInspect file files out _ = ⊥

abbrev pub IsAnswerTo : Request → During (List (List ℕ × List ℕ)) → During (List ℕ) → Status → Type 0
IsAnswerTo (steps file schedule) files out answer = IsAnswerToSteps file schedule files out answer
IsAnswerTo (inspect file) files out answer = IsAnswerToInspect file files out answer

-- Nothing but a fault or want of memory stands against the request: a script is run that the files tell of,
-- and any file is inspected.
abbrev pub CanBeDone : Request → Option (List (List ℕ × List ℕ)) → Type 0
CanBeDone (steps file schedule) held = IsSome held × (script : Script) × HoldsScript held file script
CanBeDone (inspect file) held = Unit {0}

-- What an answer to any words means.
pub record IsAnswerToWords (words : List (List ℕ)) (files : During (List (List ℕ × List ℕ))) (out : During (List ℕ)) (answer : Status) : Type 0 where
  pub asked : (request : Request) → Asks words request → IsAnswerTo request files out answer
  pub unasked : ((request : Request) → ¬ Asks words request) →
      (answer ≡ Usage) × IsUntouched files × IsUntouched out
  pub complete : (request : Request) → Asks words request → CanBeDone request files.before →
      ¬ HasFailed files → ¬ HasFailed out → (answer ≡ Done) ⊎ (answer ≡ OutOfMemory)
