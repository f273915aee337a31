-- What the answers of the program's parts come to.
use Rattle.std.proofs.Common.{◌≡◌, ℕ, List, Option, refl, ap, subst, ◌⊎◌, inl, inr}
use Rattle.assembly_image.specs.Reading.{FileReading}
use Rattle.host_events.specs.declared.journal.Entry.{Entry}
use Rattle.host_events.specs.declared.outcome.CommandEnd.{CommandEnd}
use Rattle.host_script.specs.declared.script.Script.{Script}
use Rattle.alc_program.specs.declared.status.Status.{Status}
use Rattle.alc_program.specs.declared.status.Status.TheVariants.{Done, Usage, Script as Refused, ReadFault, WriteFault, OutOfMemory}
use Rattle.alc_program.specs.Good.{RunsScript}
use Rattle.alc_program.specs.Headline.{During, CanBeDone, HasFailed, IsAnswerTo, IsAnswerToInspect, IsAnswerToSteps, IsAnswerToWords, IsReport, IsUnread, IsUntouched, WritesNothing}
use Rattle.alc_program.specs.Images.{AreRead}
use Rattle.alc_program.specs.Load.{HoldsScript}
use Rattle.alc_program.proofs.LoadLemmas.{not_refused_file}
use Rattle.alc_program.proofs.PrintableLemmas.{good_is_printable_each}
use Rattle.host_report.specs.Report.{report_text}
use Rattle.alc_program.specs.Words.{Request, Asks}
use Rattle.alc_program.specs.Words.Request.{steps, inspect}

-- what was not read is the answer
pub unread_inspect : (file : List ℕ) (files : During (List (List ℕ × List ℕ))) (out : During (List ℕ)) (status : Status) →
    IsUnread files status → WritesNothing out → IsAnswerToInspect file files out status
unread_inspect file files out Done is nothing = absurd is
unread_inspect file files out Usage is nothing = absurd is
unread_inspect file files out (Refused line cause) is nothing = absurd is
unread_inspect file files out ReadFault is nothing = (is, nothing)
unread_inspect file files out WriteFault is nothing = absurd is
unread_inspect file files out OutOfMemory is nothing = nothing

pub unread_steps : (file schedule : List ℕ) (files : During (List (List ℕ × List ℕ))) (out : During (List ℕ)) (status : Status) →
    IsUnread files status → WritesNothing out → IsAnswerToSteps file schedule files out status
unread_steps file schedule files out Done is nothing = absurd is
unread_steps file schedule files out Usage is nothing = absurd is
unread_steps file schedule files out (Refused line cause) is nothing = absurd is
unread_steps file schedule files out ReadFault is nothing = (is, nothing)
unread_steps file schedule files out WriteFault is nothing = absurd is
unread_steps file schedule files out OutOfMemory is nothing = nothing

complete_steps : (file schedule : List ℕ) (files : During (List (List ℕ × List ℕ))) (out : During (List ℕ)) (answer : Status) →
    CanBeDone (steps file schedule) files.before → ¬ HasFailed files → ¬ HasFailed out →
    IsAnswerToSteps file schedule files out answer → (answer ≡ Done) ⊎ (answer ≡ OutOfMemory)
complete_steps file schedule files out Done can reads writes is = inl refl
complete_steps file schedule files out OutOfMemory can reads writes is = inr refl
complete_steps file schedule files out Usage can reads writes is = absurd is
complete_steps file schedule files out ReadFault can reads writes is = absurd (reads is.0)
complete_steps file schedule files out WriteFault can reads writes is = absurd (writes is.3)
complete_steps file schedule files out (Refused line cause) can reads writes is =
    absurd (not_refused_file files.before file can.1 line cause can.0 can.2 is.0)

complete_inspect : (file : List ℕ) (files : During (List (List ℕ × List ℕ))) (out : During (List ℕ)) (answer : Status) →
    ¬ HasFailed files → ¬ HasFailed out → IsAnswerToInspect file files out answer → (answer ≡ Done) ⊎ (answer ≡ OutOfMemory)
complete_inspect file files out Done reads writes is = inl refl
complete_inspect file files out OutOfMemory reads writes is = inr refl
complete_inspect file files out Usage reads writes is = absurd is
complete_inspect file files out ReadFault reads writes is = absurd (reads is.0)
complete_inspect file files out WriteFault reads writes is = absurd (writes is.3)
complete_inspect file files out (Refused line cause) reads writes is = absurd is

complete_each : (request : Request) (files : During (List (List ℕ × List ℕ))) (out : During (List ℕ)) (answer : Status) →
    CanBeDone request files.before → ¬ HasFailed files → ¬ HasFailed out →
    IsAnswerTo request files out answer → (answer ≡ Done) ⊎ (answer ≡ OutOfMemory)
complete_each (steps file schedule) files out answer can reads writes is = complete_steps file schedule files out answer can reads writes is
complete_each (inspect file) files out answer can reads writes is = complete_inspect file files out answer reads writes is

-- words ask for one thing at most
one_request : (words : List (List ℕ)) (request other : Request) → Asks words request → Asks words other → request ≡ other
one_request words (steps file schedule) (steps file' schedule') a b =
    let p = a.0 in
    let q = b.0 in
    cc
one_request words (steps file schedule) (inspect file') a b = let p = a.0 in cc
one_request words (inspect file) (steps file' schedule') a b = let q = b.0 in cc
one_request words (inspect file) (inspect file') a b = cc

-- an answer to what the words ask for
pub answers_asked : (words : List (List ℕ)) (request : Request) (files : During (List (List ℕ × List ℕ))) (out : During (List ℕ)) (answer : Status) →
    Asks words request → IsAnswerTo request files out answer → IsAnswerToWords words files out answer
answers_asked words request files out answer asks is = record {
  asked = λ other a. subst (λ (r : Request). IsAnswerTo r files out answer) (one_request words request other asks a) is;
  unasked = λ none. absurd (none request asks);
  complete = λ other a can reads writes.
      complete_each other files out answer can reads writes
      (subst (λ (r : Request). IsAnswerTo r files out answer) (one_request words request other asks a) is);
}

-- the answer to words that ask for nothing
pub answers_unasked : (words : List (List ℕ)) (files : During (List (List ℕ × List ℕ))) (out : During (List ℕ)) →
    ((request : Request) → ¬ Asks words request) → IsUntouched files → IsUntouched out → IsAnswerToWords words files out Usage
answers_unasked words files out none same_files same_out = record {
  asked = λ request asks. absurd (none request asks);
  unasked = λ _. (refl, same_files, same_out);
  complete = λ request asks can reads writes. absurd (none request asks);
}

-- the report of a run
pub reported : (held : Option (List (List ℕ × List ℕ))) (file schedule : List ℕ) (script : Script) (images : List FileReading)
    (journal : List Entry) (ends seen : List (List CommandEnd)) → seen ≡ ends → HoldsScript held file script → AreRead held script.images images →
    RunsScript script images schedule journal ends → IsReport held file schedule (report_text seen journal)
reported held file schedule script images journal ends seen same holds read run = record {
  script = script;
  journal = journal;
  ends = ends;
  scripted = holds;
  images = images;
  read = read;
  run = run;
  told = (
    good_is_printable_each holds.bytes script held images journal ends holds.accepted read run.good,
    ap (λ es. report_text es journal) same,
  );
}
