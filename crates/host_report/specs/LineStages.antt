-- What the lines of a report come to, one after another (own: the reader's view, which no promise cites).
use Rattle.std.specs.Prelude.{ℕ, ◌≡◌, ◌+◌, ◌==◌, ◌&&◌, nat_lt, if◌then◌else◌, true, false, Bool, List, [], ◌∷◌, ◌++◌, length, Option, Some, None, Result, Ok, Err, is_ok, codes}
use Rattle.std.specs.List.{AllByRecursion}
use Rattle.std.specs.Option.{option_and_then}
use Rattle.std.specs.Str.{bytes_eq}
use Rattle.host_events.specs.declared.journal.Entry.{Entry}
use Rattle.host_events.specs.declared.outcome.CommandEnd.{CommandEnd}
use Rattle.host_report.specs.declared.draft.Draft.{Draft}
use Rattle.host_report.specs.declared.draft.Part.{Part}
use Rattle.host_report.specs.declared.draft.Part.TheVariants as parts
use Rattle.host_report.specs.declared.told.Told.{Told}
use Rattle.host_report.specs.declared.told.Told.TheVariants as tolds
use Rattle.host_report.specs.Fields.{front_text}
use Rattle.host_report.specs.LineReading.{told_read}
use Rattle.host_report.specs.Reading.{Reads}
use Rattle.host_report.specs.declared.unread.Unread.{Unread}
use Rattle.host_report.specs.ReadBack.{IsUnbroken, lines_text}
use Rattle.host_report.specs.Told.{told_fields}

-- how much of a report was read
pub data Stage : Type 0 where
  -- nothing
  Head : Stage
  -- its first line
  Start : Stage
  -- the threads that ended, the commands of the one after them, and what the next command printed
  Thread : List (List CommandEnd) → List CommandEnd → List (List ℕ) → Stage
  -- the threads, the count of entries, and the entries so far
  Journal : List (List CommandEnd) → ℕ → List Entry → Stage
  -- all of it
  Whole : List (List CommandEnd) → List Entry → Stage

-- this, where no outcome is due
abbrev pub unless_printed : List (List ℕ) → Option Stage → Option Stage
unless_printed [] stage = stage
unless_printed (units ∷ printed) stage = None

abbrev pub start_after : Told → Option Stage
start_after (tolds.Thread thread) = if thread == 1 then Some (Stage.Thread [] [] []) else None
start_after (tolds.Print units) = None
start_after (tolds.Outcome outcome) = None
start_after (tolds.Journal count) = Some (Stage.Journal [] count [])
start_after (tolds.Entry number entry) = None
start_after tolds.End = None

abbrev pub thread_after : List (List CommandEnd) → List CommandEnd → List (List ℕ) → Told → Option Stage
thread_after ends commands printed (tolds.Thread thread) =
    unless_printed printed
    (if thread == length ends + 2 then Some (Stage.Thread (ends ++ commands ∷ []) [] []) else None)
thread_after ends commands printed (tolds.Print units) =
    Some (Stage.Thread ends commands (printed ++ units ∷ []))
thread_after ends commands printed (tolds.Outcome outcome) =
    Some (Stage.Thread ends (commands ++ record { lines = printed; outcome = outcome } ∷ []) [])
thread_after ends commands printed (tolds.Journal count) =
    unless_printed printed (Some (Stage.Journal (ends ++ commands ∷ []) count []))
thread_after ends commands printed (tolds.Entry number entry) = None
thread_after ends commands printed tolds.End = None

abbrev pub journal_after : List (List CommandEnd) → ℕ → List Entry → Told → Option Stage
journal_after ends count entries (tolds.Thread thread) = None
journal_after ends count entries (tolds.Print units) = None
journal_after ends count entries (tolds.Outcome outcome) = None
journal_after ends count entries (tolds.Journal number) = None
journal_after ends count entries (tolds.Entry number entry) =
    if number == length entries + 1
    then (if nat_lt (length entries) count then Some (Stage.Journal ends count (entries ++ entry ∷ [])) else None)
    else None
journal_after ends count entries tolds.End =
    if length entries == count then Some (Stage.Whole ends entries) else None

-- lines of a thread come next
abbrev pub is_in_threads : Stage → Bool
is_in_threads (Stage.Thread ends commands printed) = true
is_in_threads _ = false

-- the entry of this number comes next
abbrev pub is_due : ℕ → Stage → Bool
is_due number (Stage.Journal ends count entries) = (number == length entries + 1) && nat_lt (length entries) count
is_due number _ = false

-- after one line more, behind the first
abbrev pub told_after : Stage → Told → Option Stage
told_after Stage.Head told = None
told_after Stage.Start told = start_after told
told_after (Stage.Thread ends commands printed) told = thread_after ends commands printed told
told_after (Stage.Journal ends count entries) told = journal_after ends count entries told
told_after (Stage.Whole ends entries) told = None

-- this, where it is spelled as the line without its LF
abbrev pub spelled : List ℕ → Told → Option Told
spelled line told = if bytes_eq (front_text (told_fields told)) line then Some told else None

-- what a line without its LF tells, spelled just so
abbrev pub line_read : List ℕ → Option Told
line_read line = option_and_then (spelled line) (told_read line)

-- what was read, if anything, was compared with the line
abbrev pub Spells : {T : Type 0} → List ℕ → Result Told Unread → Result T Unread → Type 0
Spells line (Ok told) compared = Reads (λ _. told) compared (spelled line told)
Spells line (Err unread) compared = is_ok compared ≡ true

-- after one line more, without its LF
abbrev pub stage_after : Stage → List ℕ → Option Stage
stage_after Stage.Head line = if bytes_eq line (codes "alc 1") then Some Stage.Start else None
stage_after Stage.Start line = option_and_then (told_after Stage.Start) (line_read line)
stage_after (Stage.Thread ends commands printed) line =
    option_and_then (told_after (Stage.Thread ends commands printed)) (line_read line)
stage_after (Stage.Journal ends count entries) line =
    option_and_then (told_after (Stage.Journal ends count entries)) (line_read line)
stage_after (Stage.Whole ends entries) line =
    option_and_then (told_after (Stage.Whole ends entries)) (line_read line)

-- after some lines more
abbrev pub stages_after : Stage → List (List ℕ) → Option Stage
stages_after stage [] = Some stage
stages_after stage (line ∷ lines) = option_and_then (λ next. stages_after next lines) (stage_after stage line)

-- the text is whole lines, which lead from one stage to the other
pub record Passes (from : Stage) (text : List ℕ) (to : Stage) : Type 0 where
  pub lines : List (List ℕ)
  pub whole : text ≡ lines_text lines
  pub unbroken : AllByRecursion IsUnbroken lines
  pub reached : stages_after from lines ≡ Some to

-- of the text, what comes before the rest is the lines before the one of this number, which lead to the stage
pub record IsReached (text rest : List ℕ) (line : ℕ) (stage : Stage) : Type 0 where
  pub before : List (List ℕ)
  pub whole : text ≡ lines_text before ++ rest
  pub unbroken : AllByRecursion IsUnbroken before
  pub reached : stages_after Stage.Head before ≡ Some stage
  pub counted : line ≡ length before + 1

-- the stage of what was read so far
abbrev pub stage_at : Part → Draft → Stage
stage_at parts.Head draft = Stage.Head
stage_at parts.Start draft = Stage.Start
stage_at parts.Threads draft = Stage.Thread draft.ends.items draft.commands.items draft.printed.items
stage_at parts.Journal draft = Stage.Journal draft.ends.items draft.count draft.entries.items
stage_at parts.Whole draft = Stage.Whole draft.ends.items draft.entries.items

abbrev pub stage : Draft → Stage
stage draft = stage_at draft.part draft

-- what was read is not a whole report, or more follows
abbrev pub IsUnfinished : Stage → List ℕ → Type 0
IsUnfinished stage rest =
    (ends : List (List CommandEnd)) (journal : List Entry) → stage ≡ Stage.Whole ends journal → rest ≡ [] → ⊥
