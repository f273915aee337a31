-- What the text of a line tells (own: the reader's view, which no promise cites).
use Rattle.std.specs.Prelude.{ℕ, List, Option, Some, None, option_map, if◌then◌else◌, codes}
use Rattle.std.specs.Str.{bytes_eq}
use Rattle.host_events.specs.declared.event.Event.{Event}
use Rattle.host_report.specs.declared.told.Told.{Told}
use Rattle.host_report.specs.declared.told.Told.TheVariants as lines
use Rattle.host_report.specs.EventReading.{event_read}
use Rattle.host_report.specs.FieldReading.{word_read, number_read}
use Rattle.host_report.specs.Keyword.{keyword_read}
use Rattle.host_report.specs.OutcomeReading.{outcome_read}
use Rattle.host_report.specs.Reading.{then_read}
use Rattle.host_report.specs.ReplyReading.{reply_read}
use Rattle.host_report.specs.TextReading.{units_read}

-- the entry of a number, a thread and an event, and of the word before the reply, and that
abbrev pub answered_read : ℕ → ℕ → Event → List ℕ → Option Told
answered_read number thread event text =
    option_map (λ reply. lines.Entry number (record { thread = thread; event = event; reply = reply }))
    (reply_read (word_read text).1)

-- the entry of a number, and of what stands behind that
abbrev pub entry_read : ℕ → List ℕ → Option Told
entry_read number text =
    then_read (number_read text) (λ thread rest.
    then_read (event_read rest) (λ event rest.
    answered_read number thread event rest))

-- what a line tells whose first word this is, and of what stands behind that
abbrev pub named_line : List ℕ → List ℕ → List ℕ → Option Told
named_line line name text =
    if bytes_eq name (codes "thread") then then_read (number_read text) (λ thread rest. Some (lines.Thread thread))
    else (if bytes_eq name (codes "print") then then_read (units_read text) (λ units rest. Some (lines.Print units))
    else (if bytes_eq name (codes "journal") then then_read (number_read text) (λ count rest. Some (lines.Journal count))
    else (if bytes_eq name (codes "end") then Some lines.End
    else option_map lines.Outcome (outcome_read line))))

abbrev pub worded_line : List ℕ → Option Told
worded_line line = then_read (keyword_read line) (named_line line)

-- what a line tells, at whose front this number was read, if any
abbrev pub counted_line : List ℕ → Option (ℕ × List ℕ) → Option Told
counted_line line None = worded_line line
counted_line line (Some read) = entry_read read.0 read.1

-- what the text of a line tells, without its LF
unfoldable pub told_read : List ℕ → Option Told
told_read text = counted_line text (number_read text)
