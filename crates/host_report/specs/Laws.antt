-- Laws over the definitions of this crate (own).
use Rattle.std.specs.Prelude.{ℕ, ◌≡◌, ◌⊎◌, List}
use Rattle.host_events.specs.declared.journal.Entry.{Entry}
use Rattle.host_events.specs.declared.outcome.CommandEnd.{CommandEnd}
use Rattle.host_report.specs.Printable.{IsPrintable}
use Rattle.host_report.specs.ReadBack.{IsReadBack, IsRefusedAt}
use Rattle.host_report.specs.Report.{report_text}

-- a report reads back as the ends and the journal that it was written of
abbrev pub ReadsBack : Type 0
ReadsBack =
    (ends : List (List CommandEnd)) (journal : List Entry) → IsPrintable ends journal →
    IsReadBack (report_text ends journal) (ends, journal)

-- a text reads back in one way at most
abbrev pub ReadsInOneWay : Type 0
ReadsInOneWay =
    (text : List ℕ) (read other : List (List CommandEnd) × List Entry) →
    IsReadBack text read → IsReadBack text other → read ≡ other

-- a text is refused at one line at most
abbrev pub RefusesOnce : Type 0
RefusesOnce = (text : List ℕ) (line other : ℕ) → IsRefusedAt text line → IsRefusedAt text other → line ≡ other

-- a text that reads back is refused at no line
abbrev pub RefusesNoReport : Type 0
RefusesNoReport =
    (text : List ℕ) (read : List (List CommandEnd) × List Entry) (line : ℕ) →
    IsReadBack text read → IsRefusedAt text line → ⊥

-- each other text is refused at a line
abbrev pub ReadsOrRefuses : Type 0
ReadsOrRefuses =
    (text : List ℕ) →
    ((read : List (List CommandEnd) × List Entry) × IsReadBack text read) ⊎ ((line : ℕ) × IsRefusedAt text line)
