-- What a report reads back as, and the line at which a text that is none is refused (own).
use Rattle.std.specs.Prelude.{ℕ, ◌≡◌, ◌≢◌, ◌⊎◌, ◌+◌, List, [], ◌∷◌, ◌++◌, length, codes}
use Rattle.std.specs.List.{flat_map, AllByRecursion}
use Rattle.host_events.specs.declared.journal.Entry.{Entry}
use Rattle.host_events.specs.declared.outcome.CommandEnd.{CommandEnd}
use Rattle.host_report.specs.Printable.{IsPrintable}
use Rattle.host_report.specs.Report.{report_text}

-- the text is the report of these ends and this journal
abbrev pub IsReadBack : List ℕ → List (List CommandEnd) × List Entry → Type 0
IsReadBack text read = IsPrintable read.0 read.1 × (text ≡ report_text read.0 read.1)

-- some report begins so
abbrev pub IsBegun : List ℕ → Type 0
IsBegun front =
    (ends : List (List CommandEnd)) × (journal : List Entry) × (rest : List ℕ)
    × IsReadBack (front ++ rest) (ends, journal)

-- bytes without an LF
abbrev pub IsUnbroken : List ℕ → Type 0
IsUnbroken bytes = AllByRecursion (λ byte. byte ≢ 10) bytes

-- whole lines, each with the LF after it
abbrev pub lines_text : List (List ℕ) → List ℕ
lines_text lines = flat_map (λ line. line ++ codes "\n") lines

-- what comes after the lines is a line after which no report begins so, or has no LF and is not the end of
-- a report
abbrev pub IsAmiss : List ℕ → List ℕ → Type 0
IsAmiss before rest =
    ((line : List ℕ) × (after : List ℕ) × (rest ≡ line ++ codes "\n" ++ after) × IsUnbroken line
    × ¬ IsBegun (before ++ line ++ codes "\n"))
    ⊎ (IsUnbroken rest × ((ends : List (List CommandEnd)) (journal : List Entry) →
    IsReadBack (before ++ rest) (ends, journal) → ⊥))

-- the line, counted from 1, is the first that is amiss: the lines before it begin some report
pub record IsRefusedAt (text : List ℕ) (line : ℕ) : Type 0 where
  pub before : List (List ℕ)
  pub rest : List ℕ
  pub whole : text ≡ lines_text before ++ rest
  pub unbroken : AllByRecursion IsUnbroken before
  pub begun : IsBegun (lines_text before)
  pub amiss : IsAmiss (lines_text before) rest
  pub counted : line ≡ length before + 1
