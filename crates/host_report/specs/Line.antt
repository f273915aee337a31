-- What a text comes to that is put, piece by piece, into a buffered line before a sink (own).
use Rattle.std.specs.Prelude.{◌≡◌, ℕ, ◌≤◌, ◌<◌, Bool, true, false, List, ◌++◌, length, Option}
use Rattle.plug_io.specs.Faults.{HasRisen}
use Rattle.plug_io.specs.Sink.{HasAppended}
use Rattle.host_report.specs.declared.line.Line.{Line}

-- where what was written is told, it has a proper prefix of the text more
pub record HasStopped (old new : Option (List ℕ)) (text : List ℕ) : Type 0 where
  pub sent : List ℕ
  pub unsent : List ℕ
  pub whole : text ≡ sent ++ unsent
  pub some_unsent : 0 < length unsent
  pub appended : HasAppended old new sent

-- what of a text is not written: what waits in the buffer, and after a fault of the sink some of it
abbrev pub IsUnsent : Bool → List ℕ → ℕ → ℕ → List ℕ → Type 0
IsUnsent false waiting count faults unsent = unsent ≡ waiting
IsUnsent true waiting count faults unsent = (0 < length unsent) × HasRisen count faults

-- since the sink had written `start` and had counted `count` faults, this text was put into the line
pub record IsPut (line : Line) (written : Option (List ℕ)) (faults : ℕ)
    (start : Option (List ℕ)) (count : ℕ) (text : List ℕ) : Type 0 where
  pub sent : List ℕ
  pub unsent : List ℕ
  pub whole : text ≡ sent ++ unsent
  pub appended : HasAppended start written sent
  pub counted : count ≤ faults
  pub waits : IsUnsent line.failed line.buffer.items count faults unsent

-- from the first line and sink to the second this text more was put, whatever was put before
pub record Puts {S : Type 0} (written : S → Option (List ℕ)) (faults : S → ℕ)
    (old : Line) (from : S) (new : Line) (to : S) (text : List ℕ) : Type 0 where
  pub after : (start : Option (List ℕ)) (count : ℕ) (before : List ℕ) →
      IsPut old (written from) (faults from) start count before →
      IsPut new (written to) (faults to) start count (before ++ text)
