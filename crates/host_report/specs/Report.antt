-- The text of a report: for each thread its commands, and the journal (own).
use Rattle.std.specs.Prelude.{ℕ, ◌+◌, List, [], ◌∷◌, ◌++◌, length, codes}
use Rattle.std.specs.List.{flat_map}
use Rattle.host_events.specs.declared.journal.Entry.{Entry}
use Rattle.host_events.specs.declared.outcome.CommandEnd.{CommandEnd}
use Rattle.host_report.specs.Fields.{Field, line_text}
use Rattle.host_report.specs.Table.{event_fields, reply_fields, outcome_fields}

-- the texts of elements that are counted from n
abbrev pub counted_texts : {T : Type 0} → (ℕ → T → List ℕ) → ℕ → List T → List ℕ
counted_texts text n [] = []
counted_texts text n (x ∷ xs) = text n x ++ counted_texts text (n + 1) xs

abbrev pub head_fields : List Field
head_fields = Field.Word (codes "alc") ∷ Field.Word (codes "1") ∷ []

abbrev pub thread_fields : ℕ → List Field
thread_fields thread = Field.Word (codes "thread") ∷ Field.Number thread ∷ []

abbrev pub print_fields : List ℕ → List Field
print_fields units = Field.Word (codes "print") ∷ Field.Quoted units ∷ []

abbrev pub journal_fields : ℕ → List Field
journal_fields count = Field.Word (codes "journal") ∷ Field.Number count ∷ []

-- an entry of the journal, counted from 1
abbrev pub entry_fields : ℕ → Entry → List Field
entry_fields number entry =
    Field.Number number ∷ Field.Number entry.thread ∷ event_fields entry.event
    ++ Field.Word (codes "->") ∷ reply_fields entry.reply

abbrev pub end_fields : List Field
end_fields = Field.Word (codes "end") ∷ []

-- what a command printed, and its outcome
abbrev pub command_text : CommandEnd → List ℕ
command_text end =
    flat_map (λ units. line_text (print_fields units)) end.lines ++ line_text (outcome_fields end.outcome)

-- a thread, counted from 1, and its commands
abbrev pub thread_text : ℕ → List CommandEnd → List ℕ
thread_text thread commands = line_text (thread_fields thread) ++ flat_map command_text commands

abbrev pub entry_text : ℕ → Entry → List ℕ
entry_text number entry = line_text (entry_fields number entry)

-- how each thread's commands ended, and the journal
abbrev pub report_text : List (List CommandEnd) → List Entry → List ℕ
report_text ends journal =
    line_text head_fields ++ counted_texts thread_text 1 ends ++ line_text (journal_fields (length journal))
    ++ counted_texts entry_text 1 journal ++ line_text end_fields
