-- What the reader takes from the text of a line, and what lines tell that it takes.
use Rattle.std.proofs.Common.{◌≡◌, ◌≢◌, ℕ, ◌^◌, ◌<◌, List, [], ◌∷◌, ◌++◌, drop, Option, Some, None, refl, ◌∙◌, ap, decimal}
use Rattle.std.specs.Prelude.{option_map, codes}
use Rattle.std.specs.Str.{bytes_eq}
use Rattle.host_events.specs.declared.event.Event.{Event}
use Rattle.host_events.specs.declared.journal.Entry.{Entry}
use Rattle.host_events.specs.declared.reply.Reply.{Reply}
use Rattle.host_report.specs.declared.told.Told.{Told}
use Rattle.host_report.specs.declared.told.Told.TheVariants as lines
use Rattle.host_report.specs.EventReading.{event_read}
use Rattle.host_report.specs.FieldReading.{word_read, number_read}
use Rattle.host_report.specs.Fields.{Field, fields_text, front_text, spaced}
use Rattle.host_report.specs.Keyword.{keyword_read}
use Rattle.host_report.specs.LineReading.{entry_read, named_line, worded_line, counted_line, told_read}
use Rattle.host_report.specs.OutcomeReading.{outcome_read}
use Rattle.host_report.specs.Printable.{IsPrintableEntry}
use Rattle.host_report.specs.Quote.{quoted}
use Rattle.host_report.specs.Reading.{then_read}
use Rattle.host_report.specs.ReplyReading.{reply_read}
use Rattle.host_report.specs.Table.{event_fields, reply_fields}
use Rattle.host_report.specs.TextReading.{units_read}
use Rattle.host_report.specs.Told.{told_fields, IsPrintableTold}
use Rattle.host_report.proofs.EventReadingLemmas.{arrow, event_spelled, event_given}
use Rattle.host_report.proofs.FieldLemmas.{reply_spaced}
use Rattle.host_report.proofs.FieldReadingLemmas.{number_spelled}
use Rattle.host_report.proofs.GivesLemmas.{Gives, GivesFirst, gives_any, gives_some, gives_if, gives_then, gives_map, read_then}
use Rattle.host_report.proofs.KeywordLemmas.{not_word}
use Rattle.host_report.proofs.OutcomeReadingLemmas.{worded_told, outcome_told, outcome_given}
use Rattle.host_report.proofs.ReplyReadingLemmas.{number_given, units_given, reply_spelled, reply_given}
use Rattle.host_report.proofs.TextReadingLemmas.{units_spelled}
use Rattle.host_report.proofs.TextThenLemmas.{text_then, then_both}
use Rattle.host_report.proofs.WordReadingLemmas.{fields_tail}

-- what stands behind the event of an entry
abbrev answered : Reply → List Field
answered reply = Field.Word (codes "->") ∷ reply_fields reply

-- an event and the reply to it
answered_text : (event : Event) (reply : Reply) →
    fields_text (event_fields event ++ answered reply) ≡ text_then (event_fields event) (arrow (front_text (reply_fields reply)))
answered_text event reply =
    then_both (event_fields event) (answered reply)
    ∙ ap (λ text. text_then (event_fields event) (codes " ->" ++ text)) (reply_spaced reply)

entry_spelled : (number : ℕ) (entry : Entry) → IsPrintableEntry entry →
    entry_read number (decimal entry.thread ++ fields_text (event_fields entry.event ++ answered entry.reply)) ≡ Some (lines.Entry number entry)
entry_spelled number entry is =
    let last = fields_text (event_fields entry.event ++ answered entry.reply) in
    let reply_next : Event → List ℕ → Option Told = λ event rest.
    option_map (λ reply. lines.Entry number (record { thread = entry.thread; event = event; reply = reply })) (reply_read (word_read rest).1) in
    read_then _ (number_spelled entry.thread last is.0 (fields_tail (event_fields entry.event ++ answered entry.reply)))
    ∙ ap (λ text. then_read (event_read (drop 1 text)) reply_next) (answered_text entry.event entry.reply)
    ∙ read_then reply_next (event_spelled entry.event (front_text (reply_fields entry.reply)) is.1)
    ∙ ap (option_map (λ reply. lines.Entry number (record { thread = entry.thread; event = entry.event; reply = reply }))) (reply_spelled entry.reply is.2)

-- a line is read from its text
pub told_spelled : (told : Told) → IsPrintableTold told → told_read (front_text (told_fields told)) ≡ Some told
unfolding told_read
told_spelled (lines.Thread thread) is =
    worded_told (codes "thread") (spaced (decimal thread) ++ []) refl refl refl
    ∙ read_then _ (number_spelled thread [] is tt)
told_spelled (lines.Print units) is =
    worded_told (codes "print") (spaced (quoted units) ++ []) refl refl refl
    ∙ read_then _ (units_spelled units [] is)
told_spelled (lines.Outcome outcome) is = outcome_told outcome is
told_spelled (lines.Journal count) is =
    worded_told (codes "journal") (spaced (decimal count) ++ []) refl refl refl
    ∙ read_then _ (number_spelled count [] is tt)
told_spelled (lines.Entry number entry) is =
    let behind = spaced (decimal entry.thread) ++ fields_text (event_fields entry.event ++ answered entry.reply) in
    ap (counted_line (decimal number ++ behind)) (number_spelled number behind is.0 refl)
    ∙ entry_spelled number entry is.1
told_spelled lines.End is = worded_told (codes "end") [] refl refl tt

entry_given : (number : ℕ) (text : List ℕ) → number < 2 ^ 32 → Gives IsPrintableTold (entry_read number text)
entry_given number text small =
    gives_then (number_read text) _ (number_given text) (λ thread rest low.
    gives_then (event_read rest) _ (event_given rest) (λ event rest event_is.
    gives_map (reply_read (word_read rest).1) (λ reply. lines.Entry number (record { thread = thread; event = event; reply = reply }))
    (reply_given (word_read rest).1) (λ reply reply_is. (small, (low, event_is, reply_is)))))

worded_given : (line : List ℕ) → Gives IsPrintableTold (worded_line line)
worded_given line =
    gives_then (keyword_read line) (named_line line) gives_any (λ name text _.
    gives_if (bytes_eq name (codes "thread"))
    (gives_then (number_read text) _ (number_given text) (λ thread rest small. gives_some _ (lines.Thread thread) small))
    (gives_if (bytes_eq name (codes "print"))
    (gives_then (units_read text) _ (units_given text) (λ units rest are. gives_some _ (lines.Print units) are))
    (gives_if (bytes_eq name (codes "journal"))
    (gives_then (number_read text) _ (number_given text) (λ count rest small. gives_some _ (lines.Journal count) small))
    (gives_if (bytes_eq name (codes "end"))
    (gives_some _ lines.End tt)
    (gives_map (outcome_read line) lines.Outcome (outcome_given line) (λ outcome is. is))))))

counted_given : (line : List ℕ) (read : Option (ℕ × List ℕ)) → GivesFirst (λ (n : ℕ). n < 2 ^ 32) read →
    Gives IsPrintableTold (counted_line line read)
counted_given line None first = worded_given line
counted_given line (Some read) first = entry_given read.0 read.1 (first.each read.0 read.1 refl)

-- what is read can be printed
pub told_printable : (text : List ℕ) (told : Told) → told_read text ≡ Some told → IsPrintableTold told
unfolding told_read
told_printable text told read = (counted_given text (number_read text) (number_given text)).each told read

-- what a line tells whose first word is known
pub worded_at : (line name rest word : List ℕ) → keyword_read line ≡ Some (name, rest) → name ≡ word →
    worded_line line ≡ named_line line word rest
worded_at line name rest word read is =
    read_then (named_line line) read ∙ ap (λ (name : List ℕ). named_line line name rest) is

-- any other word
pub worded_other : (line name rest : List ℕ) → keyword_read line ≡ Some (name, rest) →
    name ≢ codes "thread" →
    name ≢ codes "print" →
    name ≢ codes "journal" →
    name ≢ codes "end" →
    worded_line line ≡ option_map lines.Outcome (outcome_read line)
worded_other line name rest read n0 n1 n2 n3 =
    worded_at line name rest name read refl
    ∙ rw (
      not_word name (codes "thread") n0,
      not_word name (codes "print") n1,
      not_word name (codes "journal") n2,
      not_word name (codes "end") n3,
    ) refl
