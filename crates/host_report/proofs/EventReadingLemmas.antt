-- What the reader takes from the text of an event, and which events it takes.
use Rattle.std.proofs.Common.{◌≡◌, ◌≢◌, ℕ, List, ◌++◌, drop, Option, Some, refl, ◌∙◌, ap, decimal}
use Rattle.std.specs.Prelude.{codes}
use Rattle.std.specs.Str.{bytes_eq}
use Rattle.cli_words.specs.Name.{IsName}
use Rattle.cli_words.specs.Text.{AreUnits}
use Rattle.host_events.specs.declared.event.AskStep.{AskStep}
use Rattle.host_events.specs.declared.event.AskStep.TheVariants as steps
use Rattle.host_events.specs.declared.event.Candidate.{Candidate}
use Rattle.host_events.specs.declared.event.Candidate.TheVariants as candidates
use Rattle.host_events.specs.declared.event.ContextKind.{ContextKind}
use Rattle.host_events.specs.declared.event.ContextKind.TheVariants as kinds
use Rattle.host_events.specs.declared.event.Event.{Event}
use Rattle.host_events.specs.declared.event.Event.TheVariants as events
use Rattle.host_events.specs.declared.event.RuleAnswer.{RuleAnswer}
use Rattle.host_events.specs.declared.event.RuleAnswer.TheVariants as answers
use Rattle.host_events.specs.declared.event.RuleAt.{RuleAt}
use Rattle.host_events.specs.declared.event.RuleAt.TheVariants as places
use Rattle.host_events.specs.declared.event.ValueKind.{ValueKind}
use Rattle.host_events.specs.declared.event.ValueKind.TheVariants as value_kinds
use Rattle.host_report.specs.EventReading.{kind_read, new_read, named_answer, answer_read, rule_read, rule_of_read, lookup_read, step_named, one_named, ask_read, named_candidate, candidate_read, publish_read, place_read, value_kind_named, load_read, store_read, hold_read, weak_read, leave_read, event_of_name, of_name_read, named_event, event_read}
use Rattle.host_report.specs.FieldReading.{number_read, name_read, version_read}
use Rattle.host_report.specs.Fields.{AreFields, spaced, version_text}
use Rattle.host_report.specs.KeyReading.{key_read}
use Rattle.host_report.specs.KeyText.{key_text}
use Rattle.host_report.specs.Keyword.{keyword_read}
use Rattle.host_report.specs.Printable.{IsPrintableEvent}
use Rattle.host_report.specs.Quote.{quoted}
use Rattle.host_report.specs.Reading.{IsTail, then_read}
use Rattle.host_report.specs.ReplyReading.{value_read}
use Rattle.host_report.specs.Table.{kind_fields, answer_fields, step_word, candidate_fields, kind_word, units_value, event_fields}
use Rattle.host_report.specs.TextReading.{units_read}
use Rattle.host_report.proofs.FieldReadingLemmas.{number_spelled}
use Rattle.host_report.proofs.KeyReadingLemmas.{key_spelled, key_in_range}
use Rattle.host_report.proofs.TextReadingLemmas.{units_spelled}
use Rattle.host_report.proofs.WordReadingLemmas.{name_spelled, name_in_range, version_spelled, version_in_range}
use Rattle.host_report.proofs.GivesLemmas.{Gives, GivesFirst, fronted, gives_any, gives_some, gives_none, gives_if, gives_then, gives_map, read_then}
use Rattle.host_report.proofs.KeywordLemmas.{worded, not_word}
use Rattle.host_report.proofs.ReplyReadingLemmas.{number_given, units_given, value_tail, value_spelled, value_given}
use Rattle.host_report.proofs.TextThenLemmas.{text_then}

-- what stands behind an event: the arrow, and more
abbrev pub arrow : List ℕ → List ℕ
arrow more = codes " -> " ++ more

answer_tail : (answer : RuleAnswer) (tail : List ℕ) → IsTail (text_then (answer_fields answer) tail)
answer_tail (answers.Image image) tail = refl
answer_tail (answers.Share name) tail = refl
answer_tail answers.Nothing tail = refl

answer_spelled : (answer : RuleAnswer) (tail : List ℕ) → AreFields (answer_fields answer) → IsTail tail →
    answer_read (drop 1 (text_then (answer_fields answer) tail)) ≡ Some (answer, drop 1 tail)
answer_spelled (answers.Image image) tail fields ends =
    worded (codes "image") (spaced (decimal image) ++ tail) named_answer refl refl
    ∙ read_then (λ image rest. Some (answers.Image image, rest)) (number_spelled image tail fields.1.0 ends)
answer_spelled (answers.Share name) tail fields ends =
    worded (codes "share") (spaced name ++ tail) named_answer refl refl
    ∙ read_then (λ name rest. Some (answers.Share name, rest)) (name_spelled name tail fields.1.0 ends)
answer_spelled answers.Nothing tail fields ends = worded (codes "none") tail named_answer refl ends

rule_spelled : (place : RuleAt) (name : List ℕ) (answer : RuleAnswer) (tail : List ℕ) →
    AreUnits name → AreFields (answer_fields answer) → IsTail tail →
    rule_read place (quoted name ++ text_then (answer_fields answer) tail) ≡ Some (events.Rule place name answer, drop 1 tail)
rule_spelled place name answer tail are fields ends =
    read_then _ (units_spelled name (text_then (answer_fields answer) tail) are)
    ∙ read_then _ (answer_spelled answer tail fields ends)

step_spelled : (step : AskStep) (tail : List ℕ) → IsTail tail → one_named step_named (step_word step ++ tail) ≡ Some (step, drop 1 tail)
step_spelled steps.Load tail ends = worded (codes "load") tail _ refl ends
step_spelled steps.Default tail ends = worded (codes "default") tail _ refl ends
step_spelled steps.Resolving tail ends = worded (codes "resolving") tail _ refl ends
step_spelled steps.Resolve tail ends = worded (codes "resolve") tail _ refl ends

candidate_tail : (candidate : Candidate) (tail : List ℕ) → IsTail (text_then (candidate_fields candidate) tail)
candidate_tail (candidates.Image image) tail = refl
candidate_tail (candidates.Assembly assembly) tail = refl

candidate_spelled : (candidate : Candidate) (tail : List ℕ) → AreFields (candidate_fields candidate) → IsTail tail →
    candidate_read (drop 1 (text_then (candidate_fields candidate) tail)) ≡ Some (candidate, drop 1 tail)
candidate_spelled (candidates.Image image) tail fields ends =
    worded (codes "image") (spaced (decimal image) ++ tail) named_candidate refl refl
    ∙ read_then (λ image rest. Some (candidates.Image image, rest)) (number_spelled image tail fields.1.0 ends)
candidate_spelled (candidates.Assembly assembly) tail fields ends =
    worded (codes "assembly") (spaced (decimal assembly) ++ tail) named_candidate refl refl
    ∙ read_then (λ assembly rest. Some (candidates.Assembly assembly, rest)) (number_spelled assembly tail fields.1.0 ends)

kind_spelled : (kind : ValueKind) (tail : List ℕ) → IsTail tail → one_named value_kind_named (kind_word kind ++ tail) ≡ Some (kind, drop 1 tail)
kind_spelled value_kinds.I4 tail ends = worded (codes "i4") tail _ refl ends
kind_spelled value_kinds.I8 tail ends = worded (codes "i8") tail _ refl ends
kind_spelled value_kinds.N tail ends = worded (codes "n") tail _ refl ends
kind_spelled value_kinds.S tail ends = worded (codes "s") tail _ refl ends

-- an event is read from its text, where the arrow comes next
pub event_spelled : (event : Event) (more : List ℕ) → IsPrintableEvent event →
    event_read (drop 1 (text_then (event_fields event) (arrow more))) ≡ Some (event, drop 1 (arrow more))
unfolding event_read
event_spelled (events.New name kinds.Collectible) more is =
    worded (codes "new") (spaced name ++ arrow more) named_event refl refl
    ∙ read_then _ (name_spelled name (arrow more) is.0.1.0 refl)
event_spelled (events.New name kinds.Fixed) more is =
    worded (codes "new") (spaced name ++ (spaced (codes "fixed") ++ arrow more)) named_event refl refl
    ∙ read_then _ (name_spelled name (spaced (codes "fixed") ++ arrow more) is.0.1.0 refl)
event_spelled (events.Rule (places.On context) name answer) more is =
    let rest = text_then (answer_fields answer) (arrow more) in
    worded (codes "on") (spaced context ++ (spaced (quoted name) ++ rest)) named_event refl refl
    ∙ read_then _ (name_spelled context (spaced (quoted name) ++ rest) is.0.1.0 refl)
    ∙ rule_spelled (places.On context) name answer (arrow more) is.0.1.1.0 is.0.1.1.1 refl
event_spelled (events.Rule (places.Resolving context) name answer) more is =
    let rest = text_then (answer_fields answer) (arrow more) in
    worded (codes "resolving") (spaced context ++ (spaced (quoted name) ++ rest)) named_event refl refl
    ∙ read_then _ (name_spelled context (spaced (quoted name) ++ rest) is.0.1.0 refl)
    ∙ rule_spelled (places.Resolving context) name answer (arrow more) is.0.1.1.0 is.0.1.1.1 refl
event_spelled (events.Rule places.Resolve name answer) more is =
    worded (codes "resolve") (spaced (quoted name) ++ text_then (answer_fields answer) (arrow more)) named_event refl refl
    ∙ rule_spelled places.Resolve name answer (arrow more) is.0.1.0 is.0.1.1 refl
event_spelled (events.Enter name) more is =
    worded (codes "enter") (spaced name ++ arrow more) named_event refl refl
    ∙ read_then _ (name_spelled name (arrow more) is.0.1.0 refl)
event_spelled (events.EnterHandle handle) more is =
    worded (codes "enter-handle") (spaced handle ++ arrow more) named_event refl refl
    ∙ read_then _ (name_spelled handle (arrow more) is.0.1.0 refl)
event_spelled (events.Lookup context name version) more is =
    let last = spaced (version_text version) ++ arrow more in
    worded (codes "lookup") (spaced (decimal context) ++ (spaced (quoted name) ++ last)) named_event refl refl
    ∙ read_then _ (number_spelled context (spaced (quoted name) ++ last) is.0.1.0 refl)
    ∙ read_then _ (units_spelled name last is.0.1.1.0)
    ∙ read_then _ (version_spelled version (arrow more) is.0.1.1.1.0 refl)
event_spelled (events.Ask step context name) more is =
    let last = spaced (quoted name) ++ arrow more in
    worded (codes "ask") (spaced (step_word step) ++ (spaced (decimal context) ++ last)) named_event refl refl
    ∙ read_then _ (step_spelled step (spaced (decimal context) ++ last) refl)
    ∙ read_then _ (number_spelled context last is.0.1.1.0 refl)
    ∙ read_then _ (units_spelled name (arrow more) is.0.1.1.1.0)
event_spelled (events.Publish context name candidate) more is =
    let last = text_then (candidate_fields candidate) (arrow more) in
    worded (codes "publish") (spaced (decimal context) ++ (spaced (quoted name) ++ last)) named_event refl refl
    ∙ read_then _ (number_spelled context (spaced (quoted name) ++ last) is.0.1.0 refl)
    ∙ read_then _ (units_spelled name last is.0.1.1.0)
    ∙ read_then _ (candidate_spelled candidate (arrow more) is.0.1.1.1 refl)
event_spelled (events.Place user key) more is =
    worded (codes "place") (spaced (decimal user) ++ (spaced (key_text key) ++ arrow more)) named_event refl refl
    ∙ read_then _ (number_spelled user (spaced (key_text key) ++ arrow more) is.0.1.0 refl)
    ∙ read_then _ (key_spelled key (arrow more) is.0.1.1.0.0 is.0.1.1.0.1 refl)
event_spelled (events.LoadStatic key field kind) more is =
    let last = spaced (kind_word kind) ++ arrow more in
    worded (codes "load-static") (spaced (key_text key) ++ (spaced (decimal field) ++ last)) named_event refl refl
    ∙ read_then _ (key_spelled key (spaced (decimal field) ++ last) is.0.1.0.0 is.0.1.0.1 refl)
    ∙ read_then _ (number_spelled field last is.0.1.1.0 refl)
    ∙ read_then _ (kind_spelled kind (arrow more) refl)
event_spelled (events.StoreStatic key field value) more is =
    let last = text_then (units_value value) (arrow more) in
    worded (codes "store-static") (spaced (key_text key) ++ (spaced (decimal field) ++ last)) named_event refl refl
    ∙ read_then _ (key_spelled key (spaced (decimal field) ++ last) is.0.1.0.0 is.0.1.0.1 refl)
    ∙ read_then _ (number_spelled field last is.0.1.1.0 (value_tail (λ units. units) value (arrow more)))
    ∙ read_then _ (value_spelled (λ units. units) (λ units. units) (λ units. Unit {0}) (λ text _. refl) value (arrow more) (is.0.1.1.1, is.1) refl)
event_spelled (events.Hold handle assembly method) more is =
    let last = spaced (decimal method) ++ arrow more in
    worded (codes "hold") (spaced handle ++ (spaced (decimal assembly) ++ last)) named_event refl refl
    ∙ read_then _ (name_spelled handle (spaced (decimal assembly) ++ last) is.0.1.0 refl)
    ∙ read_then _ (number_spelled assembly last is.0.1.1.0 refl)
    ∙ read_then _ (number_spelled method (arrow more) is.0.1.1.1.0 refl)
event_spelled (events.DropHandle handle) more is =
    worded (codes "drop") (spaced handle ++ arrow more) named_event refl refl
    ∙ read_then _ (name_spelled handle (arrow more) is.0.1.0 refl)
event_spelled (events.Weak handle name) more is =
    worded (codes "weak") (spaced handle ++ (spaced name ++ arrow more)) named_event refl refl
    ∙ read_then _ (name_spelled handle (spaced name ++ arrow more) is.0.1.0 refl)
    ∙ read_then _ (name_spelled name (arrow more) is.0.1.1.0 refl)
event_spelled (events.Alive handle) more is =
    worded (codes "alive") (spaced handle ++ arrow more) named_event refl refl
    ∙ read_then _ (name_spelled handle (arrow more) is.0.1.0 refl)
event_spelled (events.Unload name) more is =
    worded (codes "unload") (spaced name ++ arrow more) named_event refl refl
    ∙ read_then _ (name_spelled name (arrow more) is.0.1.0 refl)
event_spelled events.Collect more is = worded (codes "collect") (arrow more) named_event refl refl
event_spelled (events.Leave operation) more is =
    worded (codes "leave") (spaced (decimal operation) ++ arrow more) named_event refl refl
    ∙ read_then _ (number_spelled operation (arrow more) is.0.1.0 refl)

-- what the fields give
name_given : (text : List ℕ) → GivesFirst IsName (name_read text)
name_given text = record { each = name_in_range text }

answer_given : (text : List ℕ) → GivesFirst (λ answer. AreFields (answer_fields answer)) (answer_read text)
answer_given text =
    fronted (gives_then (keyword_read text) named_answer gives_any (λ kind rest _.
    gives_if (bytes_eq kind (codes "image"))
    (gives_then (number_read rest) (λ image rest. Some (answers.Image image, rest)) (number_given rest) (λ image rest small.
    gives_some _ (answers.Image image, rest) (tt, (small, tt))))
    (gives_if (bytes_eq kind (codes "share"))
    (gives_then (name_read rest) (λ name rest. Some (answers.Share name, rest)) (name_given rest) (λ name rest is.
    gives_some _ (answers.Share name, rest) (tt, (is, tt))))
    (gives_if (bytes_eq kind (codes "none"))
    (gives_some _ (answers.Nothing, rest) (tt, tt))
    (gives_none _)))))

candidate_given : (text : List ℕ) → GivesFirst (λ candidate. AreFields (candidate_fields candidate)) (candidate_read text)
candidate_given text =
    fronted (gives_then (keyword_read text) named_candidate gives_any (λ kind rest _.
    gives_if (bytes_eq kind (codes "image"))
    (gives_then (number_read rest) (λ image rest. Some (candidates.Image image, rest)) (number_given rest) (λ image rest small.
    gives_some _ (candidates.Image image, rest) (tt, (small, tt))))
    (gives_if (bytes_eq kind (codes "assembly"))
    (gives_then (number_read rest) (λ assembly rest. Some (candidates.Assembly assembly, rest)) (number_given rest) (λ assembly rest small.
    gives_some _ (candidates.Assembly assembly, rest) (tt, (small, tt))))
    (gives_none _))))

-- the readings of events, each of which gives one that can be printed
abbrev GivesEvent : Option (Event × List ℕ) → Type 0
GivesEvent read = Gives (λ (x : Event × List ℕ). IsPrintableEvent x.0) read

kind_fine : (kind : ContextKind) → AreFields (kind_fields kind)
kind_fine kinds.Collectible = tt
kind_fine kinds.Fixed = (tt, tt)

new_given : (text : List ℕ) → GivesEvent (new_read text)
new_given text =
    gives_then (name_read text) _ (name_given text) (λ name rest is.
    gives_some _ (events.New name (kind_read rest).0, (kind_read rest).1) ((tt, (is, kind_fine (kind_read rest).0)), tt))

rule_given : (place : RuleAt) →
    ((name : List ℕ) (answer : RuleAnswer) → AreUnits name → AreFields (answer_fields answer) → IsPrintableEvent (events.Rule place name answer)) →
    (text : List ℕ) → GivesEvent (rule_read place text)
rule_given place fine text =
    gives_then (units_read text) _ (units_given text) (λ name rest are.
    gives_then (answer_read rest) _ (answer_given rest) (λ answer rest fields.
    gives_some _ (events.Rule place name answer, rest) (fine name answer are fields)))

on_given : (text : List ℕ) → GivesEvent (rule_of_read places.On text)
on_given text =
    gives_then (name_read text) _ (name_given text) (λ context rest is.
    rule_given (places.On context) (λ name answer are fields. ((tt, (is, (are, fields))), tt)) rest)

resolving_given : (text : List ℕ) → GivesEvent (rule_of_read places.Resolving text)
resolving_given text =
    gives_then (name_read text) _ (name_given text) (λ context rest is.
    rule_given (places.Resolving context) (λ name answer are fields. ((tt, (is, (are, fields))), tt)) rest)

lookup_given : (text : List ℕ) → GivesEvent (lookup_read text)
lookup_given text =
    gives_then (number_read text) _ (number_given text) (λ context rest small.
    gives_then (units_read rest) _ (units_given rest) (λ name rest are.
    gives_then (version_read rest) _ (record { each = version_in_range rest }) (λ version rest fits.
    gives_some _ (events.Lookup context name version, rest) ((tt, (small, (are, (fits, tt)))), tt))))

ask_given : (text : List ℕ) → GivesEvent (ask_read text)
ask_given text =
    gives_then (one_named step_named text) _ gives_any (λ step rest _.
    gives_then (number_read rest) _ (number_given rest) (λ context rest small.
    gives_then (units_read rest) _ (units_given rest) (λ name rest are.
    gives_some _ (events.Ask step context name, rest) ((tt, (tt, (small, (are, tt)))), tt))))

publish_given : (text : List ℕ) → GivesEvent (publish_read text)
publish_given text =
    gives_then (number_read text) _ (number_given text) (λ context rest small.
    gives_then (units_read rest) _ (units_given rest) (λ name rest are.
    gives_then (candidate_read rest) _ (candidate_given rest) (λ candidate rest fields.
    gives_some _ (events.Publish context name candidate, rest) ((tt, (small, (are, fields))), tt))))

place_given : (text : List ℕ) → GivesEvent (place_read text)
place_given text =
    gives_then (number_read text) _ (number_given text) (λ user rest small.
    gives_then (key_read rest) _ (record { each = key_in_range rest }) (λ key rest is.
    gives_some _ (events.Place user key, rest) ((tt, (small, (is, tt))), tt)))

load_given : (text : List ℕ) → GivesEvent (load_read text)
load_given text =
    gives_then (key_read text) _ (record { each = key_in_range text }) (λ key rest is.
    gives_then (number_read rest) _ (number_given rest) (λ field rest small.
    gives_then (one_named value_kind_named rest) _ gives_any (λ kind rest _.
    gives_some _ (events.LoadStatic key field kind, rest) ((tt, (is, (small, (tt, tt)))), tt))))

store_given : (text : List ℕ) → GivesEvent (store_read text)
store_given text =
    gives_then (key_read text) _ (record { each = key_in_range text }) (λ key rest is.
    gives_then (number_read rest) _ (number_given rest) (λ field rest small.
    gives_then (value_read (λ units. units) rest) _ (value_given (λ units. units) (λ units. units) (λ units. Unit {0}) (λ units. refl) (λ units. tt) rest) (λ value rest stored.
    gives_some _ (events.StoreStatic key field value, rest) ((tt, (is, (small, stored.0))), stored.1))))

hold_given : (text : List ℕ) → GivesEvent (hold_read text)
hold_given text =
    gives_then (name_read text) _ (name_given text) (λ handle rest is.
    gives_then (number_read rest) _ (number_given rest) (λ assembly rest small.
    gives_then (number_read rest) _ (number_given rest) (λ method rest low.
    gives_some _ (events.Hold handle assembly method, rest) ((tt, (is, (small, (low, tt)))), tt))))

weak_given : (text : List ℕ) → GivesEvent (weak_read text)
weak_given text =
    gives_then (name_read text) _ (name_given text) (λ handle rest is.
    gives_then (name_read rest) _ (name_given rest) (λ name rest other.
    gives_some _ (events.Weak handle name, rest) ((tt, (is, (other, tt))), tt)))

leave_given : (text : List ℕ) → GivesEvent (leave_read text)
leave_given text =
    gives_then (number_read text) _ (number_given text) (λ operation rest small.
    gives_some _ (events.Leave operation, rest) ((tt, (small, tt)), tt))

event_of_name_given : (verb name : List ℕ) → IsName name → Gives IsPrintableEvent (event_of_name verb name)
event_of_name_given verb name is =
    gives_if (bytes_eq verb (codes "enter")) (gives_some _ (events.Enter name) ((tt, (is, tt)), tt))
    (gives_if (bytes_eq verb (codes "enter-handle")) (gives_some _ (events.EnterHandle name) ((tt, (is, tt)), tt))
    (gives_if (bytes_eq verb (codes "drop")) (gives_some _ (events.DropHandle name) ((tt, (is, tt)), tt))
    (gives_if (bytes_eq verb (codes "alive")) (gives_some _ (events.Alive name) ((tt, (is, tt)), tt))
    (gives_if (bytes_eq verb (codes "unload")) (gives_some _ (events.Unload name) ((tt, (is, tt)), tt))
    (gives_none _)))))

of_name_given : (verb text : List ℕ) → GivesEvent (of_name_read verb text)
of_name_given verb text =
    gives_then (name_read text) _ (name_given text) (λ name rest is.
    gives_map (event_of_name verb name) (λ event. (event, rest)) (event_of_name_given verb name is) (λ event fine. fine))

named_given : (verb text : List ℕ) → GivesEvent (named_event verb text)
named_given verb text =
    gives_if (bytes_eq verb (codes "new")) (new_given text)
    (gives_if (bytes_eq verb (codes "on")) (on_given text)
    (gives_if (bytes_eq verb (codes "resolving")) (resolving_given text)
    (gives_if (bytes_eq verb (codes "resolve"))
    (rule_given places.Resolve (λ name answer are fields. ((tt, (are, fields)), tt)) text)
    (gives_if (bytes_eq verb (codes "lookup")) (lookup_given text)
    (gives_if (bytes_eq verb (codes "ask")) (ask_given text)
    (gives_if (bytes_eq verb (codes "publish")) (publish_given text)
    (gives_if (bytes_eq verb (codes "place")) (place_given text)
    (gives_if (bytes_eq verb (codes "load-static")) (load_given text)
    (gives_if (bytes_eq verb (codes "store-static")) (store_given text)
    (gives_if (bytes_eq verb (codes "hold")) (hold_given text)
    (gives_if (bytes_eq verb (codes "weak")) (weak_given text)
    (gives_if (bytes_eq verb (codes "collect")) (gives_some _ (events.Collect, text) ((tt, tt), tt))
    (gives_if (bytes_eq verb (codes "leave")) (leave_given text)
    (of_name_given verb text))))))))))))))

-- an event that is read can be printed
pub event_given : (text : List ℕ) → GivesFirst IsPrintableEvent (event_read text)
unfolding event_read
event_given text = fronted (gives_then (keyword_read text) named_event gives_any (λ verb rest _. named_given verb rest))

-- the event of a verb that is known
pub event_at : (text verb rest word : List ℕ) → keyword_read text ≡ Some (verb, rest) → verb ≡ word →
    event_read text ≡ named_event word rest
unfolding event_read
event_at text verb rest word read is =
    ap (λ read. then_read read named_event) read ∙ ap (λ (verb : List ℕ). named_event verb rest) is

-- any other verb
pub event_other : (text verb rest : List ℕ) → keyword_read text ≡ Some (verb, rest) →
    verb ≢ codes "new" →
    verb ≢ codes "on" →
    verb ≢ codes "resolving" →
    verb ≢ codes "resolve" →
    verb ≢ codes "lookup" →
    verb ≢ codes "ask" →
    verb ≢ codes "publish" →
    verb ≢ codes "place" →
    verb ≢ codes "load-static" →
    verb ≢ codes "store-static" →
    verb ≢ codes "hold" →
    verb ≢ codes "weak" →
    verb ≢ codes "collect" →
    verb ≢ codes "leave" →
    event_read text ≡ of_name_read verb rest
event_other text verb rest read n0 n1 n2 n3 n4 n5 n6 n7 n8 n9 n10 n11 n12 n13 =
    event_at text verb rest verb read refl
    ∙ rw (
      not_word verb (codes "new") n0,
      not_word verb (codes "on") n1,
      not_word verb (codes "resolving") n2,
      not_word verb (codes "resolve") n3,
      not_word verb (codes "lookup") n4,
      not_word verb (codes "ask") n5,
      not_word verb (codes "publish") n6,
      not_word verb (codes "place") n7,
      not_word verb (codes "load-static") n8,
      not_word verb (codes "store-static") n9,
      not_word verb (codes "hold") n10,
      not_word verb (codes "weak") n11,
      not_word verb (codes "collect") n12,
      not_word verb (codes "leave") n13,
    ) refl
