-- The event at the front of a text (own: the reader's view, which no promise cites).
use Rattle.std.specs.Prelude.{ℕ, List, [], ◌∷◌, Option, Some, None, option_map, if◌then◌else◌, codes}
use Rattle.std.specs.Str.{bytes_eq}
use Rattle.host_events.specs.declared.event.AskStep.{AskStep}
use Rattle.host_events.specs.declared.event.AskStep.TheVariants as steps
use Rattle.host_events.specs.declared.event.Candidate.{Candidate}
use Rattle.host_events.specs.declared.event.Candidate.TheVariants as candidates
use Rattle.host_events.specs.declared.event.ContextKind.{ContextKind}
use Rattle.host_events.specs.declared.event.ContextKind.TheVariants as kinds
use Rattle.host_events.specs.declared.event.Event.{Event}
use Rattle.host_events.specs.declared.event.Event.TheVariants as events
use Rattle.host_events.specs.declared.event.RuleAnswer.{RuleAnswer}
use Rattle.host_events.specs.declared.event.RuleAnswer.TheVariants as answers
use Rattle.host_events.specs.declared.event.RuleAt.{RuleAt}
use Rattle.host_events.specs.declared.event.RuleAt.TheVariants as places
use Rattle.host_events.specs.declared.event.ValueKind.{ValueKind}
use Rattle.host_events.specs.declared.event.ValueKind.TheVariants as value_kinds
use Rattle.host_report.specs.FieldReading.{word_read, number_read, name_read, version_read}
use Rattle.host_report.specs.KeyReading.{key_read}
use Rattle.host_report.specs.Keyword.{keyword_read, beside}
use Rattle.host_report.specs.Reading.{then_read}
use Rattle.host_report.specs.ReplyReading.{value_read}
use Rattle.host_report.specs.TextReading.{units_read}

-- `fixed`, where it comes next
abbrev pub kind_read : List ℕ → ContextKind × List ℕ
kind_read text =
    if bytes_eq (word_read text).0 (codes "fixed") then (kinds.Fixed, (word_read text).1)
    else (kinds.Collectible, text)

abbrev pub new_read : List ℕ → Option (Event × List ℕ)
new_read text =
    then_read (name_read text) (λ name rest. Some (events.New name (kind_read rest).0, (kind_read rest).1))

abbrev pub named_answer : List ℕ → List ℕ → Option (RuleAnswer × List ℕ)
named_answer kind text =
    if bytes_eq kind (codes "image") then then_read (number_read text) (λ image rest. Some (answers.Image image, rest))
    else (if bytes_eq kind (codes "share") then then_read (name_read text) (λ name rest. Some (answers.Share name, rest))
    else (if bytes_eq kind (codes "none") then Some (answers.Nothing, text)
    else None))

abbrev pub answer_read : List ℕ → Option (RuleAnswer × List ℕ)
answer_read text = then_read (keyword_read text) named_answer

-- the rest of a rule, of which it is known where it stands
abbrev pub rule_read : RuleAt → List ℕ → Option (Event × List ℕ)
rule_read place text =
    then_read (units_read text) (λ name rest.
    then_read (answer_read rest) (λ answer rest. Some (events.Rule place name answer, rest)))

-- a rule of a context
abbrev pub rule_of_read : (List ℕ → RuleAt) → List ℕ → Option (Event × List ℕ)
rule_of_read place text = then_read (name_read text) (λ context rest. rule_read (place context) rest)

abbrev pub lookup_read : List ℕ → Option (Event × List ℕ)
lookup_read text =
    then_read (number_read text) (λ context rest.
    then_read (units_read rest) (λ name rest.
    then_read (version_read rest) (λ version rest. Some (events.Lookup context name version, rest))))

abbrev pub step_named : List ℕ → Option AskStep
step_named name = beside name (
    (codes "load", steps.Load)
    ∷ (codes "default", steps.Default)
    ∷ (codes "resolving", steps.Resolving)
    ∷ (codes "resolve", steps.Resolve)
    ∷ [])

-- an element that a word names, and what stands behind it
abbrev pub one_named : {T : Type 0} → (List ℕ → Option T) → List ℕ → Option (T × List ℕ)
one_named named text = then_read (keyword_read text) (λ name rest. option_map (λ one. (one, rest)) (named name))

abbrev pub ask_read : List ℕ → Option (Event × List ℕ)
ask_read text =
    then_read (one_named step_named text) (λ step rest.
    then_read (number_read rest) (λ context rest.
    then_read (units_read rest) (λ name rest. Some (events.Ask step context name, rest))))

abbrev pub named_candidate : List ℕ → List ℕ → Option (Candidate × List ℕ)
named_candidate kind text =
    if bytes_eq kind (codes "image") then then_read (number_read text) (λ image rest. Some (candidates.Image image, rest))
    else (if bytes_eq kind (codes "assembly") then
    then_read (number_read text) (λ assembly rest. Some (candidates.Assembly assembly, rest))
    else None)

abbrev pub candidate_read : List ℕ → Option (Candidate × List ℕ)
candidate_read text = then_read (keyword_read text) named_candidate

abbrev pub publish_read : List ℕ → Option (Event × List ℕ)
publish_read text =
    then_read (number_read text) (λ context rest.
    then_read (units_read rest) (λ name rest.
    then_read (candidate_read rest) (λ candidate rest. Some (events.Publish context name candidate, rest))))

abbrev pub place_read : List ℕ → Option (Event × List ℕ)
place_read text =
    then_read (number_read text) (λ user rest.
    then_read (key_read rest) (λ key rest. Some (events.Place user key, rest)))

abbrev pub value_kind_named : List ℕ → Option ValueKind
value_kind_named name = beside name (
    (codes "i4", value_kinds.I4)
    ∷ (codes "i8", value_kinds.I8)
    ∷ (codes "n", value_kinds.N)
    ∷ (codes "s", value_kinds.S)
    ∷ [])

abbrev pub load_read : List ℕ → Option (Event × List ℕ)
load_read text =
    then_read (key_read text) (λ key rest.
    then_read (number_read rest) (λ field rest.
    then_read (one_named value_kind_named rest) (λ kind rest. Some (events.LoadStatic key field kind, rest))))

abbrev pub store_read : List ℕ → Option (Event × List ℕ)
store_read text =
    then_read (key_read text) (λ key rest.
    then_read (number_read rest) (λ field rest.
    then_read (value_read (λ units. units) rest) (λ value rest. Some (events.StoreStatic key field value, rest))))

abbrev pub hold_read : List ℕ → Option (Event × List ℕ)
hold_read text =
    then_read (name_read text) (λ handle rest.
    then_read (number_read rest) (λ assembly rest.
    then_read (number_read rest) (λ method rest. Some (events.Hold handle assembly method, rest))))

abbrev pub weak_read : List ℕ → Option (Event × List ℕ)
weak_read text =
    then_read (name_read text) (λ handle rest.
    then_read (name_read rest) (λ name rest. Some (events.Weak handle name, rest)))

abbrev pub leave_read : List ℕ → Option (Event × List ℕ)
leave_read text = then_read (number_read text) (λ operation rest. Some (events.Leave operation, rest))

-- the event of a verb and a name
abbrev pub event_of_name : List ℕ → List ℕ → Option Event
event_of_name verb name =
    if bytes_eq verb (codes "enter") then Some (events.Enter name)
    else (if bytes_eq verb (codes "enter-handle") then Some (events.EnterHandle name)
    else (if bytes_eq verb (codes "drop") then Some (events.DropHandle name)
    else (if bytes_eq verb (codes "alive") then Some (events.Alive name)
    else (if bytes_eq verb (codes "unload") then Some (events.Unload name)
    else None))))

abbrev pub of_name_read : List ℕ → List ℕ → Option (Event × List ℕ)
of_name_read verb text =
    then_read (name_read text) (λ name rest. option_map (λ event. (event, rest)) (event_of_name verb name))

-- the event of a verb and the text after it
abbrev pub named_event : List ℕ → List ℕ → Option (Event × List ℕ)
named_event verb text =
    if bytes_eq verb (codes "new") then new_read text
    else (if bytes_eq verb (codes "on") then rule_of_read places.On text
    else (if bytes_eq verb (codes "resolving") then rule_of_read places.Resolving text
    else (if bytes_eq verb (codes "resolve") then rule_read places.Resolve text
    else (if bytes_eq verb (codes "lookup") then lookup_read text
    else (if bytes_eq verb (codes "ask") then ask_read text
    else (if bytes_eq verb (codes "publish") then publish_read text
    else (if bytes_eq verb (codes "place") then place_read text
    else (if bytes_eq verb (codes "load-static") then load_read text
    else (if bytes_eq verb (codes "store-static") then store_read text
    else (if bytes_eq verb (codes "hold") then hold_read text
    else (if bytes_eq verb (codes "weak") then weak_read text
    else (if bytes_eq verb (codes "collect") then Some (events.Collect, text)
    else (if bytes_eq verb (codes "leave") then leave_read text
    else of_name_read verb text)))))))))))))

-- an event, and what stands behind the space that follows it
unfoldable pub event_read : List ℕ → Option (Event × List ℕ)
event_read text = then_read (keyword_read text) named_event
