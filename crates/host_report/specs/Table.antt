-- The table of texts: the fields of each event, reply and outcome (own).
use Rattle.std.specs.Prelude.{ℕ, List, [], ◌∷◌, ◌++◌, codes, pos}
use Rattle.std.specs.Int.{w32, w64}
use Rattle.cli_words.specs.Check.{name_of}
use Rattle.signatures.specs.Features.{text as feature_text}
use Rattle.host_events.specs.declared.event.AskStep.{AskStep}
use Rattle.host_events.specs.declared.event.AskStep.TheVariants as steps
use Rattle.host_events.specs.declared.event.Candidate.{Candidate}
use Rattle.host_events.specs.declared.event.Candidate.TheVariants as candidates
use Rattle.host_events.specs.declared.event.ContextKind.{ContextKind}
use Rattle.host_events.specs.declared.event.ContextKind.TheVariants as kinds
use Rattle.host_events.specs.declared.event.Datum.{Datum}
use Rattle.host_events.specs.declared.event.Datum.TheVariants as values
use Rattle.host_events.specs.declared.event.Event.{Event}
use Rattle.host_events.specs.declared.event.Event.TheVariants as events
use Rattle.host_events.specs.declared.event.RuleAnswer.{RuleAnswer}
use Rattle.host_events.specs.declared.event.RuleAnswer.TheVariants as answers
use Rattle.host_events.specs.declared.event.RuleAt.{RuleAt}
use Rattle.host_events.specs.declared.event.RuleAt.TheVariants as places
use Rattle.host_events.specs.declared.event.ValueKind.{ValueKind}
use Rattle.host_events.specs.declared.event.ValueKind.TheVariants as value_kinds
use Rattle.host_events.specs.declared.outcome.Outcome.{Outcome}
use Rattle.host_events.specs.declared.outcome.Outcome.TheVariants as outcomes
use Rattle.host_events.specs.declared.outcome.VerifyRule.{VerifyRule}
use Rattle.host_events.specs.declared.outcome.VerifyRule.TheVariants as rules_of_code
use Rattle.host_events.specs.declared.reply.Reply.{Reply}
use Rattle.host_events.specs.declared.reply.Reply.TheVariants as replies
use Rattle.host_events.specs.Reserved.{Reserved}
use Rattle.host_report.specs.Fields.{Field}

abbrev pub kind_fields : ContextKind → List Field
kind_fields kinds.Collectible = []
kind_fields kinds.Fixed = Field.Word (codes "fixed") ∷ []

abbrev pub place_fields : RuleAt → List Field
place_fields (places.On name) = Field.Word (codes "on") ∷ Field.Named name ∷ []
place_fields (places.Resolving name) = Field.Word (codes "resolving") ∷ Field.Named name ∷ []
place_fields places.Resolve = Field.Word (codes "resolve") ∷ []

abbrev pub answer_fields : RuleAnswer → List Field
answer_fields (answers.Image image) = Field.Word (codes "image") ∷ Field.Number image ∷ []
answer_fields (answers.Share name) = Field.Word (codes "share") ∷ Field.Named name ∷ []
answer_fields answers.Nothing = Field.Word (codes "none") ∷ []

abbrev pub step_word : AskStep → List ℕ
step_word steps.Load = codes "load"
step_word steps.Default = codes "default"
step_word steps.Resolving = codes "resolving"
step_word steps.Resolve = codes "resolve"

abbrev pub candidate_fields : Candidate → List Field
candidate_fields (candidates.Image image) = Field.Word (codes "image") ∷ Field.Number image ∷ []
candidate_fields (candidates.Assembly assembly) = Field.Word (codes "assembly") ∷ Field.Number assembly ∷ []

abbrev pub kind_word : ValueKind → List ℕ
kind_word value_kinds.I4 = codes "i4"
kind_word value_kinds.I8 = codes "i8"
kind_word value_kinds.N = codes "n"
kind_word value_kinds.S = codes "s"

-- a value, whose text has these units
abbrev pub value_fields : {T : Type 0} → (T → List ℕ) → Datum T → List Field
value_fields units (values.I4 number) = Field.Word (codes "i4") ∷ Field.Signed w32 number ∷ []
value_fields units (values.I8 number) = Field.Word (codes "i8") ∷ Field.Signed w64 number ∷ []
value_fields units (values.N number) = Field.Word (codes "n") ∷ Field.Signed w64 number ∷ []
value_fields units (values.S text) = Field.Word (codes "s") ∷ Field.Quoted (units text) ∷ []
value_fields units values.Null = Field.Word (codes "null") ∷ []
value_fields units values.Ref = Field.Word (codes "ref") ∷ []

abbrev pub units_value : Datum (List ℕ) → List Field
units_value value = value_fields (λ units. units) value

abbrev pub text_value : Datum (Reserved ℕ) → List Field
text_value value = value_fields (λ text. text.list) value

abbrev pub event_fields : Event → List Field
event_fields (events.New name kind) = Field.Word (codes "new") ∷ Field.Named name ∷ kind_fields kind
event_fields (events.Rule place name answer) = place_fields place ++ Field.Quoted name ∷ answer_fields answer
event_fields (events.Enter name) = Field.Word (codes "enter") ∷ Field.Named name ∷ []
event_fields (events.EnterHandle handle) = Field.Word (codes "enter-handle") ∷ Field.Named handle ∷ []
event_fields (events.Lookup context name version) =
    Field.Word (codes "lookup") ∷ Field.Number context ∷ Field.Quoted name ∷ Field.Versioned version ∷ []
event_fields (events.Ask step context name) =
    Field.Word (codes "ask") ∷ Field.Word (step_word step) ∷ Field.Number context ∷ Field.Quoted name ∷ []
event_fields (events.Publish context name candidate) =
    Field.Word (codes "publish") ∷ Field.Number context ∷ Field.Quoted name ∷ candidate_fields candidate
event_fields (events.Place user key) = Field.Word (codes "place") ∷ Field.Number user ∷ Field.Key key ∷ []
event_fields (events.LoadStatic key field kind) =
    Field.Word (codes "load-static") ∷ Field.Key key ∷ Field.Number field ∷ Field.Word (kind_word kind) ∷ []
event_fields (events.StoreStatic key field value) =
    Field.Word (codes "store-static") ∷ Field.Key key ∷ Field.Number field ∷ units_value value
event_fields (events.Hold handle assembly method) =
    Field.Word (codes "hold") ∷ Field.Named handle ∷ Field.Number assembly ∷ Field.Number method ∷ []
event_fields (events.DropHandle handle) = Field.Word (codes "drop") ∷ Field.Named handle ∷ []
event_fields (events.Weak handle name) =
    Field.Word (codes "weak") ∷ Field.Named handle ∷ Field.Named name ∷ []
event_fields (events.Alive handle) = Field.Word (codes "alive") ∷ Field.Named handle ∷ []
event_fields (events.Unload name) = Field.Word (codes "unload") ∷ Field.Named name ∷ []
event_fields events.Collect = Field.Word (codes "collect") ∷ []
event_fields (events.Leave operation) = Field.Word (codes "leave") ∷ Field.Number operation ∷ []

-- a word and the numbers after it
abbrev pub numbered : List ℕ → List ℕ → List Field
numbered word numbers = Field.Word word ∷ Field.Numbers numbers ∷ []

abbrev pub reply_fields : Reply → List Field
reply_fields (replies.Exists c) = numbered (codes "Exists") (c ∷ [])
reply_fields (replies.Made c) = numbered (codes "Made") (c ∷ [])
reply_fields replies.NoContext = numbered (codes "NoContext") []
reply_fields (replies.Unloading c) = numbered (codes "Unloading") (c ∷ [])
reply_fields (replies.Set c) = numbered (codes "Set") (c ∷ [])
reply_fields (replies.Entered k c) = numbered (codes "Entered") (k ∷ c ∷ [])
reply_fields replies.NoHandle = numbered (codes "NoHandle") []
reply_fields (replies.EnteredAt k c a m) = numbered (codes "EnteredAt") (k ∷ c ∷ a ∷ m ∷ [])
reply_fields replies.Miss = numbered (codes "Miss") []
reply_fields (replies.Hit a) = numbered (codes "Hit") (a ∷ [])
reply_fields (replies.Low a) = numbered (codes "Low") (a ∷ [])
reply_fields (replies.Image i) = numbered (codes "Image") (i ∷ [])
reply_fields (replies.Foreign a) = numbered (codes "Foreign") (a ∷ [])
reply_fields replies.Nothing = numbered (codes "Nothing") []
reply_fields (replies.Lost a) = numbered (codes "Lost") (a ∷ [])
reply_fields (replies.NotCollectible a) = numbered (codes "NotCollectible") (a ∷ [])
reply_fields (replies.Shared a) = numbered (codes "Shared") (a ∷ [])
reply_fields (replies.Bound a) = numbered (codes "Bound") (a ∷ [])
reply_fields (replies.Placed c) = numbered (codes "Placed") (c ∷ [])
reply_fields (replies.Value value) = Field.Word (codes "Value") ∷ text_value value
reply_fields replies.Stored = numbered (codes "Stored") []
reply_fields replies.InUse = numbered (codes "InUse") []
reply_fields (replies.Held c) = numbered (codes "Held") (c ∷ [])
reply_fields replies.Dropped = numbered (codes "Dropped") []
reply_fields (replies.Weakly c) = numbered (codes "Weakly") (c ∷ [])
reply_fields (replies.Alive c) = numbered (codes "Alive") (c ∷ [])
reply_fields (replies.Gone c) = numbered (codes "Gone") (c ∷ [])
reply_fields (replies.Fixed c) = numbered (codes "Fixed") (c ∷ [])
reply_fields (replies.Already c) = numbered (codes "Already") (c ∷ [])
reply_fields (replies.Freed contexts) = numbered (codes "Freed") contexts.list
reply_fields replies.Left = numbered (codes "Left") []

abbrev pub rule_word : VerifyRule → List ℕ
rule_word rules_of_code.Depth = codes "depth"
rule_word rules_of_code.Kind = codes "kind"
rule_word rules_of_code.Underflow = codes "underflow"
rule_word rules_of_code.Operand = codes "operand"
rule_word rules_of_code.MaxStack = codes "max-stack"
rule_word rules_of_code.Index = codes "index"
rule_word rules_of_code.Target = codes "target"
rule_word rules_of_code.Assign = codes "assign"
rule_word rules_of_code.Member = codes "member"
rule_word rules_of_code.Return = codes "return"
rule_word rules_of_code.Region = codes "region"

-- a word and the text after it
abbrev pub of_text : List ℕ → List ℕ → List Field
of_text word units = Field.Word word ∷ Field.Quoted units ∷ []

abbrev pub outcome_fields : Outcome → List Field
outcome_fields (outcomes.Replied reply) = reply_fields reply
outcome_fields (outcomes.Assembly assembly) = numbered (codes "Assembly") (assembly ∷ [])
outcome_fields (outcomes.Value value) = Field.Word (codes "Value") ∷ units_value value
outcome_fields outcomes.Void = numbered (codes "Void") []
outcome_fields (outcomes.NotFound name) = of_text (codes "NotFound") name
outcome_fields (outcomes.VersionLow name version) =
    Field.Word (codes "VersionLow") ∷ Field.Quoted name ∷ Field.Versioned version ∷ []
outcome_fields (outcomes.BadImage failed) =
    Field.Word (codes "BadImage") ∷ Field.Word (name_of failed.code) ∷ Field.Number failed.at ∷ []
outcome_fields (outcomes.NameMismatch name) = of_text (codes "NameMismatch") name
outcome_fields (outcomes.NotCollectible assembly) = numbered (codes "NotCollectible") (assembly ∷ [])
outcome_fields (outcomes.NoType name) = of_text (codes "NoType") name
outcome_fields (outcomes.NoMethod name) = of_text (codes "NoMethod") name
outcome_fields (outcomes.NoField name) = of_text (codes "NoField") name
outcome_fields (outcomes.Ambiguous name) = of_text (codes "Ambiguous") name
outcome_fields (outcomes.BadMember token) = Field.Word (codes "BadMember") ∷ Field.Token token ∷ []
outcome_fields (outcomes.Unsupported feature) =
    Field.Word (codes "Unsupported") ∷ Field.Word (feature_text feature) ∷ []
outcome_fields (outcomes.VerifyFault token at rule) =
    Field.Word (codes "VerifyFault") ∷ Field.Token token ∷ Field.Number at ∷ Field.Word (rule_word rule) ∷ []
outcome_fields (outcomes.Threw name) = of_text (codes "Threw") name
outcome_fields outcomes.Budget = numbered (codes "Budget") []
outcome_fields outcomes.EventLimit = numbered (codes "EventLimit") []
outcome_fields outcomes.Depth = numbered (codes "Depth") []
outcome_fields outcomes.HeapFull = numbered (codes "HeapFull") []
outcome_fields outcomes.TypeDepth = numbered (codes "TypeDepth") []
outcome_fields outcomes.StaticLong = numbered (codes "StaticLong") []
