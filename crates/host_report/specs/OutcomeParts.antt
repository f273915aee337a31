-- The word of an outcome, and what stands behind it (own: the writer's view, which no promise cites).
use Rattle.std.specs.Prelude.{ℕ, List, [], ◌∷◌, codes}
use Rattle.cli_words.specs.Check.{name_of}
use Rattle.signatures.specs.Features.{text as feature_text}
use Rattle.host_events.specs.declared.outcome.Outcome.{Outcome}
use Rattle.host_events.specs.declared.outcome.Outcome.TheVariants as outcomes
use Rattle.host_report.specs.Fields.{Field, fields_text, front_text}
use Rattle.host_report.specs.Table.{reply_fields, rule_word, units_value}

-- the word that an outcome begins with, unless it is a reply
abbrev pub outcome_word : Outcome → List ℕ
outcome_word (outcomes.Replied reply) = []
outcome_word (outcomes.Value value) = codes "Value"
outcome_word (outcomes.VersionLow name version) = codes "VersionLow"
outcome_word (outcomes.BadImage failed) = codes "BadImage"
outcome_word (outcomes.BadMember token) = codes "BadMember"
outcome_word (outcomes.Unsupported feature) = codes "Unsupported"
outcome_word (outcomes.VerifyFault token at rule) = codes "VerifyFault"
outcome_word (outcomes.Assembly n) = codes "Assembly"
outcome_word (outcomes.NotCollectible n) = codes "NotCollectible"
outcome_word (outcomes.NotFound name) = codes "NotFound"
outcome_word (outcomes.NameMismatch name) = codes "NameMismatch"
outcome_word (outcomes.NoType name) = codes "NoType"
outcome_word (outcomes.NoMethod name) = codes "NoMethod"
outcome_word (outcomes.NoField name) = codes "NoField"
outcome_word (outcomes.Ambiguous name) = codes "Ambiguous"
outcome_word (outcomes.Threw name) = codes "Threw"
outcome_word outcomes.Void = codes "Void"
outcome_word outcomes.Budget = codes "Budget"
outcome_word outcomes.EventLimit = codes "EventLimit"
outcome_word outcomes.Depth = codes "Depth"
outcome_word outcomes.HeapFull = codes "HeapFull"
outcome_word outcomes.TypeDepth = codes "TypeDepth"
outcome_word outcomes.StaticLong = codes "StaticLong"

-- the number or the text of an outcome that has no more than that
abbrev pub operand : Outcome → List Field
operand (outcomes.Assembly n) = Field.Number n ∷ []
operand (outcomes.NotCollectible n) = Field.Number n ∷ []
operand (outcomes.NotFound name) = Field.Quoted name ∷ []
operand (outcomes.NameMismatch name) = Field.Quoted name ∷ []
operand (outcomes.NoType name) = Field.Quoted name ∷ []
operand (outcomes.NoMethod name) = Field.Quoted name ∷ []
operand (outcomes.NoField name) = Field.Quoted name ∷ []
operand (outcomes.Ambiguous name) = Field.Quoted name ∷ []
operand (outcomes.Threw name) = Field.Quoted name ∷ []
operand _ = []

-- what stands behind the word of an outcome
abbrev pub outcome_rest : Outcome → List ℕ
outcome_rest (outcomes.Replied reply) = front_text (reply_fields reply)
outcome_rest (outcomes.Value value) = fields_text (units_value value)
outcome_rest (outcomes.VersionLow name version) = fields_text (Field.Quoted name ∷ Field.Versioned version ∷ [])
outcome_rest (outcomes.BadImage failed) = fields_text (Field.Word (name_of failed.code) ∷ Field.Number failed.at ∷ [])
outcome_rest (outcomes.BadMember token) = fields_text (Field.Token token ∷ [])
outcome_rest (outcomes.Unsupported feature) = fields_text (Field.Word (feature_text feature) ∷ [])
outcome_rest (outcomes.VerifyFault token at rule) =
    fields_text (Field.Token token ∷ Field.Number at ∷ Field.Word (rule_word rule) ∷ [])
outcome_rest outcome = fields_text (operand outcome)
