-- The outcome that a text is (own: the reader's view, which no promise cites).
use Rattle.std.specs.Prelude.{ℕ, List, [], ◌∷◌, Option, Some, None, option_map, option_and_then, if◌then◌else◌, codes}
use Rattle.std.specs.List.{find}
use Rattle.std.specs.Str.{bytes_eq}
use Rattle.cli_words.specs.Check.{name_of}
use Rattle.cli_words.specs.declared.check.CheckCode.{CheckCode}
use Rattle.cli_words.specs.declared.check.CheckCode.TheVariants as checks
use Rattle.host_events.specs.declared.event.Datum.TheVariants as values
use Rattle.host_events.specs.declared.outcome.Outcome.{Outcome}
use Rattle.host_events.specs.declared.outcome.Outcome.TheVariants as outcomes
use Rattle.host_events.specs.declared.outcome.VerifyRule.{VerifyRule}
use Rattle.host_events.specs.declared.outcome.VerifyRule.TheVariants as rules_of_code
use Rattle.signatures.specs.declared.feature.Feature.{Feature}
use Rattle.signatures.specs.Features.{features, text as feature_text}
use Rattle.host_report.specs.FieldReading.{word_read, number_read, version_read, token_read}
use Rattle.host_report.specs.Keyword.{keyword_read, beside}
use Rattle.host_report.specs.Printable.{ends_command}
use Rattle.host_report.specs.Reading.{then_read}
use Rattle.host_report.specs.ReplyReading.{value_read, reply_read}
use Rattle.host_report.specs.Table.{rule_word}
use Rattle.host_report.specs.TextReading.{units_read}

-- the outcomes that are a word, and no reply
abbrev pub plain_outcomes : List (List ℕ × Outcome)
plain_outcomes =
    (codes "Void", outcomes.Void)
    ∷ (codes "Budget", outcomes.Budget)
    ∷ (codes "EventLimit", outcomes.EventLimit)
    ∷ (codes "Depth", outcomes.Depth)
    ∷ (codes "HeapFull", outcomes.HeapFull)
    ∷ (codes "TypeDepth", outcomes.TypeDepth)
    ∷ (codes "StaticLong", outcomes.StaticLong)
    ∷ []

abbrev pub plain_outcome : List ℕ → Option Outcome
plain_outcome name = beside name plain_outcomes

-- an outcome of a number
abbrev pub of_number : (ℕ → Outcome) → List ℕ → Option Outcome
of_number outcome text = then_read (number_read text) (λ number rest. Some (outcome number))

-- an outcome of a text
abbrev pub of_text : (List ℕ → Outcome) → List ℕ → Option Outcome
of_text outcome text = then_read (units_read text) (λ units rest. Some (outcome units))

abbrev pub bad_member_read : List ℕ → Option Outcome
bad_member_read text = then_read (token_read text) (λ token rest. Some (outcomes.BadMember token))

-- what a method gave back
abbrev pub given_read : List ℕ → Option Outcome
given_read text =
    if bytes_eq text (codes "ref") then Some (outcomes.Value values.Ref)
    else then_read (value_read (λ units. units) text) (λ value rest. Some (outcomes.Value value))

abbrev pub version_low_read : List ℕ → Option Outcome
version_low_read text =
    then_read (units_read text) (λ name rest.
    then_read (version_read rest) (λ version rest. Some (outcomes.VersionLow name version)))

-- each check once
abbrev pub all_checks : List CheckCode
all_checks =
    checks.Cut
    ∷ checks.NoMz
    ∷ checks.NoPe
    ∷ checks.Magic
    ∷ checks.NoCli
    ∷ checks.Outside
    ∷ checks.NotIlOnly
    ∷ checks.RootSignature
    ∷ checks.Bounds
    ∷ checks.EditStream
    ∷ checks.NoTables
    ∷ checks.Table
    ∷ checks.Index
    ∷ checks.List
    ∷ checks.Text
    ∷ checks.NoAssembly
    ∷ checks.TooLong
    ∷ checks.Absent
    ∷ []

abbrev pub check_named : List ℕ → Option CheckCode
check_named name = find (λ code. bytes_eq (name_of code) name) all_checks

abbrev pub bad_image_read : List ℕ → Option Outcome
bad_image_read text =
    then_read (keyword_read text) (λ name rest.
    option_and_then (λ code.
    then_read (number_read rest) (λ at rest. Some (outcomes.BadImage (record { code = code; at = at }))))
    (check_named name))

-- the feature of a name
abbrev pub feature_named : List ℕ → Option Feature
feature_named name = find (λ feature. bytes_eq (feature_text feature) name) features

abbrev pub unsupported_read : List ℕ → Option Outcome
unsupported_read text =
    option_map outcomes.Unsupported (feature_named (word_read text).0)

-- each rule once
abbrev pub all_rules : List VerifyRule
all_rules =
    rules_of_code.Depth
    ∷ rules_of_code.Kind
    ∷ rules_of_code.Underflow
    ∷ rules_of_code.Operand
    ∷ rules_of_code.MaxStack
    ∷ rules_of_code.Index
    ∷ rules_of_code.Target
    ∷ rules_of_code.Assign
    ∷ rules_of_code.Member
    ∷ rules_of_code.Return
    ∷ rules_of_code.Region
    ∷ []

abbrev pub rule_named : List ℕ → Option VerifyRule
rule_named name = find (λ rule. bytes_eq (rule_word rule) name) all_rules

abbrev pub verify_fault_read : List ℕ → Option Outcome
verify_fault_read text =
    then_read (token_read text) (λ token rest.
    then_read (number_read rest) (λ at rest.
    then_read (keyword_read rest) (λ name rest.
    option_map (λ rule. outcomes.VerifyFault token at rule) (rule_named name))))

-- a reply with which a command can end
abbrev pub replied_read : List ℕ → Option Outcome
replied_read text =
    option_and_then (λ reply. if ends_command reply then Some (outcomes.Replied reply) else None) (reply_read text)

abbrev pub or_else : Option Outcome → Option Outcome → Option Outcome
or_else None other = other
or_else (Some outcome) other = Some outcome

-- an outcome of one text, whose first word this is, or another one
abbrev pub one_text : List ℕ → List ℕ → List ℕ → Option Outcome
one_text line name text =
    if bytes_eq name (codes "NoType") then of_text outcomes.NoType text
    else (if bytes_eq name (codes "NoMethod") then of_text outcomes.NoMethod text
    else (if bytes_eq name (codes "NoField") then of_text outcomes.NoField text
    else (if bytes_eq name (codes "Ambiguous") then of_text outcomes.Ambiguous text
    else (if bytes_eq name (codes "Threw") then of_text outcomes.Threw text
    else or_else (plain_outcome name) (replied_read line)))))

-- an outcome of one number, token or name, or another one
abbrev pub assembly_outcome : List ℕ → List ℕ → List ℕ → Option Outcome
assembly_outcome line name text =
    if bytes_eq name (codes "BadMember") then bad_member_read text
    else (if bytes_eq name (codes "Assembly") then of_number outcomes.Assembly text
    else (if bytes_eq name (codes "NotCollectible") then of_number outcomes.NotCollectible text
    else (if bytes_eq name (codes "NotFound") then of_text outcomes.NotFound text
    else (if bytes_eq name (codes "NameMismatch") then of_text outcomes.NameMismatch text
    else one_text line name text))))

-- the outcome of a text, whose first word this is, and of what stands behind that
abbrev pub named_outcome : List ℕ → List ℕ → List ℕ → Option Outcome
named_outcome line name text =
    if bytes_eq name (codes "Value") then given_read text
    else (if bytes_eq name (codes "VersionLow") then version_low_read text
    else (if bytes_eq name (codes "BadImage") then bad_image_read text
    else (if bytes_eq name (codes "Unsupported") then unsupported_read text
    else (if bytes_eq name (codes "VerifyFault") then verify_fault_read text
    else assembly_outcome line name text))))

-- the outcome that the text is, up to its end
unfoldable pub outcome_read : List ℕ → Option Outcome
outcome_read text = then_read (keyword_read text) (named_outcome text)
