-- What the reader takes from the text of an outcome, and which outcomes it takes.
use Rattle.std.proofs.Common.{◌≡◌, ◌≢◌, ℕ, ◌^◌, ◌<◌, Bool, true, false, List, [], ◌∷◌, ◌++◌, drop, Option, Some, None, refl, sym, ◌∙◌, ap, append-nil, decimal}
use Rattle.std.specs.Prelude.{IsTrue, ◌↔◌, option_map, option_and_then, if◌then◌else◌, codes}
use Rattle.std.specs.List.{AllByRecursion}
use Rattle.std.specs.Str.{bytes_eq}
use Rattle.std.specs.Str.Parse.{without_leading_plus}
use Rattle.std.proofs.lemmas.Bool.{false≢true}
use Rattle.cli_words.specs.Check.{name_of}
use Rattle.cli_words.specs.Text.{AreUnits}
use Rattle.cli_words.specs.declared.check.CheckCode.{CheckCode}
use Rattle.cli_words.specs.declared.check.CheckCode.TheVariants as checks
use Rattle.host_events.specs.declared.event.Datum.{Datum}
use Rattle.host_events.specs.declared.event.Datum.TheVariants as values
use Rattle.host_events.specs.declared.outcome.Outcome.{Outcome}
use Rattle.host_events.specs.declared.outcome.Outcome.TheVariants as outcomes
use Rattle.host_events.specs.declared.outcome.VerifyRule.{VerifyRule}
use Rattle.host_events.specs.declared.outcome.VerifyRule.TheVariants as rules_of_code
use Rattle.host_events.specs.declared.reply.Reply.{Reply}
use Rattle.host_events.specs.declared.reply.Reply.TheVariants as replies
use Rattle.signatures.specs.declared.feature.Feature.{Feature}
use Rattle.signatures.specs.declared.feature.Feature.TheVariants as feature
use Rattle.signatures.specs.Features.{text as feature_text}
use Rattle.signatures.proofs.Names.{named-exactly, named-text}
use Rattle.host_report.specs.declared.told.Told.TheVariants as lines
use Rattle.host_report.specs.FieldReading.{word_read, is_numeral, number_read, version_read, token_read}
use Rattle.host_report.specs.Fields.{AreFields, front_text, spaced, version_text, token_text}
use Rattle.host_report.specs.Keyword.{keyword_read}
use Rattle.host_report.specs.LineReading.{named_line, counted_line, told_read}
use Rattle.host_report.specs.OutcomeReading.{plain_outcomes, plain_outcome, of_number, of_text, bad_member_read, given_read, version_low_read, check_named, bad_image_read, feature_named, unsupported_read, rule_named, verify_fault_read, replied_read, or_else, one_text, assembly_outcome, named_outcome, outcome_read}
use Rattle.host_report.specs.Printable.{ends_command, IsPrintableReply, IsPrintableOutcome}
use Rattle.host_report.specs.Quote.{quoted}
use Rattle.host_report.specs.Reading.{IsTail, then_read}
use Rattle.host_report.specs.ReplyReading.{value_read, reply_read}
use Rattle.host_report.specs.Table.{units_value, reply_fields, rule_word, outcome_fields}
use Rattle.host_report.specs.TextReading.{units_read}
use Rattle.host_report.proofs.FieldReadingLemmas.{number_spelled}
use Rattle.host_report.proofs.TextReadingLemmas.{units_spelled}
use Rattle.host_report.proofs.WordReadingLemmas.{version_spelled, version_in_range, token_spelled, token_in_range}
use Rattle.host_report.proofs.GivesLemmas.{Gives, GivesFirst, gives_any, gives_all, gives_some, gives_none, gives_if, gives_tested, gives_then, gives_map, gives_and_then, gives_beside, read_then}
use Rattle.host_report.proofs.KeywordLemmas.{is_keyword, plain_word, worded, no_number, not_word, beside_none}
use Rattle.host_report.proofs.ReplyReadingLemmas.{number_given, units_given, value_tail, value_spelled, value_given, numbers_text, numbers_tail, reply_spelled, reply_given}
use Rattle.host_report.proofs.TextThenLemmas.{text_then}

-- what a line tells whose first word is no number
pub worded_told : (word tail : List ℕ) → is_keyword word ≡ true → is_numeral (without_leading_plus word) ≡ false → IsTail tail →
    told_read (word ++ tail) ≡ named_line (word ++ tail) word (drop 1 tail)
unfolding told_read
worded_told word tail known none ends =
    ap (counted_line (word ++ tail)) (no_number word tail known none ends)
    ∙ worded word tail (named_line (word ++ tail)) known ends

-- a line that tells an outcome, by its first word
outcome_row : (word tail : List ℕ) → is_keyword word ≡ true → is_numeral (without_leading_plus word) ≡ false →
    ((line rest : List ℕ) → named_line line word rest ≡ option_map lines.Outcome (outcome_read line)) → IsTail tail →
    (outcome : Outcome) → named_outcome (word ++ tail) word (drop 1 tail) ≡ Some outcome →
    told_read (word ++ tail) ≡ Some (lines.Outcome outcome)
unfolding outcome_read
outcome_row word tail known none line ends outcome named =
    worded_told word tail known none ends
    ∙ line (word ++ tail) (drop 1 tail)
    ∙ ap (option_map lines.Outcome) (worded word tail (named_outcome (word ++ tail)) known ends ∙ named)

number_outcome : (outcome : ℕ → Outcome) (n : ℕ) → n < 2 ^ 32 →
    of_number outcome (drop 1 (numbers_text (n ∷ []))) ≡ Some (outcome n)
number_outcome outcome n small =
    ap (of_number outcome) (append-nil (decimal n ++ []))
    ∙ read_then _ (number_spelled n [] small tt)

text_outcome : (outcome : List ℕ → Outcome) (units : List ℕ) → AreUnits units →
    of_text outcome (quoted units ++ []) ≡ Some (outcome units)
text_outcome outcome units are = read_then _ (units_spelled units [] are)

given_spelled : (value : Datum (List ℕ)) → AreFields (units_value value) →
    given_read (drop 1 (text_then (units_value value) [])) ≡ Some (outcomes.Value value)
given_spelled (values.I4 number) fields =
    read_then _ (value_spelled (λ units. units) (λ units. units) (λ units. Unit {0}) (λ text _. refl) (values.I4 number) [] (fields, tt) tt)
given_spelled (values.I8 number) fields =
    read_then _ (value_spelled (λ units. units) (λ units. units) (λ units. Unit {0}) (λ text _. refl) (values.I8 number) [] (fields, tt) tt)
given_spelled (values.N number) fields =
    read_then _ (value_spelled (λ units. units) (λ units. units) (λ units. Unit {0}) (λ text _. refl) (values.N number) [] (fields, tt) tt)
given_spelled (values.S text) fields =
    read_then _ (value_spelled (λ units. units) (λ units. units) (λ units. Unit {0}) (λ text _. refl) (values.S text) [] (fields, tt) tt)
given_spelled values.Null fields =
    read_then _ (value_spelled (λ units. units) (λ units. units) (λ units. Unit {0}) (λ text _. refl) values.Null [] (fields, tt) tt)
given_spelled values.Ref fields = refl

value_line : (value : Datum (List ℕ)) →
    front_text (outcome_fields (outcomes.Value value)) ≡ codes "Value" ++ text_then (units_value value) []
value_line (values.I4 number) = refl
value_line (values.I8 number) = refl
value_line (values.N number) = refl
value_line (values.S text) = refl
value_line values.Null = refl
value_line values.Ref = refl

check_known : (code : CheckCode) → (is_keyword (name_of code) ≡ true) × (check_named (name_of code) ≡ Some code)
check_known checks.Cut = (refl, refl)
check_known checks.NoMz = (refl, refl)
check_known checks.NoPe = (refl, refl)
check_known checks.Magic = (refl, refl)
check_known checks.NoCli = (refl, refl)
check_known checks.Outside = (refl, refl)
check_known checks.NotIlOnly = (refl, refl)
check_known checks.RootSignature = (refl, refl)
check_known checks.Bounds = (refl, refl)
check_known checks.EditStream = (refl, refl)
check_known checks.NoTables = (refl, refl)
check_known checks.Table = (refl, refl)
check_known checks.Index = (refl, refl)
check_known checks.List = (refl, refl)
check_known checks.Text = (refl, refl)
check_known checks.NoAssembly = (refl, refl)
check_known checks.TooLong = (refl, refl)
check_known checks.Absent = (refl, refl)

bad_image_spelled : (code : CheckCode) (at : ℕ) → at < 2 ^ 32 →
    bad_image_read (name_of code ++ (spaced (decimal at) ++ [])) ≡ Some (outcomes.BadImage (record { code = code; at = at }))
bad_image_spelled code at small =
    let known = check_known code in
    let next : CheckCode → Option Outcome = λ code. then_read (number_read (decimal at ++ [])) (λ at rest. Some (outcomes.BadImage (record { code = code; at = at }))) in
    worded (name_of code) (spaced (decimal at) ++ []) _ known.0 refl
    ∙ ap (option_and_then next) known.1
    ∙ read_then _ (number_spelled at [] small tt)

feature_known : (one : Feature) → is_keyword (feature_text one) ≡ true
feature_known feature.Float = refl
feature_known feature.ValueType = refl
feature_known feature.Pointer = refl
feature_known feature.ArrayShape = refl
feature_known feature.GenericMethod = refl
feature_known feature.Varargs = refl
feature_known feature.Box = refl
feature_known feature.Delegate = refl
feature_known feature.Jump = refl
feature_known feature.Prefix = refl
feature_known feature.Handle = refl
feature_known feature.Size = refl
feature_known feature.Break = refl
feature_known feature.Filter = refl
feature_known feature.ExceptionClause = refl
feature_known feature.Native = refl
feature_known feature.MultiModule = refl
feature_known feature.TypeInitialiser = refl
feature_known feature.ObjectStatic = refl
feature_known feature.GenericEntry = refl
feature_known feature.NotBuilt = refl

unsupported_spelled : (one : Feature) → unsupported_read (feature_text one ++ []) ≡ Some (outcomes.Unsupported one)
unsupported_spelled one =
    ap (λ (parts : List ℕ × List ℕ). option_map outcomes.Unsupported (feature_named parts.0)) (plain_word (feature_text one) [] (feature_known one) tt)
    ∙ ap (option_map outcomes.Unsupported) (named-text one)

rule_known : (rule : VerifyRule) → (is_keyword (rule_word rule) ≡ true) × (rule_named (rule_word rule) ≡ Some rule)
rule_known rules_of_code.Depth = (refl, refl)
rule_known rules_of_code.Kind = (refl, refl)
rule_known rules_of_code.Underflow = (refl, refl)
rule_known rules_of_code.Operand = (refl, refl)
rule_known rules_of_code.MaxStack = (refl, refl)
rule_known rules_of_code.Index = (refl, refl)
rule_known rules_of_code.Target = (refl, refl)
rule_known rules_of_code.Assign = (refl, refl)
rule_known rules_of_code.Member = (refl, refl)
rule_known rules_of_code.Return = (refl, refl)
rule_known rules_of_code.Region = (refl, refl)

verify_fault_spelled : (token at : ℕ) (rule : VerifyRule) → token < 2 ^ 32 → at < 2 ^ 32 →
    verify_fault_read (token_text token ++ (spaced (decimal at) ++ (spaced (rule_word rule) ++ []))) ≡ Some (outcomes.VerifyFault token at rule)
verify_fault_spelled token at rule small low =
    let known = rule_known rule in
    let last = spaced (rule_word rule) ++ [] in
    read_then _ (token_spelled token (spaced (decimal at) ++ last) small refl)
    ∙ read_then _ (number_spelled at last low refl)
    ∙ worded (rule_word rule) [] _ known.0 tt
    ∙ ap (option_map (λ rule. outcomes.VerifyFault token at rule)) known.1

-- a reply with which a command can end
replied_spelled : (reply : Reply) → IsTrue (ends_command reply) → IsPrintableReply reply →
    replied_read (front_text (reply_fields reply)) ≡ Some (outcomes.Replied reply)
replied_spelled reply ends is =
    let tested : Reply → Option Outcome = λ reply. if ends_command reply then Some (outcomes.Replied reply) else None in
    ap (option_and_then tested) (reply_spelled reply is)
    ∙ ap (λ (test : Bool). if test then Some (outcomes.Replied reply) else None) ends

replied_told : (reply : Reply) → IsTrue (ends_command reply) → IsPrintableReply reply →
    told_read (front_text (reply_fields reply)) ≡ Some (lines.Outcome (outcomes.Replied reply))
replied_told (replies.Exists c) ends is =
    outcome_row (codes "Exists") (numbers_text (c ∷ [])) refl refl (λ line rest. refl) refl (outcomes.Replied (replies.Exists c)) (replied_spelled (replies.Exists c) ends is)
replied_told (replies.Made c) ends is =
    outcome_row (codes "Made") (numbers_text (c ∷ [])) refl refl (λ line rest. refl) refl (outcomes.Replied (replies.Made c)) (replied_spelled (replies.Made c) ends is)
replied_told replies.NoContext ends is =
    outcome_row (codes "NoContext") (numbers_text []) refl refl (λ line rest. refl) tt (outcomes.Replied replies.NoContext) (replied_spelled replies.NoContext ends is)
replied_told (replies.Unloading c) ends is =
    outcome_row (codes "Unloading") (numbers_text (c ∷ [])) refl refl (λ line rest. refl) refl (outcomes.Replied (replies.Unloading c)) (replied_spelled (replies.Unloading c) ends is)
replied_told (replies.Set c) ends is =
    outcome_row (codes "Set") (numbers_text (c ∷ [])) refl refl (λ line rest. refl) refl (outcomes.Replied (replies.Set c)) (replied_spelled (replies.Set c) ends is)
replied_told (replies.Entered k c) ends is = absurd (false≢true ends)
replied_told replies.NoHandle ends is =
    outcome_row (codes "NoHandle") (numbers_text []) refl refl (λ line rest. refl) tt (outcomes.Replied replies.NoHandle) (replied_spelled replies.NoHandle ends is)
replied_told (replies.EnteredAt k c a m) ends is = absurd (false≢true ends)
replied_told replies.Miss ends is = absurd (false≢true ends)
replied_told (replies.Hit a) ends is = absurd (false≢true ends)
replied_told (replies.Low a) ends is = absurd (false≢true ends)
replied_told (replies.Image i) ends is = absurd (false≢true ends)
replied_told (replies.Foreign a) ends is = absurd (false≢true ends)
replied_told replies.Nothing ends is = absurd (false≢true ends)
replied_told (replies.Lost a) ends is = absurd (false≢true ends)
replied_told (replies.NotCollectible a) ends is = absurd (false≢true ends)
replied_told (replies.Shared a) ends is = absurd (false≢true ends)
replied_told (replies.Bound a) ends is = absurd (false≢true ends)
replied_told (replies.Placed c) ends is = absurd (false≢true ends)
replied_told (replies.Value value) ends is = absurd (false≢true ends)
replied_told replies.Stored ends is = absurd (false≢true ends)
replied_told replies.InUse ends is =
    outcome_row (codes "InUse") (numbers_text []) refl refl (λ line rest. refl) tt (outcomes.Replied replies.InUse) (replied_spelled replies.InUse ends is)
replied_told (replies.Held c) ends is =
    outcome_row (codes "Held") (numbers_text (c ∷ [])) refl refl (λ line rest. refl) refl (outcomes.Replied (replies.Held c)) (replied_spelled (replies.Held c) ends is)
replied_told replies.Dropped ends is =
    outcome_row (codes "Dropped") (numbers_text []) refl refl (λ line rest. refl) tt (outcomes.Replied replies.Dropped) (replied_spelled replies.Dropped ends is)
replied_told (replies.Weakly c) ends is =
    outcome_row (codes "Weakly") (numbers_text (c ∷ [])) refl refl (λ line rest. refl) refl (outcomes.Replied (replies.Weakly c)) (replied_spelled (replies.Weakly c) ends is)
replied_told (replies.Alive c) ends is =
    outcome_row (codes "Alive") (numbers_text (c ∷ [])) refl refl (λ line rest. refl) refl (outcomes.Replied (replies.Alive c)) (replied_spelled (replies.Alive c) ends is)
replied_told (replies.Gone c) ends is =
    outcome_row (codes "Gone") (numbers_text (c ∷ [])) refl refl (λ line rest. refl) refl (outcomes.Replied (replies.Gone c)) (replied_spelled (replies.Gone c) ends is)
replied_told (replies.Fixed c) ends is =
    outcome_row (codes "Fixed") (numbers_text (c ∷ [])) refl refl (λ line rest. refl) refl (outcomes.Replied (replies.Fixed c)) (replied_spelled (replies.Fixed c) ends is)
replied_told (replies.Already c) ends is =
    outcome_row (codes "Already") (numbers_text (c ∷ [])) refl refl (λ line rest. refl) refl (outcomes.Replied (replies.Already c)) (replied_spelled (replies.Already c) ends is)
replied_told (replies.Freed contexts) ends is =
    outcome_row (codes "Freed") (numbers_text contexts.list) refl refl (λ line rest. refl) (numbers_tail contexts.list) (outcomes.Replied (replies.Freed contexts)) (replied_spelled (replies.Freed contexts) ends is)
replied_told replies.Left ends is = absurd (false≢true ends)

-- an outcome is read from its line
pub outcome_told : (outcome : Outcome) → IsPrintableOutcome outcome →
    told_read (front_text (outcome_fields outcome)) ≡ Some (lines.Outcome outcome)
outcome_told (outcomes.Replied reply) is = replied_told reply is.1.0 (is.0, is.1.1)
outcome_told (outcomes.Assembly assembly) is =
    outcome_row (codes "Assembly") (numbers_text (assembly ∷ [])) refl refl (λ line rest. refl) refl (outcomes.Assembly assembly) (number_outcome outcomes.Assembly assembly is.0.1.0.0)
outcome_told (outcomes.Value value) is =
    ap told_read (value_line value)
    ∙ outcome_row (codes "Value") (text_then (units_value value) []) refl refl (λ line rest. refl) (value_tail (λ units. units) value [])
    (outcomes.Value value) (given_spelled value is.0.1)
outcome_told outcomes.Void is =
    outcome_row (codes "Void") [] refl refl (λ line rest. refl) tt outcomes.Void refl
outcome_told (outcomes.NotFound name) is =
    outcome_row (codes "NotFound") (spaced (quoted name) ++ []) refl refl (λ line rest. refl) refl (outcomes.NotFound name) (text_outcome outcomes.NotFound name is.0.1.0)
outcome_told (outcomes.VersionLow name version) is =
    outcome_row (codes "VersionLow") (spaced (quoted name) ++ (spaced (version_text version) ++ [])) refl refl (λ line rest. refl) refl (outcomes.VersionLow name version)
    (read_then _ (units_spelled name (spaced (version_text version) ++ []) is.0.1.0) ∙ read_then _ (version_spelled version [] is.0.1.1.0 tt))
outcome_told (outcomes.BadImage failed) is =
    outcome_row (codes "BadImage") (spaced (name_of failed.code) ++ (spaced (decimal failed.at) ++ [])) refl refl (λ line rest. refl) refl (outcomes.BadImage failed) (bad_image_spelled failed.code failed.at is.0.1.1.0)
outcome_told (outcomes.NameMismatch name) is =
    outcome_row (codes "NameMismatch") (spaced (quoted name) ++ []) refl refl (λ line rest. refl) refl (outcomes.NameMismatch name) (text_outcome outcomes.NameMismatch name is.0.1.0)
outcome_told (outcomes.NotCollectible assembly) is =
    outcome_row (codes "NotCollectible") (numbers_text (assembly ∷ [])) refl refl (λ line rest. refl) refl (outcomes.NotCollectible assembly) (number_outcome outcomes.NotCollectible assembly is.0.1.0.0)
outcome_told (outcomes.NoType name) is =
    outcome_row (codes "NoType") (spaced (quoted name) ++ []) refl refl (λ line rest. refl) refl (outcomes.NoType name) (text_outcome outcomes.NoType name is.0.1.0)
outcome_told (outcomes.NoMethod name) is =
    outcome_row (codes "NoMethod") (spaced (quoted name) ++ []) refl refl (λ line rest. refl) refl (outcomes.NoMethod name) (text_outcome outcomes.NoMethod name is.0.1.0)
outcome_told (outcomes.NoField name) is =
    outcome_row (codes "NoField") (spaced (quoted name) ++ []) refl refl (λ line rest. refl) refl (outcomes.NoField name) (text_outcome outcomes.NoField name is.0.1.0)
outcome_told (outcomes.Ambiguous name) is =
    outcome_row (codes "Ambiguous") (spaced (quoted name) ++ []) refl refl (λ line rest. refl) refl (outcomes.Ambiguous name) (text_outcome outcomes.Ambiguous name is.0.1.0)
outcome_told (outcomes.BadMember token) is =
    outcome_row (codes "BadMember") (spaced (token_text token) ++ []) refl refl (λ line rest. refl) refl (outcomes.BadMember token) (read_then _ (token_spelled token [] is.0.1.0 tt))
outcome_told (outcomes.Unsupported one) is =
    outcome_row (codes "Unsupported") (spaced (feature_text one) ++ []) refl refl (λ line rest. refl) refl (outcomes.Unsupported one) (unsupported_spelled one)
outcome_told (outcomes.VerifyFault token at rule) is =
    outcome_row (codes "VerifyFault") (spaced (token_text token) ++ (spaced (decimal at) ++ (spaced (rule_word rule) ++ []))) refl refl (λ line rest. refl) refl (outcomes.VerifyFault token at rule)
    (verify_fault_spelled token at rule is.0.1.0 is.0.1.1.0)
outcome_told (outcomes.Threw name) is =
    outcome_row (codes "Threw") (spaced (quoted name) ++ []) refl refl (λ line rest. refl) refl (outcomes.Threw name) (text_outcome outcomes.Threw name is.0.1.0)
outcome_told outcomes.Budget is =
    outcome_row (codes "Budget") [] refl refl (λ line rest. refl) tt outcomes.Budget refl
outcome_told outcomes.EventLimit is =
    outcome_row (codes "EventLimit") [] refl refl (λ line rest. refl) tt outcomes.EventLimit refl
outcome_told outcomes.Depth is =
    outcome_row (codes "Depth") [] refl refl (λ line rest. refl) tt outcomes.Depth refl
outcome_told outcomes.HeapFull is =
    outcome_row (codes "HeapFull") [] refl refl (λ line rest. refl) tt outcomes.HeapFull refl
outcome_told outcomes.TypeDepth is =
    outcome_row (codes "TypeDepth") [] refl refl (λ line rest. refl) tt outcomes.TypeDepth refl
outcome_told outcomes.StaticLong is =
    outcome_row (codes "StaticLong") [] refl refl (λ line rest. refl) tt outcomes.StaticLong refl

-- what is read can be printed
gives_else : {x y : Option Outcome} → Gives IsPrintableOutcome x → Gives IsPrintableOutcome y → Gives IsPrintableOutcome (or_else x y)
gives_else {x = None} gives other = other
gives_else {x = Some outcome} gives other = gives

plain_given : (name : List ℕ) → Gives IsPrintableOutcome (plain_outcome name)
plain_given name =
    gives_beside IsPrintableOutcome plain_outcomes name (
      ((tt, (tt, tt)), tt),
      (
        ((tt, (tt, tt)), tt),
        (
          ((tt, (tt, tt)), tt),
          (
            ((tt, (tt, tt)), tt),
            (
              ((tt, (tt, tt)), tt),
              (
                ((tt, (tt, tt)), tt),
                (((tt, (tt, tt)), tt), tt),
              ),
            ),
          ),
        ),
      ),
    )

text_given : (outcome : List ℕ → Outcome) → ((units : List ℕ) → AreUnits units → IsPrintableOutcome (outcome units)) →
    (text : List ℕ) → Gives IsPrintableOutcome (of_text outcome text)
text_given outcome fine text =
    gives_then (units_read text) _ (units_given text) (λ units rest are. gives_some _ (outcome units) (fine units are))

of_number_given : (outcome : ℕ → Outcome) → ((n : ℕ) → n < 2 ^ 32 → IsPrintableOutcome (outcome n)) →
    (text : List ℕ) → Gives IsPrintableOutcome (of_number outcome text)
of_number_given outcome fine text =
    gives_then (number_read text) _ (number_given text) (λ n rest small. gives_some _ (outcome n) (fine n small))

given_given : (text : List ℕ) → Gives IsPrintableOutcome (given_read text)
given_given text =
    gives_if (bytes_eq text (codes "ref")) (gives_some _ (outcomes.Value values.Ref) ((tt, (tt, tt)), tt))
    (gives_then (value_read (λ units. units) text) _ (value_given (λ units. units) (λ units. units) (λ units. Unit {0}) (λ units. refl) (λ units. tt) text) (λ value rest is.
    gives_some _ (outcomes.Value value) ((tt, is.0), tt)))

version_low_given : (text : List ℕ) → Gives IsPrintableOutcome (version_low_read text)
version_low_given text =
    gives_then (units_read text) _ (units_given text) (λ name rest are.
    gives_then (version_read rest) _ (record { each = version_in_range rest }) (λ version rest fits.
    gives_some _ (outcomes.VersionLow name version) ((tt, (are, (fits, tt))), tt)))

bad_image_given : (text : List ℕ) → Gives IsPrintableOutcome (bad_image_read text)
bad_image_given text =
    gives_then (keyword_read text) _ gives_any (λ name rest _.
    gives_and_then (check_named name) _ gives_all (λ code _.
    gives_then (number_read rest) _ (number_given rest) (λ at rest small.
    gives_some _ (outcomes.BadImage (record { code = code; at = at })) ((tt, (tt, (small, tt))), tt))))

unsupported_given : (text : List ℕ) → Gives IsPrintableOutcome (unsupported_read text)
unsupported_given text =
    gives_map (feature_named (word_read text).0) outcomes.Unsupported gives_all (λ one _. ((tt, (tt, tt)), tt))

token_given : (text : List ℕ) → GivesFirst (λ (token : ℕ). token < 2 ^ 32) (token_read text)
token_given text = record { each = token_in_range text }

verify_fault_given : (text : List ℕ) → Gives IsPrintableOutcome (verify_fault_read text)
verify_fault_given text =
    gives_then (token_read text) _ (token_given text) (λ token rest small.
    gives_then (number_read rest) _ (number_given rest) (λ at rest low.
    gives_then (keyword_read rest) _ gives_any (λ name rest _.
    gives_map (rule_named name) (λ rule. outcomes.VerifyFault token at rule) gives_all (λ rule _. ((tt, (small, (low, (tt, tt)))), tt)))))

bad_member_given : (text : List ℕ) → Gives IsPrintableOutcome (bad_member_read text)
bad_member_given text =
    gives_then (token_read text) _ (token_given text) (λ token rest small.
    gives_some _ (outcomes.BadMember token) ((tt, (small, tt)), tt))

replied_given : (text : List ℕ) → Gives IsPrintableOutcome (replied_read text)
replied_given text =
    gives_and_then (reply_read text) _ (reply_given text) (λ reply is.
    gives_tested (ends_command reply) (λ ends. gives_some _ (outcomes.Replied reply) (is.0, (ends, is.1))) (gives_none _))

named_given : (line name text : List ℕ) → Gives IsPrintableOutcome (named_outcome line name text)
named_given line name text =
    gives_if (bytes_eq name (codes "Value")) (given_given text)
    (gives_if (bytes_eq name (codes "VersionLow")) (version_low_given text)
    (gives_if (bytes_eq name (codes "BadImage")) (bad_image_given text)
    (gives_if (bytes_eq name (codes "Unsupported")) (unsupported_given text)
    (gives_if (bytes_eq name (codes "VerifyFault")) (verify_fault_given text)
    (gives_if (bytes_eq name (codes "BadMember")) (bad_member_given text)
    (gives_if (bytes_eq name (codes "Assembly")) (of_number_given outcomes.Assembly (λ n small. ((tt, ((small, tt), tt)), tt)) text)
    (gives_if (bytes_eq name (codes "NotCollectible")) (of_number_given outcomes.NotCollectible (λ n small. ((tt, ((small, tt), tt)), tt)) text)
    (gives_if (bytes_eq name (codes "NotFound")) (text_given outcomes.NotFound (λ units are. ((tt, (are, tt)), tt)) text)
    (gives_if (bytes_eq name (codes "NameMismatch")) (text_given outcomes.NameMismatch (λ units are. ((tt, (are, tt)), tt)) text)
    (gives_if (bytes_eq name (codes "NoType")) (text_given outcomes.NoType (λ units are. ((tt, (are, tt)), tt)) text)
    (gives_if (bytes_eq name (codes "NoMethod")) (text_given outcomes.NoMethod (λ units are. ((tt, (are, tt)), tt)) text)
    (gives_if (bytes_eq name (codes "NoField")) (text_given outcomes.NoField (λ units are. ((tt, (are, tt)), tt)) text)
    (gives_if (bytes_eq name (codes "Ambiguous")) (text_given outcomes.Ambiguous (λ units are. ((tt, (are, tt)), tt)) text)
    (gives_if (bytes_eq name (codes "Threw")) (text_given outcomes.Threw (λ units are. ((tt, (are, tt)), tt)) text)
    (gives_else (plain_given name) (replied_given line))))))))))))))))

pub outcome_given : (text : List ℕ) → Gives IsPrintableOutcome (outcome_read text)
unfolding outcome_read
outcome_given text = gives_then (keyword_read text) (named_outcome text) gives_any (λ name rest _. named_given text name rest)

-- the feature of a name that is known
pub feature_found : (name : List ℕ) (one : Feature) → feature_text one ≡ name → feature_named name ≡ Some one
feature_found name one is = ap feature_named (sym is) ∙ named-text one

-- no feature has the name
pub feature_missed : (name : List ℕ) (found : Option Feature) → found ≡ None →
    ((one : Feature) → (found ≡ Some one) ↔ (feature_text one ≡ name)) → feature_named name ≡ None
feature_missed name found none exactly =
    missed (feature_named name) (λ one is. (named-exactly name (feature_named name) refl one).0 is)
  where
    missed : (there : Option Feature) → ((one : Feature) → there ≡ Some one → feature_text one ≡ name) → there ≡ None
    missed None has = refl
    missed (Some one) has =
        let given : found ≡ Some one = (exactly one).1 (has one refl) in
        cc

-- the outcome of a word that is known
pub outcome_at : (text name rest word : List ℕ) → keyword_read text ≡ Some (name, rest) → name ≡ word →
    outcome_read text ≡ named_outcome text word rest
unfolding outcome_read
outcome_at text name rest word read is =
    ap (λ read. then_read read (named_outcome text)) read ∙ ap (λ (name : List ℕ). named_outcome text name rest) is

-- any word that does not come first in these tables
pub outcome_other : (text name rest : List ℕ) → keyword_read text ≡ Some (name, rest) →
    name ≢ codes "Value" → name ≢ codes "VersionLow" → name ≢ codes "BadImage" → name ≢ codes "Unsupported" → name ≢ codes "VerifyFault" →
    outcome_read text ≡ assembly_outcome text name rest
outcome_other text name rest read n0 n1 n2 n3 n4 =
    outcome_at text name rest name read refl
    ∙ rw (
      not_word name (codes "Value") n0,
      not_word name (codes "VersionLow") n1,
      not_word name (codes "BadImage") n2,
      not_word name (codes "Unsupported") n3,
      not_word name (codes "VerifyFault") n4,
    ) refl

pub assembly_other : (line name text : List ℕ) →
    name ≢ codes "BadMember" → name ≢ codes "Assembly" → name ≢ codes "NotCollectible" → name ≢ codes "NotFound" → name ≢ codes "NameMismatch" →
    assembly_outcome line name text ≡ one_text line name text
assembly_other line name text n0 n1 n2 n3 n4 =
    rw (
      not_word name (codes "BadMember") n0,
      not_word name (codes "Assembly") n1,
      not_word name (codes "NotCollectible") n2,
      not_word name (codes "NotFound") n3,
      not_word name (codes "NameMismatch") n4,
    ) refl

pub text_other : (line name text : List ℕ) →
    name ≢ codes "NoType" → name ≢ codes "NoMethod" → name ≢ codes "NoField" → name ≢ codes "Ambiguous" → name ≢ codes "Threw" →
    one_text line name text ≡ or_else (plain_outcome name) (replied_read line)
text_other line name text n0 n1 n2 n3 n4 =
    rw (
      not_word name (codes "NoType") n0,
      not_word name (codes "NoMethod") n1,
      not_word name (codes "NoField") n2,
      not_word name (codes "Ambiguous") n3,
      not_word name (codes "Threw") n4,
    ) refl

pub plain_other : (line name : List ℕ) → AllByRecursion (λ (row : List ℕ × Outcome). name ≢ row.0) plain_outcomes →
    or_else (plain_outcome name) (replied_read line) ≡ replied_read line
plain_other line name none = ap (λ found. or_else found (replied_read line)) (beside_none name plain_outcomes none)
