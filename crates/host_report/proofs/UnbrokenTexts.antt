-- No printable line has an LF within it.
use Rattle.std.proofs.Common.{◌≡◌, ◌≢◌, ℕ, ◌+◌, ◌-◌, ◌/◌, ◌%◌, ◌<◌, ◌≤◌, ◌^◌, Bool, true, false, not, ◌&&◌, cond, List, [], ◌∷◌, ◌++◌, refl, sym, ◌∙◌, ap, take, drop, zero, suc, ℤ, pos, negsuc, encode_utf8, arith}
use Rattle.std.specs.Prelude.{codes, decimal, get_or, nat_lt, ◌==◌, ◌||◌}
use Rattle.std.specs.Char.Utf16.{surrogate_pair_char}
use Rattle.std.specs.Fmt.{digit_glyph, digits, digits_onto, signed_decimal}
use Rattle.std.specs.List.{flat_map, AllByRecursion, list_all}
use Rattle.std.proofs.Math.Utf8.{encode}
use Rattle.std.proofs.lemmas.Bool.{cond_both, and_parts, eqb-false, true≢false}
use Rattle.cli_words.specs.declared.check.CheckCode.{CheckCode}
use Rattle.cli_words.specs.declared.check.CheckCode.TheVariants as checks
use Rattle.cli_words.specs.Check.{name_of}
use Rattle.cli_words.specs.Name.{is_name_byte}
use Rattle.signatures.specs.declared.feature.Feature.{Feature}
use Rattle.signatures.specs.declared.feature.Feature.TheVariants as features
use Rattle.signatures.specs.declared.key.KeyPart.{KeyPart}
use Rattle.signatures.specs.declared.key.KeyPart.TheVariants.{Prim, Class, Vector}
use Rattle.signatures.specs.declared.sig.Primitive.{Primitive}
use Rattle.signatures.specs.declared.sig.Primitive.TheVariants as primitives
use Rattle.signatures.specs.Features.{text as feature_text}
use Rattle.host_events.specs.declared.event.AskStep.{AskStep}
use Rattle.host_events.specs.declared.event.AskStep.TheVariants as steps
use Rattle.host_events.specs.declared.event.Candidate.{Candidate}
use Rattle.host_events.specs.declared.event.Candidate.TheVariants as candidates
use Rattle.host_events.specs.declared.event.ContextKind.{ContextKind}
use Rattle.host_events.specs.declared.event.ContextKind.TheVariants as kinds
use Rattle.host_events.specs.declared.event.Datum.{Datum}
use Rattle.host_events.specs.declared.event.Datum.TheVariants as values
use Rattle.host_events.specs.declared.event.Event.{Event}
use Rattle.host_events.specs.declared.event.Event.TheVariants as events
use Rattle.host_events.specs.declared.event.RuleAnswer.{RuleAnswer}
use Rattle.host_events.specs.declared.event.RuleAnswer.TheVariants as answers
use Rattle.host_events.specs.declared.event.RuleAt.{RuleAt}
use Rattle.host_events.specs.declared.event.RuleAt.TheVariants as places
use Rattle.host_events.specs.declared.event.ValueKind.{ValueKind}
use Rattle.host_events.specs.declared.event.ValueKind.TheVariants as value_kinds
use Rattle.host_events.specs.declared.outcome.Outcome.{Outcome}
use Rattle.host_events.specs.declared.outcome.Outcome.TheVariants as outcomes
use Rattle.host_events.specs.declared.outcome.VerifyRule.{VerifyRule}
use Rattle.host_events.specs.declared.outcome.VerifyRule.TheVariants as rules_of_code
use Rattle.host_events.specs.declared.reply.Reply.{Reply}
use Rattle.host_events.specs.declared.reply.Reply.TheVariants as replies
use Rattle.host_report.specs.declared.told.Told.{Told}
use Rattle.host_report.specs.declared.told.Told.TheVariants as tolds
use Rattle.host_report.specs.Fields.{Field, AreFields, IsField, byte_digits, field_text, fields_text, front_text, spaced, token_text, version_text}
use Rattle.host_report.specs.KeyText.{after_commas, arguments_text, array_texts, key_text, key_texts, primitive_text}
use Rattle.host_report.specs.Quote.{escape_text, is_pair, is_surrogate, quoted, unit_text, units_text}
use Rattle.host_report.specs.ReadBack.{IsUnbroken}
use Rattle.host_report.specs.Table.{event_fields, outcome_fields, reply_fields, value_fields, step_word, kind_word, answer_fields, candidate_fields, kind_fields, place_fields, rule_word}
use Rattle.host_report.specs.Told.{IsPrintableTold, told_fields}
use Rattle.host_report.proofs.FieldLemmas.{fields_text-append}
use Rattle.host_report.proofs.LineParts.{all_both}

-- a test of it
abbrev pub is_unbroken : List ℕ → Bool
is_unbroken bytes = list_all (λ byte. not (byte == 10)) bytes

not_ten : (byte : ℕ) → not (byte == 10) ≡ true → byte ≢ 10
not_ten byte e same = true≢false (sym e ∙ ap (λ b. not (b == 10)) same)

pub unbroken_by_test : (bytes : List ℕ) → is_unbroken bytes ≡ true → IsUnbroken bytes
unbroken_by_test [] e = tt
unbroken_by_test (byte ∷ bytes) e =
    let parts = and_parts (not (byte == 10)) (is_unbroken bytes) e in
    (not_ten byte parts.0, unbroken_by_test bytes parts.1)

both : (a b : List ℕ) → IsUnbroken a → IsUnbroken b → IsUnbroken (a ++ b)
both a b p q = all_both (λ byte. byte ≢ 10) a b p q

-- numbers
glyph_above : (upper : Bool) (d : ℕ) → digit_glyph upper d ≢ 10
glyph_above upper d =
    cond_both (nat_lt d 10) (48 + d) (cond upper (55 + d) (87 + d)) (λ glyph. glyph ≢ 10) (λ _ e. omega (arith, e))
    (λ _. cond_both upper (55 + d) (87 + d) (λ glyph. glyph ≢ 10) (λ _ e. omega (arith, e)) (λ _ e. omega (arith, e)))

digits_unbroken : (k n : ℕ) (after : List ℕ) → IsUnbroken after → IsUnbroken (digits_onto k 10 false n after)
digits_unbroken zero n after p = p
digits_unbroken (suc k) n after p =
    let next = digit_glyph false (n % 10) ∷ after in
    let unbroken : IsUnbroken next = (glyph_above false (n % 10), p) in
    cond_both (n / 10 == 0) next (digits_onto k 10 false (n / 10) next) IsUnbroken (λ _. unbroken)
    (λ _. digits_unbroken k (n / 10) next unbroken)

decimal_unbroken : (n : ℕ) → IsUnbroken (decimal n)
unfolding digits
decimal_unbroken n = digits_unbroken 64 n [] tt

signed_unbroken : (n : ℤ) → IsUnbroken (signed_decimal n)
signed_unbroken (pos n) = decimal_unbroken n
signed_unbroken (negsuc n) = (λ e. omega (arith, e), decimal_unbroken (suc n))

spaced_unbroken : (text : List ℕ) → IsUnbroken text → IsUnbroken (spaced text)
spaced_unbroken text p = both (codes " ") text (unbroken_by_test (codes " ") refl) p

numbers_unbroken : (numbers : List ℕ) → IsUnbroken (flat_map (λ number. spaced (decimal number)) numbers)
numbers_unbroken [] = tt
numbers_unbroken (n ∷ numbers) =
    both (spaced (decimal n)) (flat_map (λ number. spaced (decimal number)) numbers) (spaced_unbroken (decimal n) (decimal_unbroken n)) (numbers_unbroken numbers)

name_bytes : (bytes : List ℕ) → list_all is_name_byte bytes ≡ true → IsUnbroken bytes
name_bytes [] e = tt
name_bytes (byte ∷ bytes) e =
    let parts = and_parts (is_name_byte byte) (list_all is_name_byte bytes) e in
    (λ same. true≢false (sym parts.0 ∙ ap is_name_byte same), name_bytes bytes parts.1)

-- texts
encoded : (c : ℕ) → c ≢ 10 → IsUnbroken (encode_utf8 c)
unfolding encode
encoded c p =
    let above : (n : ℕ) → 128 ≤ n → n ≢ 10 = λ n high e. omega (arith, high, e) in
    let next : (bits : ℕ) → 128 + bits % 64 ≢ 10 = λ bits e. omega (arith, e) in
    cond_both (nat_lt c 128) _ _ IsUnbroken (λ _. (p, tt))
    (λ _. cond_both (nat_lt c 2048) _ _ IsUnbroken (λ _. ((λ e. omega (arith, e)), (next c, tt)))
    (λ _. cond_both (nat_lt c 65536) _ _ IsUnbroken (λ _. ((λ e. omega (arith, e)), (next (c / 64), (next c, tt))))
    (λ _. ((λ e. omega (arith, e)), (next (c / 4096), (next (c / 64), (next c, tt)))))))

escaped : (unit : ℕ) → IsUnbroken (escape_text unit)
escaped unit =
    both (codes "\\u") (digit_glyph true (unit / 4096) ∷ digit_glyph true (unit / 256 % 16) ∷ digit_glyph true (unit / 16 % 16) ∷ digit_glyph true (unit % 16) ∷ [])
    (unbroken_by_test (codes "\\u") refl)
    (glyph_above true (unit / 4096), (glyph_above true (unit / 256 % 16), (glyph_above true (unit / 16 % 16), (glyph_above true (unit % 16), tt))))

unit_unbroken : (unit : ℕ) → IsUnbroken (unit_text unit)
unit_unbroken unit =
    cond_both (unit == 34) _ _ IsUnbroken (λ _. unbroken_by_test (codes "\\\"") refl)
    (λ _. cond_both (unit == 92) _ _ IsUnbroken (λ _. unbroken_by_test (codes "\\\\") refl)
    (λ _. cond_both (unit == 10) _ _ IsUnbroken (λ _. unbroken_by_test (codes "\\n") refl)
    (λ ten. cond_both ((nat_lt unit 32 || unit == 127) || is_surrogate unit) _ _ IsUnbroken (λ _. escaped unit)
    (λ _. encoded unit (eqb-false unit 10 ten)))))

pair_high : (high low : ℕ) → surrogate_pair_char high low ≢ 10
pair_high high low e = omega (arith, e)

units_unbroken : (units : List ℕ) → IsUnbroken (units_text units)
units_unbroken [] = tt
units_unbroken (unit ∷ []) = unit_unbroken unit
units_unbroken (unit ∷ next ∷ units) =
    cond_both (is_pair unit next) (encode_utf8 (surrogate_pair_char unit next) ++ units_text units) (unit_text unit ++ units_text (next ∷ units)) IsUnbroken
    (λ _. both (encode_utf8 (surrogate_pair_char unit next)) (units_text units) (encoded (surrogate_pair_char unit next) (pair_high unit next)) (units_unbroken units))
    (λ _. both (unit_text unit) (units_text (next ∷ units)) (unit_unbroken unit) (units_unbroken (next ∷ units)))

quoted_unbroken : (units : List ℕ) → IsUnbroken (quoted units)
quoted_unbroken units =
    both (codes "\"" ++ units_text units) (codes "\"") (both (codes "\"") (units_text units) (unbroken_by_test (codes "\"") refl) (units_unbroken units)) (unbroken_by_test (codes "\"") refl)

-- keys
taken : {T : Type 0} (P : T → Type 0) (n : ℕ) (xs : List T) → AllByRecursion P xs → AllByRecursion P (take n xs)
taken P zero xs p = tt
taken P (suc n) [] p = tt
taken P (suc n) (x ∷ xs) p = (p.0, taken P n xs p.1)

dropped : {T : Type 0} (P : T → Type 0) (n : ℕ) (xs : List T) → AllByRecursion P xs → AllByRecursion P (drop n xs)
dropped P zero xs p = p
dropped P (suc n) [] p = tt
dropped P (suc n) (x ∷ xs) p = dropped P n xs p.1

primitive_unbroken : (prim : Primitive) → is_unbroken (primitive_text prim) ≡ true
primitive_unbroken primitives.Bool = refl
primitive_unbroken primitives.Char = refl
primitive_unbroken primitives.Int8 = refl
primitive_unbroken primitives.UInt8 = refl
primitive_unbroken primitives.Int16 = refl
primitive_unbroken primitives.UInt16 = refl
primitive_unbroken primitives.Int32 = refl
primitive_unbroken primitives.UInt32 = refl
primitive_unbroken primitives.Int64 = refl
primitive_unbroken primitives.UInt64 = refl
primitive_unbroken primitives.Native = refl
primitive_unbroken primitives.UNative = refl
primitive_unbroken primitives.Text = refl
primitive_unbroken primitives.Object = refl

commas_unbroken : (texts : List (List ℕ)) → AllByRecursion IsUnbroken texts → IsUnbroken (after_commas texts)
commas_unbroken [] p = tt
commas_unbroken (text ∷ texts) p =
    both (codes "," ++ text) (after_commas texts) (both (codes ",") text (unbroken_by_test (codes ",") refl) p.0) (commas_unbroken texts p.1)

arguments_unbroken : (texts : List (List ℕ)) → AllByRecursion IsUnbroken texts → IsUnbroken (arguments_text texts)
arguments_unbroken [] p = tt
arguments_unbroken (text ∷ texts) p =
    both ((codes "<" ++ text) ++ after_commas texts) (codes ">")
    (both (codes "<" ++ text) (after_commas texts) (both (codes "<") text (unbroken_by_test (codes "<") refl) p.0) (commas_unbroken texts p.1))
    (unbroken_by_test (codes ">") refl)

arrays_unbroken : (texts : List (List ℕ)) → AllByRecursion IsUnbroken texts → AllByRecursion IsUnbroken (array_texts texts)
arrays_unbroken [] p = tt
arrays_unbroken (text ∷ texts) p = (both text (codes "[]") p.0 (unbroken_by_test (codes "[]") refl), p.1)

keys_unbroken : (parts : List KeyPart) → AllByRecursion IsUnbroken (key_texts parts)
keys_unbroken [] = tt
keys_unbroken (Prim prim ∷ parts) = (unbroken_by_test (primitive_text prim) (primitive_unbroken prim), keys_unbroken parts)
keys_unbroken (Class assembly row args ∷ parts) =
    let texts = key_texts parts in
    let all : AllByRecursion IsUnbroken texts = keys_unbroken parts in (
      both (((codes "[" ++ decimal assembly) ++ codes "]") ++ decimal row) (arguments_text (take args texts))
          (both ((codes "[" ++ decimal assembly) ++ codes "]") (decimal row)
          (both (codes "[" ++ decimal assembly) (codes "]") (both (codes "[") (decimal assembly) (unbroken_by_test (codes "[") refl) (decimal_unbroken assembly)) (unbroken_by_test (codes "]") refl))
          (decimal_unbroken row))
          (arguments_unbroken (take args texts) (taken IsUnbroken args texts all)),
      dropped IsUnbroken args texts all,
    )
keys_unbroken (Vector ∷ parts) = arrays_unbroken (key_texts parts) (keys_unbroken parts)

first_of : (texts : List (List ℕ)) → AllByRecursion IsUnbroken texts → IsUnbroken (get_or texts 0 [])
first_of [] p = tt
first_of (text ∷ texts) p = p.0

byte_unbroken : (byte : ℕ) → IsUnbroken (byte_digits byte)
byte_unbroken byte = (glyph_above true (byte / 16), (glyph_above true (byte % 16), tt))

token_unbroken : (token : ℕ) → IsUnbroken (token_text token)
token_unbroken token =
    both ((byte_digits (token / 2 ^ 24) ++ byte_digits (token / 2 ^ 16 % 256)) ++ byte_digits (token / 2 ^ 8 % 256)) (byte_digits (token % 256))
    (both (byte_digits (token / 2 ^ 24) ++ byte_digits (token / 2 ^ 16 % 256)) (byte_digits (token / 2 ^ 8 % 256))
    (both (byte_digits (token / 2 ^ 24)) (byte_digits (token / 2 ^ 16 % 256)) (byte_unbroken (token / 2 ^ 24)) (byte_unbroken (token / 2 ^ 16 % 256))) (byte_unbroken (token / 2 ^ 8 % 256)))
    (byte_unbroken (token % 256))

-- four numbers parted by a text
parted : (a b c d dot : List ℕ) → IsUnbroken a → IsUnbroken b → IsUnbroken c → IsUnbroken d → IsUnbroken dot →
    IsUnbroken (a ++ dot ++ b ++ dot ++ c ++ dot ++ d)
parted a b c d dot p q r s t =
    both (a ++ dot ++ b ++ dot ++ c ++ dot) d (both (a ++ dot ++ b ++ dot ++ c) dot (both (a ++ dot ++ b ++ dot) c (both (a ++ dot ++ b) dot (both (a ++ dot) b (both a dot p t) q) t) r) t) s

-- fields, of which the words are tested
abbrev pub word_unbroken : Field → Bool
word_unbroken (Field.Word word) = is_unbroken word
word_unbroken _ = true

field_unbroken : (field : Field) → IsField field → word_unbroken field ≡ true → IsUnbroken (field_text field)
field_unbroken (Field.Word word) p e = spaced_unbroken word (unbroken_by_test word e)
field_unbroken (Field.Number n) p e = spaced_unbroken (decimal n) (decimal_unbroken n)
field_unbroken (Field.Numbers numbers) p e = numbers_unbroken numbers
field_unbroken (Field.Signed width n) p e = spaced_unbroken (signed_decimal n) (signed_unbroken n)
field_unbroken (Field.Named name) p e = spaced_unbroken name (name_bytes name (and_parts _ (list_all is_name_byte name) p).1)
field_unbroken (Field.Quoted units) p e = spaced_unbroken (quoted units) (quoted_unbroken units)
field_unbroken (Field.Versioned v) p e =
    spaced_unbroken (version_text v)
    (parted (decimal v.major) (decimal v.minor) (decimal v.build) (decimal v.revision) (codes ".")
    (decimal_unbroken v.major) (decimal_unbroken v.minor) (decimal_unbroken v.build) (decimal_unbroken v.revision) (unbroken_by_test (codes ".") refl))
field_unbroken (Field.Key key) p e = spaced_unbroken (key_text key) (first_of (key_texts key) (keys_unbroken key))
field_unbroken (Field.Token token) p e = spaced_unbroken (token_text token) (token_unbroken token)

abbrev pub words_unbroken : List Field → Bool
words_unbroken [] = true
words_unbroken (field ∷ fields) = word_unbroken field && words_unbroken fields

fields_unbroken : (fields : List Field) → AreFields fields → words_unbroken fields ≡ true → IsUnbroken (fields_text fields)
fields_unbroken [] p e = tt
fields_unbroken (field ∷ fields) p e =
    let parts = and_parts (word_unbroken field) (words_unbroken fields) e in
    both (field_text field) (fields_text fields) (field_unbroken field p.0 parts.0) (fields_unbroken fields p.1 parts.1)

-- the tables
step_tested : (step : AskStep) → is_unbroken (step_word step) ≡ true
step_tested steps.Load = refl
step_tested steps.Default = refl
step_tested steps.Resolving = refl
step_tested steps.Resolve = refl

kind_tested : (kind : ValueKind) → is_unbroken (kind_word kind) ≡ true
kind_tested value_kinds.I4 = refl
kind_tested value_kinds.I8 = refl
kind_tested value_kinds.N = refl
kind_tested value_kinds.S = refl

answer_tested : (answer : RuleAnswer) → words_unbroken (answer_fields answer) ≡ true
answer_tested (answers.Image image) = refl
answer_tested (answers.Share name) = refl
answer_tested answers.Nothing = refl

rule_tested : (place : RuleAt) (name : List ℕ) (answer : RuleAnswer) → words_unbroken (place_fields place ++ Field.Quoted name ∷ answer_fields answer) ≡ true
rule_tested (places.On context) name answer = answer_tested answer
rule_tested (places.Resolving context) name answer = answer_tested answer
rule_tested places.Resolve name answer = answer_tested answer

candidate_tested : (candidate : Candidate) → words_unbroken (candidate_fields candidate) ≡ true
candidate_tested (candidates.Image image) = refl
candidate_tested (candidates.Assembly assembly) = refl

new_tested : (kind : ContextKind) → words_unbroken (kind_fields kind) ≡ true
new_tested kinds.Collectible = refl
new_tested kinds.Fixed = refl

value_tested : {T : Type 0} (units : T → List ℕ) (value : Datum T) → words_unbroken (value_fields units value) ≡ true
value_tested units (values.I4 number) = refl
value_tested units (values.I8 number) = refl
value_tested units (values.N number) = refl
value_tested units (values.S text) = refl
value_tested units values.Null = refl
value_tested units values.Ref = refl

event_tested : (event : Event) → words_unbroken (event_fields event) ≡ true
event_tested (events.New name kind) = new_tested kind
event_tested (events.Rule place name answer) = rule_tested place name answer
event_tested (events.Enter name) = refl
event_tested (events.EnterHandle handle) = refl
event_tested (events.Lookup context name version) = refl
event_tested (events.Ask step context name) = ap (λ b. b && true) (step_tested step)
event_tested (events.Publish context name candidate) = candidate_tested candidate
event_tested (events.Place user key) = refl
event_tested (events.LoadStatic key field kind) = ap (λ b. b && true) (kind_tested kind)
event_tested (events.StoreStatic key field value) = value_tested (λ units. units) value
event_tested (events.Hold handle assembly method) = refl
event_tested (events.DropHandle handle) = refl
event_tested (events.Weak handle name) = refl
event_tested (events.Alive handle) = refl
event_tested (events.Unload name) = refl
event_tested events.Collect = refl
event_tested (events.Leave operation) = refl

reply_tested : (reply : Reply) → words_unbroken (reply_fields reply) ≡ true
reply_tested (replies.Exists c) = refl
reply_tested (replies.Made c) = refl
reply_tested replies.NoContext = refl
reply_tested (replies.Unloading c) = refl
reply_tested (replies.Set c) = refl
reply_tested (replies.Entered k c) = refl
reply_tested replies.NoHandle = refl
reply_tested (replies.EnteredAt k c a m) = refl
reply_tested replies.Miss = refl
reply_tested (replies.Hit c) = refl
reply_tested (replies.Low c) = refl
reply_tested (replies.Image c) = refl
reply_tested (replies.Foreign c) = refl
reply_tested replies.Nothing = refl
reply_tested (replies.Lost c) = refl
reply_tested (replies.NotCollectible c) = refl
reply_tested (replies.Shared c) = refl
reply_tested (replies.Bound c) = refl
reply_tested (replies.Placed c) = refl
reply_tested (replies.Value value) = value_tested (λ text. text.list) value
reply_tested replies.Stored = refl
reply_tested replies.InUse = refl
reply_tested (replies.Held c) = refl
reply_tested replies.Dropped = refl
reply_tested (replies.Weakly c) = refl
reply_tested (replies.Alive c) = refl
reply_tested (replies.Gone c) = refl
reply_tested (replies.Fixed c) = refl
reply_tested (replies.Already c) = refl
reply_tested (replies.Freed list) = refl
reply_tested replies.Left = refl

check_tested : (check : CheckCode) → is_unbroken (name_of check) ≡ true
check_tested checks.Cut = refl
check_tested checks.NoMz = refl
check_tested checks.NoPe = refl
check_tested checks.Magic = refl
check_tested checks.NoCli = refl
check_tested checks.Outside = refl
check_tested checks.NotIlOnly = refl
check_tested checks.RootSignature = refl
check_tested checks.Bounds = refl
check_tested checks.EditStream = refl
check_tested checks.NoTables = refl
check_tested checks.Table = refl
check_tested checks.Index = refl
check_tested checks.List = refl
check_tested checks.Text = refl
check_tested checks.NoAssembly = refl
check_tested checks.TooLong = refl
check_tested checks.Absent = refl

feature_tested : (feature : Feature) → is_unbroken (feature_text feature) ≡ true
feature_tested features.Float = refl
feature_tested features.ValueType = refl
feature_tested features.Pointer = refl
feature_tested features.ArrayShape = refl
feature_tested features.GenericMethod = refl
feature_tested features.Varargs = refl
feature_tested features.Box = refl
feature_tested features.Delegate = refl
feature_tested features.Jump = refl
feature_tested features.Prefix = refl
feature_tested features.Handle = refl
feature_tested features.Size = refl
feature_tested features.Break = refl
feature_tested features.Filter = refl
feature_tested features.ExceptionClause = refl
feature_tested features.Native = refl
feature_tested features.MultiModule = refl
feature_tested features.TypeInitialiser = refl
feature_tested features.ObjectStatic = refl
feature_tested features.GenericEntry = refl
feature_tested features.NotBuilt = refl

code_tested : (rule : VerifyRule) → is_unbroken (rule_word rule) ≡ true
code_tested rules_of_code.Depth = refl
code_tested rules_of_code.Kind = refl
code_tested rules_of_code.Underflow = refl
code_tested rules_of_code.Operand = refl
code_tested rules_of_code.MaxStack = refl
code_tested rules_of_code.Index = refl
code_tested rules_of_code.Target = refl
code_tested rules_of_code.Assign = refl
code_tested rules_of_code.Member = refl
code_tested rules_of_code.Return = refl
code_tested rules_of_code.Region = refl

outcome_tested : (outcome : Outcome) → words_unbroken (outcome_fields outcome) ≡ true
outcome_tested (outcomes.Replied reply) = reply_tested reply
outcome_tested (outcomes.Assembly assembly) = refl
outcome_tested (outcomes.Value value) = value_tested (λ units. units) value
outcome_tested outcomes.Void = refl
outcome_tested (outcomes.NotFound name) = refl
outcome_tested (outcomes.VersionLow name version) = refl
outcome_tested (outcomes.BadImage failed) = ap (λ b. b && true) (check_tested failed.code)
outcome_tested (outcomes.NameMismatch name) = refl
outcome_tested (outcomes.NotCollectible assembly) = refl
outcome_tested (outcomes.NoType name) = refl
outcome_tested (outcomes.NoMethod name) = refl
outcome_tested (outcomes.NoField name) = refl
outcome_tested (outcomes.Ambiguous name) = refl
outcome_tested (outcomes.BadMember token) = refl
outcome_tested (outcomes.Unsupported feature) = ap (λ b. b && true) (feature_tested feature)
outcome_tested (outcomes.VerifyFault token at rule) = ap (λ b. b && true) (code_tested rule)
outcome_tested (outcomes.Threw name) = refl
outcome_tested outcomes.Budget = refl
outcome_tested outcomes.EventLimit = refl
outcome_tested outcomes.Depth = refl
outcome_tested outcomes.HeapFull = refl
outcome_tested outcomes.TypeDepth = refl
outcome_tested outcomes.StaticLong = refl

front_unbroken : (fields : List Field) → IsUnbroken (fields_text fields) → IsUnbroken (front_text fields)
front_unbroken fields p = dropped (λ byte. byte ≢ 10) 1 (fields_text fields) p

pub head_unbroken : IsUnbroken (codes "alc 1")
head_unbroken = unbroken_by_test (codes "alc 1") refl

-- an entry's line
entry_unbroken : (number thread : ℕ) (event : Event) (reply : Reply) → number < 2 ^ 32 → thread < 2 ^ 32 →
    AreFields (event_fields event) → AreFields (reply_fields reply) →
    IsUnbroken (fields_text (Field.Number number ∷ Field.Number thread ∷ event_fields event ++ Field.Word (codes "->") ∷ reply_fields reply))
entry_unbroken number thread event reply n t p q =
    let events = event_fields event in
    let replies = Field.Word (codes "->") ∷ reply_fields reply in
    both (field_text (Field.Number number)) _ (field_unbroken (Field.Number number) n refl)
    (both (field_text (Field.Number thread)) (fields_text (events ++ replies)) (field_unbroken (Field.Number thread) t refl)
    (rw (fields_text-append events replies)
    (both (fields_text events) (fields_text replies) (fields_unbroken events p (event_tested event)) (fields_unbroken replies (tt, q) (reply_tested reply)))))

-- no line of a report has an LF before its end
pub told_unbroken : (told : Told) → IsPrintableTold told → IsUnbroken (front_text (told_fields told))
told_unbroken (tolds.Thread thread) p = front_unbroken (told_fields (tolds.Thread thread)) (fields_unbroken (told_fields (tolds.Thread thread)) (tt, (p, tt)) refl)
told_unbroken (tolds.Print units) p = front_unbroken (told_fields (tolds.Print units)) (fields_unbroken (told_fields (tolds.Print units)) (tt, (p, tt)) refl)
told_unbroken (tolds.Outcome outcome) p = front_unbroken (outcome_fields outcome) (fields_unbroken (outcome_fields outcome) p.0 (outcome_tested outcome))
told_unbroken (tolds.Journal count) p = front_unbroken (told_fields (tolds.Journal count)) (fields_unbroken (told_fields (tolds.Journal count)) (tt, (p, tt)) refl)
told_unbroken (tolds.Entry number entry) p =
    front_unbroken (told_fields (tolds.Entry number entry)) (entry_unbroken number entry.thread entry.event entry.reply p.0 p.1.0 p.1.1.0 p.1.2.0)
told_unbroken tolds.End p = front_unbroken (told_fields tolds.End) (fields_unbroken (told_fields tolds.End) (tt, tt) refl)
