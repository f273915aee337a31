-- The commands of an accepted script: their names are names, their texts are units, and their images are declared.
use Rattle.std.proofs.Common.{◌≡◌, ℕ, zero, suc, ◌+◌, ◌-◌, ◌*◌, ◌/◌, ◌%◌, ◌^◌, ◌<◌, ◌≤◌, ◌⊎◌, inl, inr, Bool, true, false, ◌&&◌, cond, List, [], ◌∷◌, ◌++◌, length, drop, Option, Some, None, Result, Ok, Err, refl, sym, ap, subst, ◌∙◌, arith}
use Rattle.std.specs.Prelude.{◌==◌, codes, nat_le, nat_lt, position}
use Rattle.std.specs.Char.{IsScalar}
use Rattle.std.specs.Char.Escape.{encode_utf16}
use Rattle.std.specs.List.{AllByRecursion, cons_option, filter_map, list_all, slice_split}
use Rattle.std.specs.Option.{option_map}
use Rattle.std.specs.Str.{bytes_eq, is_utf8}
use Rattle.std.proofs.Math.Utf8.{scalar, scalar_cases, scalars}
use Rattle.std.proofs.lemmas.Bool.{and_parts, cond_both, le-leb, leb-true, ltb-true}
use Rattle.std.proofs.lemmas.List.{length-append}
use Rattle.std.proofs.lemmas.List.Elements.{All-append, All-cons, All-nil, filter_map-append}
use Rattle.std.proofs.lemmas.List.Quantifiers.{position-Some}
use Rattle.std.proofs.lemmas.Str.{scalars-chars}
use Rattle.assembly_name.specs.declared.version.Version.{Version}
use Rattle.cli_words.specs.Name.{IsName, is_name}
use Rattle.cli_words.specs.Text.{AreUnits}
use Rattle.host_script.specs.Bytes.{begins_with}
use Rattle.host_script.specs.FirstWord.{first_word}
use Rattle.host_script.specs.Form.{form_of}
use Rattle.host_script.specs.Images.{number}
use Rattle.host_script.specs.Laws.{AcceptedIsWorded}
use Rattle.host_script.specs.LineForm.{Before, before, first_of, has_room, is_due, is_word, line_reading, name_if_image, row, spoken}
use Rattle.host_script.specs.Lines.{is_passed_over, lines}
use Rattle.host_script.specs.Number.{are_digits, digits_of, digits_value, greatest, integer, integer_from, integer_of, is_wide, part_of, unsigned_part, version, version_in, version_of}
use Rattle.host_script.specs.Row.{answer_row, argument_list, command_row}
use Rattle.host_script.specs.Script.{block_in, blocks, cause_of, image_in, line_causes, end_causes, Numbered, numbered_from, until_thread}
use Rattle.host_script.specs.Slot.{app_image, argument_word, context_name, fixed_word, is_fit, is_graphic, new_image, or_cause, path_word, text_argument, text_word, used_image, version_word, wording_of}
use Rattle.host_script.specs.Spelling.{Spells, closes, plain, quote, backslash, line_feed, unit}
use Rattle.host_script.specs.Text.{text_of}
use Rattle.host_script.specs.Worded.{AreWorded, IsWorded, IsWordedAnswer, IsWordedArgument, IsWordedVersion}
use Rattle.host_script.specs.Words.{word, words}
use Rattle.host_script.specs.declared.cause.LineCause.{LineCause}
use Rattle.host_script.specs.declared.cause.LineCause.TheVariants as cause
use Rattle.host_script.specs.declared.command.Argument.{Argument}
use Rattle.host_script.specs.declared.command.Argument.TheVariants as arguments
use Rattle.host_script.specs.declared.command.Command.{Command}
use Rattle.host_script.specs.declared.command.Command.TheVariants as commands
use Rattle.host_script.specs.declared.command.CommandLine.{CommandLine}
use Rattle.host_script.specs.declared.command.ScriptAnswer.{ScriptAnswer}
use Rattle.host_script.specs.declared.command.ScriptAnswer.TheVariants as answers
use Rattle.host_script.specs.declared.form.AnswerForm.{AnswerForm}
use Rattle.host_script.specs.declared.form.AnswerForm.TheVariants as answer_forms
use Rattle.host_script.specs.declared.form.CommandForm.{CommandForm}
use Rattle.host_script.specs.declared.form.CommandForm.TheVariants as command_forms
use Rattle.host_script.specs.declared.form.Form.{Form}
use Rattle.host_script.specs.declared.form.Form.TheVariants as forms
use Rattle.host_script.specs.declared.images.ImageLine.{ImageLine}
use Rattle.host_script.specs.declared.line_form.LineForm.{LineForm}
use Rattle.host_script.specs.declared.line_form.LineForm.TheVariants as line_forms
use Rattle.host_script.specs.declared.script.Script.{Script}
use Rattle.host_script.proofs.SaidLemmas.{and_then_ok, ok_is, or_cause_ok, says, says_nothing, some_is, unless_ok}
use Rattle.host_script.proofs.SpellingLemmas.{digit_small, text_spelled}

-- the units of a character
top : (c : ℕ) → (c < 0xD800) ⊎ ((0xE000 ≤ c) × (c < 0x11_0000)) → c < 0x11_0000
top c (inl below) = omega arith
top c (inr within) = within.1

abbrev IsUnit : ℕ → Type 0
IsUnit n = n < 2 ^ 16

character_units : (c : ℕ) → IsScalar c → AreUnits (encode_utf16 c)
character_units c is_scalar =
    let range = top c (scalar_cases c is_scalar) in
    cond_both (nat_lt c 0x1_0000) _ _ AreUnits
    (λ low. All-cons IsUnit c [] (omega (arith, ltb-true c 0x1_0000 low)) (All-nil IsUnit))
    (λ beyond. All-cons IsUnit (0xD800 + (c - 0x1_0000) / 0x400) ((0xDC00 + (c - 0x1_0000) % 0x400) ∷ [])
    (omega (arith, range)) (All-cons IsUnit (0xDC00 + (c - 0x1_0000) % 0x400) [] (omega arith) (All-nil IsUnit)))

after_scalar : (c : ℕ) (cs : List ℕ) → scalars (c ∷ cs) ≡ true → scalars cs ≡ true
after_scalar c cs are = (and_parts (scalar c) (scalars cs) are).1

-- what characters spell in a text is units
spelled_units : (cs us : List ℕ) → scalars cs ≡ true → Spells cs us → AreUnits us
spelled_units _ _ are closes = All-nil IsUnit
spelled_units _ _ are (plain c cs us e f s) =
    let parts = and_parts (scalar c) (scalars cs) are in
    All-append IsUnit (encode_utf16 c) us (character_units c parts.0) (spelled_units cs us parts.1 s)
spelled_units _ _ are (quote cs us s) =
    All-cons IsUnit 34 us (omega arith) (spelled_units cs us (after_scalar 34 cs (after_scalar 92 (34 ∷ cs) are)) s)
spelled_units _ _ are (backslash cs us s) =
    All-cons IsUnit 92 us (omega arith) (spelled_units cs us (after_scalar 92 cs (after_scalar 92 (92 ∷ cs) are)) s)
spelled_units _ _ are (line_feed cs us s) =
    All-cons IsUnit 10 us (omega arith) (spelled_units cs us (after_scalar 110 cs (after_scalar 92 (110 ∷ cs) are)) s)
spelled_units _ _ are (unit a b c d w x y z cs us ea eb ec ed s) =
    let digits = after_scalar 117 (a ∷ b ∷ c ∷ d ∷ cs) (after_scalar 92 (117 ∷ a ∷ b ∷ c ∷ d ∷ cs) are) in
    let rest = after_scalar d cs (after_scalar c (d ∷ cs) (after_scalar b (c ∷ d ∷ cs) (after_scalar a (b ∷ c ∷ d ∷ cs) digits))) in
    All-cons IsUnit (((w * 16 + x) * 16 + y) * 16 + z) us
    (omega (arith, digit_small a w ea, digit_small b x eb, digit_small c y ec, digit_small d z ed))
    (spelled_units cs us rest s)

text_units : (word units : List ℕ) → text_of word ≡ Some units → AreUnits units
text_units word units is =
    let text = (text_spelled word units).0 is in
    spelled_units text.rest units
    (after_scalar 34 text.rest (ap scalars (sym text.opens) ∙ scalars-chars word text.utf8)) text.spells

graphic_units : (word : List ℕ) → list_all is_graphic word ≡ true → AreUnits word
graphic_units [] are = All-nil IsUnit
graphic_units (b ∷ bs) are =
    let parts = and_parts (is_graphic b) (list_all is_graphic bs) are in
    let range = and_parts (nat_le 33 b) (nat_le b 126) parts.0 in
    All-cons IsUnit b bs (omega (arith, leb-true b 126 range.1)) (graphic_units bs parts.1)

wording_units : (word units : List ℕ) → wording_of word ≡ Some units → AreUnits units
wording_units word units is = at (begins_with 34 word) (list_all is_graphic word) refl is
  where
    at : (quoted graphic : Bool) → list_all is_graphic word ≡ graphic →
        cond quoted (text_of word) (cond graphic (Some word) None) ≡ Some units → AreUnits units
    at true graphic are is = text_units word units is
    at false true are is = subst AreUnits (some_is is) (graphic_units word are)
    at false false are is = cc

-- what a word is
word_units : (word units : List ℕ) → text_word word ≡ Ok units → AreUnits units
word_units word units is =
    let read = and_then_ok (or_cause (wording_of word) cause.BadName) _ units is in
    let fit = unless_ok (is_fit read.0) _ _ units read.1.1 in
    subst AreUnits (ok_is fit.1) (wording_units word read.0 (or_cause_ok (wording_of word) _ read.0 read.1.0))

word_name : (word name : List ℕ) → context_name word ≡ Ok name → IsName name
word_name word name is =
    let read = unless_ok (is_name word) _ _ name is in subst IsName (ok_is read.1) read.0

number_within : (images : List (List ℕ)) (name : List ℕ) (n : ℕ) → number images name ≡ Some n → (1 ≤ n) × (n ≤ length images)
number_within images name n is = at (position (bytes_eq name) images) refl is
  where
    at : (found : Option ℕ) → position (bytes_eq name) images ≡ found → option_map (λ index. index + 1) found ≡ Some n → (1 ≤ n) × (n ≤ length images)
    at None e is = cc
    at (Some index) e is =
        let below = (position-Some (bytes_eq name) images index [] e).0 in
        let same : index + 1 ≡ n = some_is is in
        (omega arith, omega arith)

word_image : (images : List (List ℕ)) (word : List ℕ) (n : ℕ) → used_image images word ≡ Ok n → (1 ≤ n) × (n ≤ length images)
word_image images word n is =
    let name = and_then_ok (context_name word) _ n is in
    number_within images name.0 n (or_cause_ok (number images name.0) _ n name.1.1)

-- a version, of four parts
part_small : (digits : List ℕ) (n : ℕ) → part_of digits ≡ Some n → n < 2 ^ 16
part_small digits n is = at (are_digits digits) (nat_le (digits_value digits) 65535) refl is
  where
    at : (b c : Bool) → nat_le (digits_value digits) 65535 ≡ c → cond (b && c) (Some (digits_value digits)) None ≡ Some n → n < 2 ^ 16
    at true true within is =
        let same : digits_value digits ≡ n = some_is is in omega (arith, leb-true (digits_value digits) 65535 within, same)
    at true false within is = cc
    at false c within is = cc

parts_small : (a b c d : Option ℕ) (v : Version) → ((n : ℕ) → a ≡ Some n → n < 2 ^ 16) → ((n : ℕ) → b ≡ Some n → n < 2 ^ 16) →
    ((n : ℕ) → c ≡ Some n → n < 2 ^ 16) → ((n : ℕ) → d ≡ Some n → n < 2 ^ 16) → version a b c d ≡ Some v → IsWordedVersion v
parts_small (Some major) (Some minor) (Some build) (Some revision) v first second third fourth is =
    let whole : IsWordedVersion (record { major = major; minor = minor; build = build; revision = revision }) =
    (first major refl, second minor refl, third build refl, fourth revision refl) in
    subst IsWordedVersion (some_is is) whole
parts_small _ _ _ _ v first second third fourth is = cc

pieces_small : (pieces : List (List ℕ)) (v : Version) → version_in pieces ≡ Some v → IsWordedVersion v
pieces_small (a ∷ b ∷ c ∷ d ∷ []) v is =
    parts_small (part_of a) (part_of b) (part_of c) (part_of d) v (part_small a) (part_small b) (part_small c) (part_small d) is
pieces_small _ v is = cc

word_version : (word : List ℕ) (v : Version) → version_word word ≡ Ok v → IsWordedVersion v
word_version word v is = pieces_small (slice_split (λ b. b == 46) word) v (or_cause_ok (version_of word) _ v is)

-- a number that fits its type
signed_fits : (minus wide : Bool) (value : ℕ) → value ≤ greatest minus wide → IsWordedArgument (integer minus wide value)
signed_fits false false value few = omega (arith, few)
signed_fits false true value few = omega (arith, few)
signed_fits true false zero few = omega arith
signed_fits true false (suc n) few =
    let some : nat_le 1 (suc n) ≡ true = le-leb 1 (suc n) (omega arith) in rw some (omega (arith, few))
signed_fits true true zero few = omega arith
signed_fits true true (suc n) few =
    let some : nat_le 1 (suc n) ≡ true = le-leb 1 (suc n) (omega arith) in rw some (omega (arith, few))

integer_fits : (minus wide : Bool) (digits : List ℕ) (a : Argument) → integer_from minus wide digits ≡ Some a → IsWordedArgument a
integer_fits minus wide digits a is =
    at (are_digits digits) (nat_le (length digits) 19) (nat_le (digits_value digits) (greatest minus wide)) refl is
  where
    at : (b c d : Bool) → nat_le (digits_value digits) (greatest minus wide) ≡ d →
        cond (b && c && d) (Some (integer minus wide (digits_value digits))) None ≡ Some a → IsWordedArgument a
    at true true true within is =
        subst IsWordedArgument (some_is is) (signed_fits minus wide (digits_value digits) (leb-true (digits_value digits) (greatest minus wide) within))
    at true true false within is = cc
    at true false d within is = cc
    at false c d within is = cc

word_argument : (word : List ℕ) (a : Argument) → argument_word word ≡ Ok a → IsWordedArgument a
word_argument word a is = at (begins_with 34 word) (bytes_eq word (codes "true")) (bytes_eq word (codes "false")) is
  where
    at : (quoted first second : Bool) →
        cond quoted (text_argument word) (cond first (Ok (arguments.Bool true)) (cond second (Ok (arguments.Bool false)) (or_cause (integer_of word) cause.BadNumber))) ≡ Ok a →
        IsWordedArgument a
    at true _ _ is =
        let units = and_then_ok (or_cause (text_of word) cause.BadNumber) _ a is in
        subst IsWordedArgument (ok_is units.1.1) (text_units word units.0 (or_cause_ok (text_of word) _ units.0 units.1.0))
    at false true _ is = subst IsWordedArgument (ok_is is) tt
    at false false true is = subst IsWordedArgument (ok_is is) tt
    at false false false is =
        integer_fits (begins_with 45 word) (is_wide (unsigned_part word)) (digits_of (unsigned_part word)) a
        (or_cause_ok (integer_of word) _ a is)

words_arguments : (ws : List (List ℕ)) (args : List Argument) → argument_list ws ≡ Ok args → AllByRecursion IsWordedArgument args
words_arguments [] args is = subst (AllByRecursion IsWordedArgument) (ok_is is) tt
words_arguments (w ∷ ws) args is =
    let argument = and_then_ok (argument_word w) _ args is in
    let others = and_then_ok (argument_list ws) _ args argument.1.1 in
    let whole : AllByRecursion IsWordedArgument (argument.0 ∷ others.0) =
    (word_argument w argument.0 argument.1.0, words_arguments ws others.0 others.1.0) in
    subst (AllByRecursion IsWordedArgument) (ok_is others.1.1) whole

-- what the words of a command's form are
module _ (count : ℕ) (images : List (List ℕ)) (few : length images ≤ count) (ws : List (List ℕ)) where
  answer_worded : (form : AnswerForm) (at : ℕ) (answer : ScriptAnswer) → answer_row images form ws at ≡ Ok answer →
      IsWordedAnswer count answer
  answer_worded answer_forms.Image at answer is =
      let begun = and_then_ok (fixed_word _ (word ws at)) _ answer is in
      let image = and_then_ok (used_image images (word ws (at + 1))) _ answer begun.1.1 in
      let range = word_image images (word ws (at + 1)) image.0 image.1.0 in
      let whole : IsWordedAnswer count (answers.Image image.0) = (range.0, omega (arith, few, range.1)) in
      subst (IsWordedAnswer count) (ok_is image.1.1) whole
  answer_worded answer_forms.Share at answer is =
      let begun = and_then_ok (fixed_word _ (word ws at)) _ answer is in
      let context = and_then_ok (context_name (word ws (at + 1))) _ answer begun.1.1 in
      subst (IsWordedAnswer count) (ok_is context.1.1) (word_name (word ws (at + 1)) context.0 context.1.0)
  answer_worded answer_forms.Nothing at answer is =
      let begun = and_then_ok (fixed_word _ (word ws at)) _ answer is in
      subst (IsWordedAnswer count) (ok_is begun.1.1) tt

  row_worded : (form : CommandForm) (command : Command) → command_row images form ws ≡ Ok command → IsWorded count command
  row_worded command_forms.New command is =
      let context = and_then_ok (context_name (word ws 1)) _ command is in
      subst (IsWorded count) (ok_is context.1.1) (word_name (word ws 1) context.0 context.1.0)
  row_worded command_forms.NewFixed command is =
      let context = and_then_ok (context_name (word ws 1)) _ command is in
      let fixed = and_then_ok (fixed_word _ (word ws 2)) _ command context.1.1 in
      subst (IsWorded count) (ok_is fixed.1.1) (word_name (word ws 1) context.0 context.1.0)
  row_worded (command_forms.On form) command is =
      let context = and_then_ok (context_name (word ws 1)) _ command is in
      let name = and_then_ok (text_word (word ws 2)) _ command context.1.1 in
      let answer = and_then_ok (answer_row images form ws 3) _ command name.1.1 in
      let whole : IsWorded count (commands.On context.0 name.0 answer.0) = (
        word_name (word ws 1) context.0 context.1.0,
        word_units (word ws 2) name.0 name.1.0,
        answer_worded form 3 answer.0 answer.1.0,
      ) in
      subst (IsWorded count) (ok_is answer.1.1) whole
  row_worded (command_forms.Resolving form) command is =
      let context = and_then_ok (context_name (word ws 1)) _ command is in
      let name = and_then_ok (text_word (word ws 2)) _ command context.1.1 in
      let answer = and_then_ok (answer_row images form ws 3) _ command name.1.1 in
      let whole : IsWorded count (commands.Resolving context.0 name.0 answer.0) = (
        word_name (word ws 1) context.0 context.1.0,
        word_units (word ws 2) name.0 name.1.0,
        answer_worded form 3 answer.0 answer.1.0,
      ) in
      subst (IsWorded count) (ok_is answer.1.1) whole
  row_worded (command_forms.Resolve form) command is =
      let name = and_then_ok (text_word (word ws 1)) _ command is in
      let answer = and_then_ok (answer_row images form ws 2) _ command name.1.1 in
      let whole : IsWorded count (commands.Resolve name.0 answer.0) = (
        word_units (word ws 1) name.0 name.1.0,
        answer_worded form 2 answer.0 answer.1.0,
      ) in
      subst (IsWorded count) (ok_is answer.1.1) whole
  row_worded command_forms.Load command is =
      let context = and_then_ok (context_name (word ws 1)) _ command is in
      let image = and_then_ok (used_image images (word ws 2)) _ command context.1.1 in
      let range = word_image images (word ws 2) image.0 image.1.0 in
      let whole : IsWorded count (commands.Load context.0 image.0) =
      (word_name (word ws 1) context.0 context.1.0, range.0, omega (arith, few, range.1)) in
      subst (IsWorded count) (ok_is image.1.1) whole
  row_worded command_forms.Bind command is =
      let context = and_then_ok (context_name (word ws 1)) _ command is in
      let name = and_then_ok (text_word (word ws 2)) _ command context.1.1 in
      let version = and_then_ok (version_word (word ws 3)) _ command name.1.1 in
      let whole : IsWorded count (commands.Bind context.0 name.0 version.0) = (word_name (word ws 1) context.0 context.1.0, word_units (word ws 2) name.0 name.1.0, word_version (word ws 3) version.0 version.1.0) in
      subst (IsWorded count) (ok_is version.1.1) whole
  row_worded command_forms.Call command is =
      let context = and_then_ok (context_name (word ws 1)) _ command is in
      let name = and_then_ok (text_word (word ws 2)) _ command context.1.1 in
      let type_name = and_then_ok (text_word (word ws 3)) _ command name.1.1 in
      let method = and_then_ok (text_word (word ws 4)) _ command type_name.1.1 in
      let args = and_then_ok (argument_list (drop 5 ws)) _ command method.1.1 in
      let whole : IsWorded count (commands.Call context.0 name.0 type_name.0 method.0 args.0) = (
        word_name (word ws 1) context.0 context.1.0,
        word_units (word ws 2) name.0 name.1.0,
        word_units (word ws 3) type_name.0 type_name.1.0,
        word_units (word ws 4) method.0 method.1.0,
        words_arguments (drop 5 ws) args.0 args.1.0,
      ) in
      subst (IsWorded count) (ok_is args.1.1) whole
  row_worded command_forms.Hold command is =
      let handle = and_then_ok (context_name (word ws 1)) _ command is in
      let context = and_then_ok (context_name (word ws 2)) _ command handle.1.1 in
      let name = and_then_ok (text_word (word ws 3)) _ command context.1.1 in
      let type_name = and_then_ok (text_word (word ws 4)) _ command name.1.1 in
      let method = and_then_ok (text_word (word ws 5)) _ command type_name.1.1 in
      let whole : IsWorded count (commands.Hold handle.0 context.0 name.0 type_name.0 method.0) = (
        word_name (word ws 1) handle.0 handle.1.0,
        word_name (word ws 2) context.0 context.1.0,
        word_units (word ws 3) name.0 name.1.0,
        word_units (word ws 4) type_name.0 type_name.1.0,
        word_units (word ws 5) method.0 method.1.0,
      ) in
      subst (IsWorded count) (ok_is method.1.1) whole
  row_worded command_forms.Invoke command is =
      let handle = and_then_ok (context_name (word ws 1)) _ command is in
      let args = and_then_ok (argument_list (drop 2 ws)) _ command handle.1.1 in
      let whole : IsWorded count (commands.Invoke handle.0 args.0) =
      (word_name (word ws 1) handle.0 handle.1.0, words_arguments (drop 2 ws) args.0 args.1.0) in
      subst (IsWorded count) (ok_is args.1.1) whole
  row_worded command_forms.DropHandle command is =
      let handle = and_then_ok (context_name (word ws 1)) _ command is in
      subst (IsWorded count) (ok_is handle.1.1) (word_name (word ws 1) handle.0 handle.1.0)
  row_worded command_forms.Weak command is =
      let handle = and_then_ok (context_name (word ws 1)) _ command is in
      let context = and_then_ok (context_name (word ws 2)) _ command handle.1.1 in
      let whole : IsWorded count (commands.Weak handle.0 context.0) = (
        word_name (word ws 1) handle.0 handle.1.0,
        word_name (word ws 2) context.0 context.1.0,
      ) in
      subst (IsWorded count) (ok_is context.1.1) whole
  row_worded command_forms.Alive command is =
      let handle = and_then_ok (context_name (word ws 1)) _ command is in
      subst (IsWorded count) (ok_is handle.1.1) (word_name (word ws 1) handle.0 handle.1.0)
  row_worded command_forms.Unload command is =
      let context = and_then_ok (context_name (word ws 1)) _ command is in
      subst (IsWorded count) (ok_is context.1.1) (word_name (word ws 1) context.0 context.1.0)
  row_worded command_forms.Collect command is = subst (IsWorded count) (ok_is is) tt

-- what a line says that says a command
of_command : {a b : Command} →
    ◌≡◌ {A = Result LineForm LineCause} (Ok (line_forms.Command a)) (Ok (line_forms.Command b)) → a ≡ b
of_command is = cc

module _ (count : ℕ) (above : Before) (few : length above.images ≤ count) where
  form_worded : (form : Form) (ws : List (List ℕ)) (command : Command) → row above form ws ≡ Ok (line_forms.Command command) →
      IsWorded count command
  form_worded forms.Image ws command is =
      let name = and_then_ok (new_image above.images (word ws 1)) _ (line_forms.Command command) is in
      let path = and_then_ok (path_word (word ws 2)) _ (line_forms.Command command) name.1.1 in
      cc (path.1.1)
  form_worded forms.App ws command is =
      let image = and_then_ok (app_image above.images above.listed (word ws 1)) _ (line_forms.Command command) is in
      cc (image.1.1)
  form_worded forms.Thread ws command is = cc
  form_worded (forms.Command form) ws command is =
      let found = and_then_ok (command_row above.images form ws) _ (line_forms.Command command) is in
      subst (IsWorded count) (of_command found.1.1) (row_worded count above.images few ws form found.0 found.1.0)

  spoken_worded : (ws : List (List ℕ)) (command : Command) → spoken above ws ≡ Ok (line_forms.Command command) → IsWorded count command
  spoken_worded ws command is =
      let found : LineForm = line_forms.Command command in
      let texts = unless_ok (list_all is_word ws) _ _ found is in
      let begun = and_then_ok (or_cause (first_word (word ws 0)) cause.UnknownWord) _ found texts.1 in
      let due = unless_ok (is_due above begun.0) _ _ found begun.1.1 in
      let formed = and_then_ok (or_cause (form_of begun.0 ws) cause.Arity) _ found due.1 in
      let line = and_then_ok (row above formed.0 ws) _ found formed.1.1 in
      let room = unless_ok (has_room above formed.0 (length ws)) _ _ found line.1.1 in
      form_worded formed.0 ws command (line.1.0 ∙ room.1)

  line_worded_after : (passed : Bool) (line : List ℕ) (command : Command) → is_passed_over line ≡ passed →
      line_reading above line ≡ Ok (Some (line_forms.Command command)) → IsWorded count command
  unfolding line_reading
  line_worded_after true line command over is =
      let none : ◌≡◌ {A = Result (Option LineForm) LineCause} (Ok None) (Ok (Some (line_forms.Command command))) = rw over at is in cc
  line_worded_after false line command over is =
      let read = unless_ok (is_utf8 line) cause.NotUtf8 _ (Some (line_forms.Command command)) (rw over at is) in
      let spoke = and_then_ok (spoken above (words line)) _ (Some (line_forms.Command command)) read.1 in
      spoken_worded (words line) command (spoke.1.0 ∙ ap Ok (some_is (ok_is spoke.1.1)))

  line_worded : (line : List ℕ) (command : Command) → line_reading above line ≡ Ok (Some (line_forms.Command command)) → IsWorded count command
  line_worded line command is = line_worded_after (is_passed_over line) line command refl is

-- a command among lines that begin threads
abbrev IsWordedAt : ℕ → Option CommandLine → Type 0
IsWordedAt count None = Unit {0}
IsWordedAt count (Some line) = IsWorded count line.command

until_worded : (count : ℕ) (all : List (Option CommandLine)) → AllByRecursion (IsWordedAt count) all → AreWorded count (until_thread all)
until_worded count [] are = tt
until_worded count (None ∷ rest) are = tt
until_worded count (Some line ∷ rest) are = (are.0, until_worded count rest are.1)

blocks_worded : (count : ℕ) (all : List (Option CommandLine)) → AllByRecursion (IsWordedAt count) all →
    AllByRecursion (AreWorded count) (blocks all)
blocks_worded count [] are = tt
blocks_worded count (None ∷ rest) are = (until_worded count rest are.1, blocks_worded count rest are.1)
blocks_worded count (Some line ∷ rest) are = blocks_worded count rest are.1

-- a line that declares an image is one of the images
length-option : {X : Type 0} (o : Option X) (xs : List X) → length (cons_option o xs) ≤ 1 + length xs
length-option None xs = omega arith
length-option (Some x) xs = omega arith

image_counts : (above : Before) (line name : List ℕ) (k : ℕ) (said : Option LineForm) → line_reading above line ≡ Ok said →
    (images : List (List ℕ × ImageLine)) →
    length (cons_option (name_if_image (first_of line) name) []) + length images ≤ length (cons_option (image_in k (Ok said)) images)
image_counts above line name k None is images =
    omega (arith, ap (λ f. length (cons_option (name_if_image f name) [])) (says_nothing above line is))
image_counts above line name k (Some (line_forms.Image declared path)) is images =
    omega (arith, length-option (name_if_image (first_of line) name) [])
image_counts above line name k (Some (line_forms.App listed image)) is images =
    let said = says above line (line_forms.App listed image) is in
    omega (arith, ap (λ f. length (cons_option (name_if_image f name) [])) said.0)
image_counts above line name k (Some line_forms.Thread) is images =
    let said = says above line line_forms.Thread is in
    omega (arith, ap (λ f. length (cons_option (name_if_image f name) [])) said.0)
image_counts above line name k (Some (line_forms.Command command)) is images =
    let said = says above line (line_forms.Command command) is in
    let begins = said.0 in
    omega (arith, ap (λ f. length (cons_option (name_if_image f name) [])) begins.1)

-- the commands of lines without causes are worded
worded_from : (count : ℕ) (above rest : List (List ℕ)) → filter_map (λ l. cause_of l.number l.reading) (numbered_from above rest) ≡ [] →
    length (before above).images + length (filter_map (λ l. image_in l.number l.reading) (numbered_from above rest)) ≤ count →
    AllByRecursion (IsWordedAt count) (filter_map (λ l. block_in l.number l.reading) (numbered_from above rest))
worded_from count above [] none few = tt
worded_from count above (line ∷ more) none few =
    one (line_reading (before above) line) refl (worded_from count (above ++ line ∷ []) more) none few
  where
    later : List Numbered
    later = numbered_from (above ++ line ∷ []) more

    causes : List (ℕ × LineCause)
    causes = filter_map (λ l. cause_of l.number l.reading) later

    images : List (List ℕ × ImageLine)
    images = filter_map (λ l. image_in l.number l.reading) later

    blocks_later : List (Option CommandLine)
    blocks_later = filter_map (λ l. block_in l.number l.reading) later

    name : List ℕ
    name = word (words line) 1

    said : (r : Option LineForm) → line_reading (before above) line ≡ Ok r → length (before above).images ≤ count →
        AllByRecursion (IsWordedAt count) blocks_later → AllByRecursion (IsWordedAt count) (cons_option (block_in (length above + 1) (Ok r)) blocks_later)
    said None is few rest = rest
    said (Some (line_forms.Image declared path)) is few rest = rest
    said (Some (line_forms.App listed image)) is few rest = rest
    said (Some line_forms.Thread) is few rest = (tt, rest)
    said (Some (line_forms.Command command)) is few rest = (line_worded count (before above) few line command is, rest)

    one : (r : Result (Option LineForm) LineCause) → line_reading (before above) line ≡ r →
        (causes ≡ [] → length (before (above ++ line ∷ [])).images + length images ≤ count → AllByRecursion (IsWordedAt count) blocks_later) →
        cons_option (cause_of (length above + 1) r) causes ≡ [] →
        length (before above).images + length (cons_option (image_in (length above + 1) r) images) ≤ count →
        AllByRecursion (IsWordedAt count) (cons_option (block_in (length above + 1) r) blocks_later)
    one (Err why) is rest none few = cc
    one (Ok r) is rest none few =
        let counts = image_counts (before above) line name (length above + 1) r is images in
        let pushed : length (before (above ++ line ∷ [])).images ≡ length (before above).images + length (cons_option (name_if_image (first_of line) name) []) =
        ap length (filter_map-append (λ l. name_if_image (first_of l) (word (words l) 1)) above (line ∷ []))
        ∙ length-append (before above).images (cons_option (name_if_image (first_of line) name) []) in
        said r is (omega (arith, few)) (rest none (omega (arith, counts, pushed, few)))

append_none : {X : Type 0} (xs ys : List X) → xs ++ ys ≡ [] → xs ≡ []
append_none [] ys none = refl
append_none (x ∷ xs) ys none = cc

pub accepted_is_worded_each : AcceptedIsWorded
accepted_is_worded_each bytes script accepted =
    let none = append_none (line_causes (lines bytes)) (end_causes (lines bytes)) accepted.faultless in
    let P : Script → Type 0 = λ s. AllByRecursion (AreWorded (length s.images)) s.threads in
    subst P (sym accepted.said) (blocks_worded _ _ (worded_from _ [] (lines bytes) none (omega arith)))
