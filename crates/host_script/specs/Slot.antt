-- What single words of a line are, and the cause where they are not (own).
use Rattle.std.specs.Prelude.{ℕ, Bool, true, false, not, ◌&&◌, nat_le, List, length, Option, Some, None, Result, Ok, Err, if◌then◌else◌, codes}
use Rattle.std.specs.Char.Utf16.{has_unpaired_surrogate}
use Rattle.std.specs.Str.{bytes_eq}
use Rattle.std.specs.Option.{is_some}
use Rattle.std.specs.List.{list_all}
use Rattle.cli_words.specs.Name.{is_name}
use Rattle.cli_words.specs.Text.{bytes_of}
use Rattle.assembly_name.specs.declared.version.Version.{Version}
use Rattle.host_script.specs.Bytes.{begins_with}
use Rattle.host_script.specs.Images.{number, is_among}
use Rattle.host_script.specs.Number.{version_of, integer_of}
use Rattle.host_script.specs.Outcome.{and_then, unless}
use Rattle.host_script.specs.Text.{text_of}
use Rattle.host_script.specs.declared.cause.LineCause.{LineCause}
use Rattle.host_script.specs.declared.cause.LineCause.TheVariants.{UnknownWord, BadName, BadNumber, NoImage, Twice}
use Rattle.host_script.specs.declared.command.Argument.{Argument}
use Rattle.host_script.specs.declared.command.Argument.TheVariants as argument

-- a value, or the cause where there is none
abbrev pub or_cause : {A : Type 0} → Option A → LineCause → Result A LineCause
or_cause None cause = Err cause
or_cause (Some value) cause = Ok value

-- a fixed word
abbrev pub fixed_word : List ℕ → List ℕ → Result (Unit {0}) LineCause
fixed_word due word = unless (bytes_eq word due) UnknownWord (Ok tt)

-- the name of an image, a context or a handle
abbrev pub context_name : List ℕ → Result (List ℕ) LineCause
context_name word = unless (is_name word) BadName (Ok word)

-- the name of an image that isn't declared above
abbrev pub new_image : List (List ℕ) → List ℕ → Result (List ℕ) LineCause
new_image images word =
    and_then (context_name word) (λ name. unless (not (is_some (number images name))) Twice (Ok name))

-- the number of an image that is declared above
abbrev pub used_image : List (List ℕ) → List ℕ → Result ℕ LineCause
used_image images word = and_then (context_name word) (λ name. or_cause (number images name) NoImage)

-- the number of an image that is declared above, and isn't listed above
abbrev pub app_image : List (List ℕ) → List (List ℕ) → List ℕ → Result ℕ LineCause
app_image images listed word =
    and_then (used_image images word) (λ image. unless (not (is_among word listed)) Twice (Ok image))

-- a character of ASCII that is seen
abbrev pub is_graphic : ℕ → Bool
is_graphic b = nat_le 33 b && nat_le b 126

-- the units of a text, or of a word of characters that are seen
abbrev pub wording_of : List ℕ → Option (List ℕ)
wording_of word =
    if begins_with 34 word then text_of word else (if list_all is_graphic word then Some word else None)

-- no lone surrogates, and 1 to 1,023 bytes in UTF-8
abbrev pub is_fit : List ℕ → Bool
is_fit units =
    not (has_unpaired_surrogate units)
    && (nat_le 1 (length (bytes_of units)) && nat_le (length (bytes_of units)) 1023)

-- the name of an assembly, a type or a method
abbrev pub text_word : List ℕ → Result (List ℕ) LineCause
text_word word = and_then (or_cause (wording_of word) BadName) (λ units. unless (is_fit units) BadName (Ok units))

-- a path, as its bytes in UTF-8
abbrev pub path_word : List ℕ → Result (List ℕ) LineCause
path_word word = and_then (text_word word) (λ units. Ok (bytes_of units))

abbrev pub version_word : List ℕ → Result Version LineCause
version_word word = or_cause (version_of word) BadNumber

-- an argument
abbrev pub text_argument : List ℕ → Result Argument LineCause
text_argument word = and_then (or_cause (text_of word) BadNumber) (λ units. Ok (argument.Text units))

abbrev pub argument_word : List ℕ → Result Argument LineCause
argument_word word =
    if begins_with 34 word then text_argument word
    else (if bytes_eq word (codes "true") then Ok (argument.Bool true)
    else (if bytes_eq word (codes "false") then Ok (argument.Bool false)
    else or_cause (integer_of word) BadNumber))
