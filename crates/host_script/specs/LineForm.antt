-- What a line says by the lines above it, or the cause for which it is refused: the table of causes, in its order (own).
use Rattle.std.specs.Prelude.{ℕ, Bool, true, false, not, ◌&&◌, ◌||◌, ◌==◌, nat_le, nat_lt, List, length, filter, Option, Some, None, Result, Ok, if◌then◌else◌}
use Rattle.std.specs.Option.{is_some}
use Rattle.std.specs.List.{list_all, filter_map}
use Rattle.std.specs.Str.{is_utf8}
use Rattle.host_script.specs.Bytes.{begins_with}
use Rattle.host_script.specs.Images.{names}
use Rattle.host_script.specs.FirstWord.{first_word}
use Rattle.host_script.specs.Form.{form_of, argument_count}
use Rattle.host_script.specs.Lines.{is_passed_over}
use Rattle.host_script.specs.Outcome.{and_then, unless}
use Rattle.host_script.specs.Row.{command_row}
use Rattle.host_script.specs.Slot.{new_image, app_image, path_word, or_cause}
use Rattle.host_script.specs.Text.{text_of}
use Rattle.host_script.specs.Words.{words, word}
use Rattle.host_script.specs.declared.cause.LineCause.{LineCause}
use Rattle.host_script.specs.declared.cause.LineCause.TheVariants.{NotUtf8, BadText, UnknownWord, Place, Arity, TooMany}
use Rattle.host_script.specs.declared.first_word.FirstWord.{FirstWord}
use Rattle.host_script.specs.declared.first_word.FirstWord.TheVariants as first
use Rattle.host_script.specs.declared.form.Form.{Form}
use Rattle.host_script.specs.declared.form.Form.TheVariants as form
use Rattle.host_script.specs.declared.line_form.LineForm.{LineForm}
use Rattle.host_script.specs.declared.line_form.LineForm.TheVariants.{Image, App, Thread, Command}
use Rattle.host_script.specs.declared.line_form.Above.{Above}

-- what bears on a line of the lines above it: the names of the images that are declared, and of those that are listed as
-- applications, and the counts of threads and of commands
pub record Before : Type 0 where
  pub images : List (List ℕ)
  pub listed : List (List ℕ)
  pub threads : ℕ
  pub commands : ℕ

abbrev pub before_of : Above → Before
before_of above = record {
  images = names above.images;
  listed = above.listed.items;
  threads = above.threads;
  commands = above.commands;
}

-- the first word of a line, unless the line is passed over or begins with no such word
abbrev pub first_of : List ℕ → Option FirstWord
first_of line = if is_passed_over line then None else first_word (word (words line) 0)

abbrev pub name_if_image : Option FirstWord → List ℕ → Option (List ℕ)
name_if_image (Some first.Image) name = Some name
name_if_image _ name = None

abbrev pub name_if_app : Option FirstWord → List ℕ → Option (List ℕ)
name_if_app (Some first.App) name = Some name
name_if_app _ name = None

abbrev pub is_thread : Option FirstWord → Bool
is_thread (Some first.Thread) = true
is_thread _ = false

abbrev pub is_command : Option FirstWord → Bool
is_command (Some (first.Command word)) = true
is_command _ = false

-- what bears on a line below these: each part is a filter over the lines by their first words
abbrev pub before : List (List ℕ) → Before
before lines = record {
  images = filter_map (λ line. name_if_image (first_of line) (word (words line) 1)) lines;
  listed = filter_map (λ line. name_if_app (first_of line) (word (words line) 1)) lines;
  threads = length (filter (λ line. is_thread (first_of line)) lines);
  commands = length (filter (λ line. is_command (first_of line)) lines);
}

-- a word that begins as a text is one
abbrev pub is_word : List ℕ → Bool
is_word word = not (begins_with 34 word) || is_some (text_of word)

-- head lines stand above the first `thread`, and commands below it
abbrev pub is_due : Before → FirstWord → Bool
is_due above first.Image = above.threads == 0
is_due above first.App = above.threads == 0
is_due above first.Thread = true
is_due above (first.Command word) = nat_lt 0 above.threads

-- the line isn't one too many, and has no argument too many
abbrev pub has_room : Before → Form → ℕ → Bool
has_room above form.Image count = nat_lt (length above.images) 256
has_room above form.App count = true
has_room above form.Thread count = nat_lt above.threads 8
has_room above (form.Command f) count =
    nat_lt above.commands 1024 && nat_le (argument_count (form.Command f) count) 32

-- `image I path`
abbrev pub image_row : Before → List (List ℕ) → Result LineForm LineCause
image_row above ws =
    and_then (new_image above.images (word ws 1)) (λ name.
    and_then (path_word (word ws 2)) (λ path.
    Ok (Image name path)))

-- `app I`
abbrev pub app_row : Before → List (List ℕ) → Result LineForm LineCause
app_row above ws =
    and_then (app_image above.images above.listed (word ws 1)) (λ image.
    Ok (App (word ws 1) image))

-- the causes of the words, from the left, or what the words say
abbrev pub row : Before → Form → List (List ℕ) → Result LineForm LineCause
row above form.Image ws = image_row above ws
row above form.App ws = app_row above ws
row above form.Thread ws = Ok Thread
row above (form.Command f) ws = and_then (command_row above.images f ws) (λ command. Ok (Command command))

-- the causes from `Place` on
abbrev pub said_in : Before → Form → List (List ℕ) → Result LineForm LineCause
said_in above form ws =
    and_then (row above form ws) (λ line.
    unless (has_room above form (length ws)) TooMany (Ok line))

abbrev pub said : Before → FirstWord → List (List ℕ) → Result LineForm LineCause
said above first ws =
    unless (is_due above first) Place (
    and_then (or_cause (form_of first ws) Arity) (λ form.
    said_in above form ws))

-- the causes from `BadText` on
abbrev pub spoken : Before → List (List ℕ) → Result LineForm LineCause
spoken above ws =
    unless (list_all is_word ws) BadText (
    and_then (or_cause (first_word (word ws 0)) UnknownWord) (λ first.
    said above first ws))

-- a line that isn't passed over has a cause or says something
unfoldable pub line_reading : Before → List ℕ → Result (Option LineForm) LineCause
line_reading above line =
    if is_passed_over line then Ok None
    else unless (is_utf8 line) NotUtf8 (
    and_then (spoken above (words line)) (λ said.
    Ok (Some said)))
