-- The forms of lines: by the first word and the count of words (own).
use Rattle.std.specs.Prelude.{ℕ, ◌+◌, ◌-◌, ◌==◌, nat_le, List, length, Option, Some, None, if◌then◌else◌, codes}
use Rattle.std.specs.Option.{option_map}
use Rattle.std.specs.Str.{bytes_eq}
use Rattle.host_script.specs.Words.{word}
use Rattle.host_script.specs.declared.first_word.FirstWord.{FirstWord}
use Rattle.host_script.specs.declared.first_word.FirstWord.TheVariants as first
use Rattle.host_script.specs.declared.first_word.CommandWord.{CommandWord}
use Rattle.host_script.specs.declared.first_word.CommandWord.TheVariants.{On, Resolving, Resolve, Load, Bind, Call, Hold, Invoke, DropHandle, Weak, Alive, New, Unload, Collect}
use Rattle.host_script.specs.declared.form.AnswerForm.{AnswerForm}
use Rattle.host_script.specs.declared.form.AnswerForm.TheVariants as answer
use Rattle.host_script.specs.declared.form.CommandForm.{CommandForm}
use Rattle.host_script.specs.declared.form.CommandForm.TheVariants as command
use Rattle.host_script.specs.declared.form.Form.{Form}
use Rattle.host_script.specs.declared.form.Form.TheVariants as form

-- the form where the words are so many, and where they are so many at least
abbrev pub exactly : {A : Type 0} → ℕ → ℕ → A → Option A
exactly due count form = if count == due then Some form else None

abbrev pub at_least : {A : Type 0} → ℕ → ℕ → A → Option A
at_least due count form = if nat_le due count then Some form else None

-- two answers have two words: `share Q` is due where the first of them is `share`, else `image I`
abbrev pub image_or_share : List ℕ → AnswerForm
image_or_share w = if bytes_eq w (codes "share") then answer.Share else answer.Image

-- the answer whose words begin at a place and end the line
abbrev pub answer_form : List (List ℕ) → ℕ → Option AnswerForm
answer_form words at =
    if length words == at + 1 then Some answer.Nothing
    else (if length words == at + 2 then Some (image_or_share (word words at)) else None)

abbrev pub command_form : CommandWord → List (List ℕ) → Option CommandForm
command_form New words =
    if length words == 3 then Some command.NewFixed else exactly 2 (length words) command.New
command_form On words = option_map command.On (answer_form words 3)
command_form Resolving words = option_map command.Resolving (answer_form words 3)
command_form Resolve words = option_map command.Resolve (answer_form words 2)
command_form Load words = exactly 3 (length words) command.Load
command_form Bind words = exactly 4 (length words) command.Bind
command_form Call words = at_least 5 (length words) command.Call
command_form Hold words = exactly 6 (length words) command.Hold
command_form Invoke words = at_least 2 (length words) command.Invoke
command_form DropHandle words = exactly 2 (length words) command.DropHandle
command_form Weak words = exactly 3 (length words) command.Weak
command_form Alive words = exactly 2 (length words) command.Alive
command_form Unload words = exactly 2 (length words) command.Unload
command_form Collect words = exactly 1 (length words) command.Collect

abbrev pub form_of : FirstWord → List (List ℕ) → Option Form
form_of first.Image words = exactly 3 (length words) form.Image
form_of first.App words = exactly 2 (length words) form.App
form_of first.Thread words = exactly 1 (length words) form.Thread
form_of (first.Command w) words = option_map form.Command (command_form w words)

-- how many arguments stand on a line with so many words
abbrev pub argument_count : Form → ℕ → ℕ
argument_count (form.Command command.Call) count = count - 5
argument_count (form.Command command.Invoke) count = count - 2
argument_count _ count = 0
