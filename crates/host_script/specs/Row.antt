-- The table of the commands' forms: what each word of a line is, from the left, and what the line then says (own).
use Rattle.std.specs.Prelude.{ℕ, ◌+◌, true, false, List, [], ◌∷◌, drop, Result, Ok, codes}
use Rattle.host_script.specs.Outcome.{and_then}
use Rattle.host_script.specs.Slot.{fixed_word, context_name, used_image, text_word, version_word, argument_word}
use Rattle.host_script.specs.Words.{word}
use Rattle.host_script.specs.declared.cause.LineCause.{LineCause}
use Rattle.host_script.specs.declared.command.Argument.{Argument}
use Rattle.host_script.specs.declared.command.Command.{Command}
use Rattle.host_script.specs.declared.command.Command.TheVariants.{New, On, Resolving, Resolve, Load, Bind, Call, Hold, Invoke, DropHandle, Weak, Alive, Unload, Collect}
use Rattle.host_script.specs.declared.command.ScriptAnswer.{ScriptAnswer}
use Rattle.host_script.specs.declared.command.ScriptAnswer.TheVariants as says
use Rattle.host_script.specs.declared.form.AnswerForm.{AnswerForm}
use Rattle.host_script.specs.declared.form.AnswerForm.TheVariants as answer
use Rattle.host_script.specs.declared.form.CommandForm.{CommandForm}
use Rattle.host_script.specs.declared.form.CommandForm.TheVariants as command

-- `new P` and `new P fixed`
abbrev pub new_row : List (List ℕ) → Result Command LineCause
new_row ws = and_then (context_name (word ws 1)) (λ context. Ok (New context false))

abbrev pub fixed_row : List (List ℕ) → Result Command LineCause
fixed_row ws =
    and_then (context_name (word ws 1)) (λ context.
    and_then (fixed_word (codes "fixed") (word ws 2)) (λ _.
    Ok (New context true)))

-- `image I`, `share Q` and `none`, from a place on
abbrev pub answer_row : List (List ℕ) → AnswerForm → List (List ℕ) → ℕ → Result ScriptAnswer LineCause
answer_row images answer.Image ws at =
    and_then (fixed_word (codes "image") (word ws at)) (λ _.
    and_then (used_image images (word ws (at + 1))) (λ image.
    Ok (says.Image image)))
answer_row images answer.Share ws at =
    and_then (fixed_word (codes "share") (word ws at)) (λ _.
    and_then (context_name (word ws (at + 1))) (λ context.
    Ok (says.Share context)))
answer_row images answer.Nothing ws at =
    and_then (fixed_word (codes "none") (word ws at)) (λ _.
    Ok says.Nothing)

-- `on P N`, `resolving P N` and `resolve N`, each with an answer
abbrev pub on_row : List (List ℕ) → AnswerForm → List (List ℕ) → Result Command LineCause
on_row images form ws =
    and_then (context_name (word ws 1)) (λ context.
    and_then (text_word (word ws 2)) (λ name.
    and_then (answer_row images form ws 3) (λ answer.
    Ok (On context name answer))))

abbrev pub resolving_row : List (List ℕ) → AnswerForm → List (List ℕ) → Result Command LineCause
resolving_row images form ws =
    and_then (context_name (word ws 1)) (λ context.
    and_then (text_word (word ws 2)) (λ name.
    and_then (answer_row images form ws 3) (λ answer.
    Ok (Resolving context name answer))))

abbrev pub resolve_row : List (List ℕ) → AnswerForm → List (List ℕ) → Result Command LineCause
resolve_row images form ws =
    and_then (text_word (word ws 1)) (λ name.
    and_then (answer_row images form ws 2) (λ answer.
    Ok (Resolve name answer)))

-- `load P I`
abbrev pub load_row : List (List ℕ) → List (List ℕ) → Result Command LineCause
load_row images ws =
    and_then (context_name (word ws 1)) (λ context.
    and_then (used_image images (word ws 2)) (λ image.
    Ok (Load context image)))

-- `bind P N v`
abbrev pub bind_row : List (List ℕ) → Result Command LineCause
bind_row ws =
    and_then (context_name (word ws 1)) (λ context.
    and_then (text_word (word ws 2)) (λ name.
    and_then (version_word (word ws 3)) (λ version.
    Ok (Bind context name version))))

-- arguments, to the line's end
abbrev pub argument_list : List (List ℕ) → Result (List Argument) LineCause
argument_list [] = Ok []
argument_list (w ∷ ws) =
    and_then (argument_word w) (λ argument.
    and_then (argument_list ws) (λ arguments.
    Ok (argument ∷ arguments)))

-- `call P N T M` and arguments
abbrev pub call_row : List (List ℕ) → Result Command LineCause
call_row ws =
    and_then (context_name (word ws 1)) (λ context.
    and_then (text_word (word ws 2)) (λ name.
    and_then (text_word (word ws 3)) (λ type_name.
    and_then (text_word (word ws 4)) (λ method.
    and_then (argument_list (drop 5 ws)) (λ arguments.
    Ok (Call context name type_name method arguments))))))

-- `hold h P N T M`
abbrev pub hold_row : List (List ℕ) → Result Command LineCause
hold_row ws =
    and_then (context_name (word ws 1)) (λ handle.
    and_then (context_name (word ws 2)) (λ context.
    and_then (text_word (word ws 3)) (λ name.
    and_then (text_word (word ws 4)) (λ type_name.
    and_then (text_word (word ws 5)) (λ method.
    Ok (Hold handle context name type_name method))))))

-- `invoke h` and arguments
abbrev pub invoke_row : List (List ℕ) → Result Command LineCause
invoke_row ws =
    and_then (context_name (word ws 1)) (λ handle.
    and_then (argument_list (drop 2 ws)) (λ arguments.
    Ok (Invoke handle arguments)))

-- `drop h`
abbrev pub drop_row : List (List ℕ) → Result Command LineCause
drop_row ws = and_then (context_name (word ws 1)) (λ handle. Ok (DropHandle handle))

-- `weak w P`
abbrev pub weak_row : List (List ℕ) → Result Command LineCause
weak_row ws =
    and_then (context_name (word ws 1)) (λ handle.
    and_then (context_name (word ws 2)) (λ context.
    Ok (Weak handle context)))

-- `alive w`
abbrev pub alive_row : List (List ℕ) → Result Command LineCause
alive_row ws = and_then (context_name (word ws 1)) (λ handle. Ok (Alive handle))

-- `unload P`
abbrev pub unload_row : List (List ℕ) → Result Command LineCause
unload_row ws = and_then (context_name (word ws 1)) (λ context. Ok (Unload context))

-- the command that a line spells in a form, by the images that are declared above
abbrev pub command_row : List (List ℕ) → CommandForm → List (List ℕ) → Result Command LineCause
command_row images command.New ws = new_row ws
command_row images command.NewFixed ws = fixed_row ws
command_row images (command.On answer) ws = on_row images answer ws
command_row images (command.Resolving answer) ws = resolving_row images answer ws
command_row images (command.Resolve answer) ws = resolve_row images answer ws
command_row images command.Load ws = load_row images ws
command_row images command.Bind ws = bind_row ws
command_row images command.Call ws = call_row ws
command_row images command.Hold ws = hold_row ws
command_row images command.Invoke ws = invoke_row ws
command_row images command.DropHandle ws = drop_row ws
command_row images command.Weak ws = weak_row ws
command_row images command.Alive ws = alive_row ws
command_row images command.Unload ws = unload_row ws
command_row images command.Collect ws = Ok Collect
