-- The words with which lines begin (own).
use Rattle.std.specs.Prelude.{ℕ, List, Option, Some, None, if◌then◌else◌, codes}
use Rattle.std.specs.Option.{option_map}
use Rattle.std.specs.Str.{bytes_eq}
use Rattle.host_script.specs.declared.first_word.FirstWord.{FirstWord}
use Rattle.host_script.specs.declared.first_word.FirstWord.TheVariants as first
use Rattle.host_script.specs.declared.first_word.CommandWord.{CommandWord}
use Rattle.host_script.specs.declared.first_word.CommandWord.TheVariants.{On, Resolving, Resolve, Load, Bind, Call, Hold, Invoke, DropHandle, Weak, Alive, New, Unload, Collect}

abbrev pub or_else : {A : Type 0} → Option A → Option A → Option A
or_else None other = other
or_else (Some value) other = Some value

abbrev pub other_word : List ℕ → Option FirstWord
other_word w =
    if bytes_eq w (codes "image") then Some first.Image
    else (if bytes_eq w (codes "app") then Some first.App
    else (if bytes_eq w (codes "thread") then Some first.Thread
    else None))

abbrev pub binding_word : List ℕ → Option CommandWord
binding_word w =
    if bytes_eq w (codes "on") then Some On
    else (if bytes_eq w (codes "resolving") then Some Resolving
    else (if bytes_eq w (codes "resolve") then Some Resolve
    else (if bytes_eq w (codes "load") then Some Load
    else (if bytes_eq w (codes "bind") then Some Bind
    else None))))

abbrev pub handle_word : List ℕ → Option CommandWord
handle_word w =
    if bytes_eq w (codes "call") then Some Call
    else (if bytes_eq w (codes "hold") then Some Hold
    else (if bytes_eq w (codes "invoke") then Some Invoke
    else (if bytes_eq w (codes "drop") then Some DropHandle
    else None)))

abbrev pub context_word : List ℕ → Option CommandWord
context_word w =
    if bytes_eq w (codes "weak") then Some Weak
    else (if bytes_eq w (codes "alive") then Some Alive
    else (if bytes_eq w (codes "new") then Some New
    else (if bytes_eq w (codes "unload") then Some Unload
    else (if bytes_eq w (codes "collect") then Some Collect
    else None))))

abbrev pub command_word : List ℕ → Option CommandWord
command_word w = or_else (binding_word w) (or_else (handle_word w) (context_word w))

-- the first word that is spelled so
abbrev pub first_word : List ℕ → Option FirstWord
first_word w = or_else (other_word w) (option_map first.Command (command_word w))

-- how the word is spelled with which a command begins, and the word with which a line begins
abbrev pub command_spelling : CommandWord → List ℕ
command_spelling On = codes "on"
command_spelling Resolving = codes "resolving"
command_spelling Resolve = codes "resolve"
command_spelling Load = codes "load"
command_spelling Bind = codes "bind"
command_spelling Call = codes "call"
command_spelling Hold = codes "hold"
command_spelling Invoke = codes "invoke"
command_spelling DropHandle = codes "drop"
command_spelling Weak = codes "weak"
command_spelling Alive = codes "alive"
command_spelling New = codes "new"
command_spelling Unload = codes "unload"
command_spelling Collect = codes "collect"

abbrev pub spelling : FirstWord → List ℕ
spelling first.Image = codes "image"
spelling first.App = codes "app"
spelling first.Thread = codes "thread"
spelling (first.Command word) = command_spelling word
