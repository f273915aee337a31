-- Which bytes are a script and what it says, and for which cause at which line bytes are none (own).
use Rattle.std.specs.Prelude.{ℕ, ◌+◌, ◌≡◌, List, [], ◌∷◌, ◌++◌, length, Option, Some, None, Result, Ok, Err, if◌then◌else◌, slice_get}
use Rattle.std.specs.List.{filter_map, list_any}
use Rattle.host_script.specs.LineForm.{before, line_reading, first_of, is_thread}
use Rattle.host_script.specs.Lines.{lines}
use Rattle.host_script.specs.declared.cause.LineCause.{LineCause}
use Rattle.host_script.specs.declared.cause.LineCause.TheVariants.{NoThread}
use Rattle.host_script.specs.declared.cause.LineFault.{LineFault}
use Rattle.host_script.specs.declared.cause.LineFault.TheVariants.{Cause, OutOfMemory}
use Rattle.host_script.specs.declared.cause.ScriptFault.{ScriptFault}
use Rattle.host_script.specs.declared.cause.ScriptFault.TheVariants.{At, OutOfMemory as NoMemory}
use Rattle.host_script.specs.declared.command.CommandLine.{CommandLine}
use Rattle.host_script.specs.declared.images.ImageLine.{ImageLine}
use Rattle.host_script.specs.declared.line_form.LineForm.{LineForm}
use Rattle.host_script.specs.declared.line_form.LineForm.TheVariants.{Image, App, Thread, Command}
use Rattle.host_script.specs.declared.script.AppLine.{AppLine}
use Rattle.host_script.specs.declared.script.Script.{Script}

-- a line by its number, counted from 1, and what it says by the lines above it, or its cause
pub record Numbered : Type 0 where
  pub number : ℕ
  pub reading : Result (Option LineForm) LineCause

-- each line, those of the first list standing above the others
abbrev pub numbered_from : List (List ℕ) → List (List ℕ) → List Numbered
numbered_from above [] = []
numbered_from above (line ∷ rest) =
    record { number = length above + 1; reading = line_reading (before above) line }
    ∷ numbered_from (above ++ line ∷ []) rest

abbrev pub numbered : List (List ℕ) → List Numbered
numbered lines = numbered_from [] lines

-- the cause of a line
abbrev pub cause_of : ℕ → Result (Option LineForm) LineCause → Option (ℕ × LineCause)
cause_of n (Ok form) = None
cause_of n (Err cause) = Some (n, cause)

-- all causes that come, by their lines: a line's own is the first of the table, and `NoThread` comes after the last line
abbrev pub line_causes : List (List ℕ) → List (ℕ × LineCause)
line_causes lines = filter_map (λ l. cause_of l.number l.reading) (numbered lines)

abbrev pub end_causes : List (List ℕ) → List (ℕ × LineCause)
end_causes lines =
    if list_any (λ line. is_thread (first_of line)) lines then [] else (length lines + 1, NoThread) ∷ []

abbrev pub causes : List ℕ → List (ℕ × LineCause)
causes bytes = line_causes (lines bytes) ++ end_causes (lines bytes)

-- an image, an application
abbrev pub image_in : ℕ → Result (Option LineForm) LineCause → Option (List ℕ × ImageLine)
image_in n (Ok (Some (Image name path))) = Some (name, record { line = n; path = path })
image_in n _ = None

abbrev pub app_in : ℕ → Result (Option LineForm) LineCause → Option AppLine
app_in n (Ok (Some (App name image))) = Some (record { line = n; image = image })
app_in n _ = None

-- a command, or `None` for a line that begins a thread
abbrev pub block_in : ℕ → Result (Option LineForm) LineCause → Option (Option CommandLine)
block_in n (Ok (Some Thread)) = Some None
block_in n (Ok (Some (Command command))) = Some (Some (record { line = n; command = command }))
block_in n _ = None

-- the commands up to the next `thread`
abbrev pub until_thread : List (Option CommandLine) → List CommandLine
until_thread [] = []
until_thread (None ∷ rest) = []
until_thread (Some command ∷ rest) = command ∷ until_thread rest

-- the commands of each `thread`
abbrev pub blocks : List (Option CommandLine) → List (List CommandLine)
blocks [] = []
blocks (None ∷ rest) = until_thread rest ∷ blocks rest
blocks (Some command ∷ rest) = blocks rest

-- the forms of the lines
abbrev pub script_of : List (List ℕ) → Script
script_of lines = record {
  images = filter_map (λ l. image_in l.number l.reading) (numbered lines);
  app = filter_map (λ l. app_in l.number l.reading) (numbered lines);
  threads = blocks (filter_map (λ l. block_in l.number l.reading) (numbered lines));
}

-- how a fault of a line is told
abbrev pub fault_at : ℕ → LineFault → ScriptFault
fault_at line (Cause cause) = At line cause
fault_at line OutOfMemory = NoMemory

-- no cause comes, and the script is the list of the forms of the lines
pub record Accepts (bytes : List ℕ) (script : Script) : Type 0 where
  pub faultless : causes bytes ≡ []
  pub said : script ≡ script_of (lines bytes)

-- this is the first cause, and the line on which it comes
abbrev pub Refuses : List ℕ → ℕ → LineCause → Type 0
Refuses bytes line cause = slice_get (causes bytes) 0 ≡ Some (line, cause)

-- the fault is want of memory, or the refusal of the bytes
abbrev pub IsRefusal : List ℕ → ScriptFault → Type 0
IsRefusal bytes (At line cause) = Refuses bytes line cause
IsRefusal bytes NoMemory = Unit {0}

-- the fault is want of memory, or this refusal
abbrev pub IsAtOrMemory : ℕ → LineCause → ScriptFault → Type 0
IsAtOrMemory line cause (At found why) = (found ≡ line) × (why ≡ cause)
IsAtOrMemory line cause NoMemory = Unit {0}
