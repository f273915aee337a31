-- What the reader of a script keeps of the lines that it read (own).
use Rattle.std.specs.Prelude.{ℕ, ◌+◌, ◌<◌, ◌≡◌, length, List, [], ◌∷◌, ◌++◌, map, Option, Some, None, Result, MatchResult, if◌then◌else◌, nat_lt}
use Rattle.std.specs.List.{filter_map, flat_map}
use Rattle.host_script.specs.Images.{names, number}
use Rattle.host_script.specs.LineForm.{Before, before}
use Rattle.host_script.specs.Script.{IsRefusal, numbered, image_in, app_in, block_in, line_causes, Accepts}
use Rattle.host_script.specs.declared.cause.ScriptFault.{ScriptFault}
use Rattle.host_script.specs.declared.command.CommandLine.{CommandLine}
use Rattle.host_script.specs.declared.images.ImageLine.{ImageLine}
use Rattle.host_script.specs.declared.line_form.LineForm.{LineForm}
use Rattle.host_script.specs.declared.line_form.LineForm.TheVariants.{Image, App, Thread, Command}
use Rattle.host_script.specs.declared.reading.Reading.{Reading}
use Rattle.host_script.specs.declared.script.AppLine.{AppLine}
use Rattle.host_script.specs.declared.script.Script.{Script}

-- what is kept: the commands of the last thread stand apart from those of the threads before it
pub record Kept : Type 0 where
  pub images : List (List ℕ × ImageLine)
  pub listed : List (List ℕ)
  pub app : List AppLine
  pub done : List (List CommandLine)
  pub block : List CommandLine
  pub threads : ℕ
  pub commands : ℕ

abbrev pub kept_of : Reading → Kept
kept_of reading = record {
  images = reading.above.images;
  listed = reading.above.listed.items;
  app = reading.app.items;
  done = reading.done.items;
  block = reading.block.items;
  threads = reading.above.threads;
  commands = reading.above.commands;
}

-- what bears on the next line
abbrev pub before_in : Kept → Before
before_in kept = record {
  images = names kept.images;
  listed = kept.listed;
  threads = kept.threads;
  commands = kept.commands;
}

-- with the commands of the last thread among those of the others, where a thread began
abbrev pub all_blocks : ℕ → List (List CommandLine) → List CommandLine → List (List CommandLine)
all_blocks threads done block = if nat_lt 0 threads then done ++ block ∷ [] else done

-- the line isn't one too many, and an image isn't declared yet
abbrev pub CanTake : Kept → LineForm → Type 0
CanTake kept (Image name path) = (length kept.images < 256) × (number (names kept.images) name ≡ None)
CanTake kept (App name image) = Unit {0}
CanTake kept Thread = kept.threads < 8
CanTake kept (Command command) = kept.commands < 1024

-- what is kept after a line of this number
abbrev pub with_form : Kept → ℕ → LineForm → Kept
with_form kept line (Image name path) =
    record kept { images = kept.images ++ (name, record { line = line; path = path }) ∷ [] }
with_form kept line (App name image) =
    record kept { listed = kept.listed ++ name ∷ []; app = kept.app ++ record { line = line; image = image } ∷ [] }
with_form kept line Thread =
    record kept { done = all_blocks kept.threads kept.done kept.block; block = []; threads = kept.threads + 1 }
with_form kept line (Command command) =
    record kept { block = kept.block ++ record { line = line; command = command } ∷ []; commands = kept.commands + 1 }

-- how a thread's commands stand among the lines
abbrev pub block_lines : List CommandLine → List (Option CommandLine)
block_lines commands = None ∷ map Some commands

abbrev pub last_block : ℕ → List CommandLine → List (Option CommandLine)
last_block threads commands = if nat_lt 0 threads then block_lines commands else []

-- the lines have no cause, and this is what is kept of them
pub record IsStateOf (kept : Kept) (lines : List (List ℕ)) : Type 0 where
  pub faultless : line_causes lines ≡ []
  pub above : before_in kept ≡ before lines
  pub images : kept.images ≡ filter_map (λ l. image_in l.number l.reading) (numbered lines)
  pub app : kept.app ≡ filter_map (λ l. app_in l.number l.reading) (numbered lines)
  pub blocks : filter_map (λ l. block_in l.number l.reading) (numbered lines)
      ≡ flat_map block_lines kept.done ++ last_block kept.threads kept.block

-- the bytes are read, or refused
abbrev pub IsAnswer : List ℕ → Result Script ScriptFault → Type 0
IsAnswer bytes result = MatchResult result (Accepts bytes) (IsRefusal bytes)

-- the script of what is kept
abbrev pub script_in : Kept → Script
script_in kept = record { images = kept.images; app = kept.app; threads = kept.done ++ kept.block ∷ [] }
