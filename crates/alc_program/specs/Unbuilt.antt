-- Which lines of a script are not run yet (own).
use Rattle.std.specs.Prelude.{ℕ, Bool, true, false, ◌≡◌, ◌≤◌, ◌&&◌, ◌||◌, not, List, [], Option, Some, None, map, Contains, nat_le}
use Rattle.std.specs.List.{AllByRecursion, filter, flat_map, list_any}
use Rattle.host_script.specs.declared.command.Command.{Command}
use Rattle.host_script.specs.declared.command.Command.TheVariants as commands
use Rattle.host_script.specs.declared.command.CommandLine.{CommandLine}
use Rattle.host_script.specs.declared.script.Script.{Script}
use Rattle.command_flow.specs.Events.{is_built}

-- a test of whether the command begins an operation that is run
abbrev pub begins : Command → Bool
begins (commands.Load context image) = true
begins (commands.Bind context name version) = true
begins _ = false

-- a test of whether the command collects contexts
abbrev pub collects : Command → Bool
collects commands.Collect = true
collects _ = false

-- A test of whether one command bars another that stands below it: a script that collects contexts begins no
-- operation yet, and the other way round.
abbrev pub bars : Command → Command → Bool
bars command other = begins command && collects other || collects command && begins other

-- a test of whether a line bars another: it stands no lower, and its command bars the other's (none bars itself)
abbrev pub bars_line : CommandLine → CommandLine → Bool
bars_line other line = nat_le other.line line.line && bars other.command line.command

-- a test of whether the line is run, among these lines of commands
abbrev pub is_run : List CommandLine → CommandLine → Bool
is_run lines line = is_built line.command && not (list_any (λ other. bars_line other line) lines)

-- the lines of the commands of all threads
abbrev pub command_lines : Script → List CommandLine
command_lines script = flat_map (λ lines. lines) script.threads

-- which of these lines are not run, among all lines
abbrev pub lines_not_run : List CommandLine → List CommandLine → List ℕ
lines_not_run all lines = map (λ line. line.line) (filter (λ line. not (is_run all line)) lines)

-- the lines that are not run
abbrev pub unbuilt_lines : Script → List ℕ
unbuilt_lines script = lines_not_run (command_lines script) (command_lines script)

-- a test of whether the script collects contexts
abbrev pub is_collecting : Script → Bool
is_collecting script = list_any (λ line. collects line.command) (command_lines script)

-- the least of some numbers
pub record IsLeast (numbers : List ℕ) (n : ℕ) : Type 0 where
  pub among : Contains numbers n
  pub least : AllByRecursion (λ other. n ≤ other) numbers

-- the least of some numbers, and none of no numbers
abbrev pub IsFirstOf : Option ℕ → List ℕ → Type 0
IsFirstOf None numbers = numbers ≡ []
IsFirstOf (Some n) numbers = IsLeast numbers n
