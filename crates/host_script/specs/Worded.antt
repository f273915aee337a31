-- What the words of a command are, once they are read (own).
use Rattle.std.specs.Prelude.{ℕ, ◌≤◌, ◌<◌, ◌^◌, List, FitsSigned}
use Rattle.std.specs.Int.{w32, w64}
use Rattle.std.specs.List.{AllByRecursion}
use Rattle.assembly_name.specs.declared.version.Version.{Version}
use Rattle.cli_words.specs.Name.{IsName}
use Rattle.cli_words.specs.Text.{AreUnits}
use Rattle.host_script.specs.declared.command.Argument.{Argument}
use Rattle.host_script.specs.declared.command.Argument.TheVariants as arguments
use Rattle.host_script.specs.declared.command.Command.{Command}
use Rattle.host_script.specs.declared.command.Command.TheVariants as commands
use Rattle.host_script.specs.declared.command.CommandLine.{CommandLine}
use Rattle.host_script.specs.declared.command.ScriptAnswer.{ScriptAnswer}
use Rattle.host_script.specs.declared.command.ScriptAnswer.TheVariants as answers

-- an answer whose name is a name, and whose image is one of so many
abbrev pub IsWordedAnswer : ℕ → ScriptAnswer → Type 0
IsWordedAnswer images (answers.Image image) = (1 ≤ image) × (image ≤ images)
IsWordedAnswer images (answers.Share context) = IsName context
IsWordedAnswer images answers.Nothing = Unit {0}

-- a version of four numbers of 16 bits
abbrev pub IsWordedVersion : Version → Type 0
IsWordedVersion version =
    (version.major < 2 ^ 16) × (version.minor < 2 ^ 16) × (version.build < 2 ^ 16) × (version.revision < 2 ^ 16)

-- an argument that fits its type
abbrev pub IsWordedArgument : Argument → Type 0
IsWordedArgument (arguments.I4 number) = FitsSigned w32 number
IsWordedArgument (arguments.I8 number) = FitsSigned w64 number
IsWordedArgument (arguments.Bool value) = Unit {0}
IsWordedArgument (arguments.Text units) = AreUnits units

-- A command whose names are names, whose texts are units, whose image is one of so many, and whose version and
-- arguments fit their types.
abbrev pub IsWorded : ℕ → Command → Type 0
IsWorded images (commands.New context fixed) = IsName context
IsWorded images (commands.On context name answer) = IsName context × AreUnits name × IsWordedAnswer images answer
IsWorded images (commands.Resolving context name answer) = IsName context × AreUnits name × IsWordedAnswer images answer
IsWorded images (commands.Resolve name answer) = AreUnits name × IsWordedAnswer images answer
IsWorded images (commands.Load context image) = IsName context × (1 ≤ image) × (image ≤ images)
IsWorded images (commands.Bind context name version) = IsName context × AreUnits name × IsWordedVersion version
IsWorded images (commands.Call context name type_name method args) =
    IsName context × AreUnits name × AreUnits type_name × AreUnits method
    × AllByRecursion IsWordedArgument args
IsWorded images (commands.Hold handle context name type_name method) =
    IsName handle × IsName context × AreUnits name × AreUnits type_name × AreUnits method
IsWorded images (commands.Invoke handle args) = IsName handle × AllByRecursion IsWordedArgument args
IsWorded images (commands.DropHandle handle) = IsName handle
IsWorded images (commands.Weak handle context) = IsName handle × IsName context
IsWorded images (commands.Alive handle) = IsName handle
IsWorded images (commands.Unload context) = IsName context
IsWorded images commands.Collect = Unit {0}

-- the commands of a thread
abbrev pub AreWorded : ℕ → List CommandLine → Type 0
AreWorded count lines = AllByRecursion (λ line. IsWorded count line.command) lines
