-- The events of commands, and the images that they name (own).
use Rattle.std.specs.Prelude.{ℕ, Bool, true, false, Option, Some, None, if◌then◌else◌}
use Rattle.host_events.specs.declared.event.ContextKind.{ContextKind}
use Rattle.host_events.specs.declared.event.ContextKind.TheVariants as kinds
use Rattle.host_events.specs.declared.event.Event.{Event}
use Rattle.host_events.specs.declared.event.Event.TheVariants as events
use Rattle.host_events.specs.declared.event.RuleAnswer.{RuleAnswer}
use Rattle.host_events.specs.declared.event.RuleAnswer.TheVariants as answers
use Rattle.host_events.specs.declared.event.RuleAt.TheVariants as places
use Rattle.host_script.specs.declared.command.Command.{Command}
use Rattle.host_script.specs.declared.command.Command.TheVariants as commands
use Rattle.host_script.specs.declared.command.ScriptAnswer.{ScriptAnswer}
use Rattle.host_script.specs.declared.command.ScriptAnswer.TheVariants as script

-- the kind of the contexts that a `new` makes
abbrev pub kind_of : Bool → ContextKind
kind_of fixed = if fixed then kinds.Fixed else kinds.Collectible

-- what a rule answers
abbrev pub answer_of : ScriptAnswer → RuleAnswer
answer_of (script.Image image) = answers.Image image
answer_of (script.Share context) = answers.Share context
answer_of script.Nothing = answers.Nothing

-- the event of a command that is one event; operations have none here, nor has a command that is not built
abbrev pub event_of : Command → Option Event
event_of (commands.New context fixed) = Some (events.New context (kind_of fixed))
event_of (commands.On context name answer) = Some (events.Rule (places.On context) name (answer_of answer))
event_of (commands.Resolving context name answer) = Some (events.Rule (places.Resolving context) name (answer_of answer))
event_of (commands.Resolve name answer) = Some (events.Rule places.Resolve name (answer_of answer))
event_of (commands.Load context image) = None
event_of (commands.Bind context name version) = None
event_of (commands.Call context name type_name method args) = None
event_of (commands.Hold handle context name type_name method) = None
event_of (commands.Invoke handle args) = None
event_of (commands.DropHandle handle) = None
event_of (commands.Weak handle context) = Some (events.Weak handle context)
event_of (commands.Alive handle) = Some (events.Alive handle)
event_of (commands.Unload context) = Some (events.Unload context)
event_of commands.Collect = Some events.Collect

-- a test of whether the command is run
abbrev pub is_built : Command → Bool
is_built (commands.New context fixed) = true
is_built (commands.On context name answer) = true
is_built (commands.Resolving context name answer) = true
is_built (commands.Resolve name answer) = true
is_built (commands.Load context image) = true
is_built (commands.Bind context name version) = true
is_built (commands.Call context name type_name method args) = false
is_built (commands.Hold handle context name type_name method) = false
is_built (commands.Invoke handle args) = false
is_built (commands.DropHandle handle) = false
is_built (commands.Weak handle context) = true
is_built (commands.Alive handle) = true
is_built (commands.Unload context) = true
is_built commands.Collect = true

-- the image that an answer names
abbrev pub answer_image : ScriptAnswer → Option ℕ
answer_image (script.Image image) = Some image
answer_image (script.Share context) = None
answer_image script.Nothing = None

-- the image that a command names
abbrev pub named_image : Command → Option ℕ
named_image (commands.New context fixed) = None
named_image (commands.On context name answer) = answer_image answer
named_image (commands.Resolving context name answer) = answer_image answer
named_image (commands.Resolve name answer) = answer_image answer
named_image (commands.Load context image) = Some image
named_image (commands.Bind context name version) = None
named_image (commands.Call context name type_name method args) = None
named_image (commands.Hold handle context name type_name method) = None
named_image (commands.Invoke handle args) = None
named_image (commands.DropHandle handle) = None
named_image (commands.Weak handle context) = None
named_image (commands.Alive handle) = None
named_image (commands.Unload context) = None
named_image commands.Collect = None
