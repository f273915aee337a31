-- What the threads of a script may make (own).
use Rattle.std.specs.Prelude.{ℕ, Bool, false, List, length, sum_by}
use Rattle.std.specs.List.{filter}
use Rattle.std.specs.Option.{option_map_or}
use Rattle.host_core.specs.declared.bounds.Share.{Share}
use Rattle.host_core.specs.Allowed.{makes_context_by, makes_handle_by, sets_rule_by}
use Rattle.host_events.specs.declared.event.Event.{Event}
use Rattle.host_script.specs.declared.command.Command.{Command}
use Rattle.host_script.specs.declared.command.CommandLine.{CommandLine}
use Rattle.command_flow.specs.Events.{event_of}
use Rattle.command_flow.specs.Flow.{most_events}

-- a test of whether the command's event passes
abbrev pub asks_for : (Event → Bool) → Command → Bool
asks_for test command = option_map_or test (event_of command) false

-- how many commands have an event that passes
abbrev pub count_for : (Event → Bool) → List CommandLine → ℕ
count_for test lines = length (filter (λ line. asks_for test line.command) lines)

-- what a thread may make: the most entries of each command, and a context, a handle or a rule for each command that
-- can make one
abbrev pub share_for : List CommandLine → Share
share_for lines = record {
  events = sum_by (λ line. most_events line.command) lines;
  contexts = count_for makes_context_by lines;
  handles = count_for makes_handle_by lines;
  rules = count_for sets_rule_by lines;
}
