use Rattle.std.proofs.Common.{◌≡◌}
use Rattle.alc_program.specs.Good.{commands_of}
use Rattle.alc_program.proofs.run.commands_of.Given as goal

abbrev pub invariant-loop-line : goal.invariant-loop-line
invariant-loop-line l = l.commands.items ≡ commands_of l.yielded
