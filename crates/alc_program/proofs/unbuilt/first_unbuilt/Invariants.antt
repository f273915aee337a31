use Rattle.std.proofs.Common.{take}
use Rattle.std.specs.List.{flat_map}
use Rattle.alc_program.specs.Unbuilt.{IsFirstOf, command_lines, lines_not_run}
use Rattle.alc_program.proofs.unbuilt.first_unbuilt.Given as goal

-- the least of the lines of the first threads that are not run
abbrev pub invariant-loop-lines : goal.invariant-loop-lines
invariant-loop-lines l =
    IsFirstOf l.least (lines_not_run (command_lines l.script) (flat_map (λ own. own) (take l.lines-index l.script.threads)))
