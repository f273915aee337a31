use Rattle.std.proofs.Common.{ℕ, List, ◌++◌, take}
use Rattle.std.specs.List.{flat_map}
use Rattle.alc_program.specs.Unbuilt.{IsFirstOf, lines_not_run}
use Rattle.alc_program.proofs.unbuilt.least_of_thread.Given as goal

-- the least of the first lines that are not run, and of those before them
abbrev pub invariant-loop-line : goal.invariant-loop-line
invariant-loop-line l =
    (numbers : List ℕ) → IsFirstOf l.fn.before numbers →
    IsFirstOf l.least (numbers ++ lines_not_run (flat_map (λ own. own) l.threads) (take l.line-index l.lines))
