use Rattle.std.proofs.Common.{◌≡◌, map}
use Rattle.std.specs.List.{range_with_len}
use Rattle.il_verifier.specs.Lines.{line_from}
use Rattle.il_verifier.proofs.line.lines_from.Given as goal

-- the lines so far
abbrev pub invariant-loop-at : goal.invariant-loop-at
invariant-loop-at l = l.lines.items ≡ map (line_from l.facts l.begins) (range_with_len 0 l.at)
