use Rattle.std.proofs.Common.{◌≡◌, ◌+◌, ◌*◌, ◌++◌, map, pos, ◌+ℤ◌}
use Rattle.std.specs.Int.{w32, cast_signed}
use Rattle.std.specs.List.{range_with_len}
use Rattle.cli_words.specs.Number.{number_at}
use Rattle.il_verifier.specs.Lines.{begun}
use Rattle.il_verifier.proofs.line.push_targets.Given as goal

-- the places of the distances so far
abbrev pub invariant-loop-n : goal.invariant-loop-n
invariant-loop-n l =
    l.goes.items ≡ l.fn.goes.items
    ++ map (λ distance. begun l.begins (pos l.end +ℤ distance))
    (map (λ n. cast_signed w32 (number_at w32 l.code (l.span.at + 4 * n))) (range_with_len 0 l.n))
