use Rattle.std.proofs.Common.{◌≡◌, ◌≤◌, ◌+◌, length, min}
use Rattle.cli_words.specs.Text.{bytes_of}
use Rattle.image_maker.specs.Tally.{most}
use Rattle.image_maker.proofs.units.utf8_len.Given as goal

abbrev pub invariant-loop-rest : goal.invariant-loop-rest
invariant-loop-rest l = (l.len ≤ most) ×
    (min (l.len + length (bytes_of l.rest)) most ≡ min (length (bytes_of l.units)) most)

abbrev pub decreases-loop-rest : goal.decreases-loop-rest
decreases-loop-rest l = length l.rest
