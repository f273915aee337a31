use Rattle.std.proofs.Common.{◌≡◌, take, min, sum}
use Rattle.image_maker.specs.Tally.{most}
use Rattle.image_maker.proofs.size.sum_of.Given as goal

abbrev pub invariant-loop-part : goal.invariant-loop-part
invariant-loop-part l = l.total ≡ min (sum (take l.part-index l.parts)) most
