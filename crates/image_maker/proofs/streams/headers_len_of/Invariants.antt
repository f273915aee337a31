use Rattle.std.proofs.Common.{◌≡◌, map, take}
use Rattle.image_maker.specs.File.{headers_len}
use Rattle.image_maker.specs.Headers.{part_of}
use Rattle.image_maker.proofs.streams.headers_len_of.Given as goal

abbrev pub invariant-loop-part : goal.invariant-loop-part
invariant-loop-part l = l.len ≡ headers_len (take l.part-index (map part_of l.parts))
