use Rattle.std.proofs.Common.{◌≡◌, ◌++◌, map, take}
use Rattle.image_maker.specs.Headers.{part_of}
use Rattle.image_maker.proofs.streams.all_parts.Given as goal

abbrev pub invariant-loop-stream : goal.invariant-loop-stream
invariant-loop-stream l =
    map part_of l.all.items ≡ map part_of l.known ++ take l.stream-index l.further
