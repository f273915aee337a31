use Rattle.std.proofs.Common.{◌≡◌, ◌++◌, map, take}
use Rattle.image_maker.specs.Headers.{part_of}
use Rattle.image_maker.proofs.RootPlaces.{streams_bytes}
use Rattle.image_maker.proofs.streams.put_streams.Given as goal

abbrev pub invariant-loop-part : goal.invariant-loop-part
invariant-loop-part l =
    l.out.items ≡ l.fn.out.items ++ streams_bytes (take l.part-index (map part_of l.parts))
