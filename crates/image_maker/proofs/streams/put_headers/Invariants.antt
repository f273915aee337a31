use Rattle.std.proofs.Common.{◌≡◌, ◌+◌, ◌++◌, map, take}
use Rattle.std.specs.List.{sum_by}
use Rattle.image_maker.specs.File.{stream_headers}
use Rattle.image_maker.specs.Headers.{part_of}
use Rattle.image_maker.proofs.RootPlacesSteps.{room_of}
use Rattle.image_maker.proofs.streams.put_headers.Given as goal

abbrev pub invariant-loop-part : goal.invariant-loop-part
invariant-loop-part l =
    (l.place ≡ l.first + sum_by room_of (take l.part-index (map part_of l.parts)))
    × (l.out.items ≡ l.fn.out.items ++ stream_headers l.first (take l.part-index (map part_of l.parts)))
