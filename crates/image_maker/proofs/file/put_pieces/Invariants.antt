use Rattle.std.proofs.Common.{◌≡◌, ◌++◌, take}
use Rattle.std.specs.List.{flat_map}
use Rattle.image_maker.specs.Headers.{piece_bytes}
use Rattle.image_maker.proofs.file.put_pieces.Given as goal

abbrev pub invariant-loop-piece : goal.invariant-loop-piece
invariant-loop-piece l = l.file.items ≡ l.fn.file.items ++ flat_map piece_bytes (take l.piece-index l.pieces)
