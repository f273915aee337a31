-- The pieces that headers are written of, and the streams that a root is written of (own).
use Rattle.std.specs.Prelude.{ℕ, List}
use Rattle.image_maker.specs.File.{Stream, half, long, zeros}
use Rattle.image_maker.specs.declared.streams.Part.{Part}
use Rattle.image_maker.specs.declared.file.HeaderPiece.{HeaderPiece}
use Rattle.image_maker.specs.declared.file.HeaderPiece.TheVariants.{Text, Zeros, Half, Long}

abbrev pub piece_bytes : HeaderPiece → List ℕ
piece_bytes (Text bytes) = bytes.now
piece_bytes (Zeros count) = zeros count
piece_bytes (Half value) = half value
piece_bytes (Long value) = long value

abbrev pub part_of : Part → Stream
part_of part = (part.0.now, part.1.now)
