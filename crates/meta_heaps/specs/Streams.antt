-- The metadata root and its stream headers (ECMA-335 II.24.2.1, II.24.2.2). Places are counted from
-- the first byte of the metadata.
use Rattle.std.specs.Prelude.{ℕ, ◌+◌, ◌*◌, ◌/◌, ◌&&◌, zero, suc, Bool, nat_le, List, [], ◌∷◌, length, take, drop, Option, unwrap_or, is_some}
use Rattle.std.specs.Int.{w16, w32}
use Rattle.std.specs.List.{find}
use Rattle.std.specs.Str.{bytes_eq}
use Rattle.cli_words.specs.declared.span.Span.{Span}
use Rattle.cli_words.specs.Number.{number_at}
use Rattle.cli_words.specs.Span.{zero_after}

-- how many bytes the version has; they stand after the first 16 (II.24.2.1)
abbrev pub version_len : List ℕ → ℕ
version_len metadata = number_at w32 metadata 12

-- after the version come flags of two bytes and the count of the streams, and then their headers
abbrev pub headers_at : List ℕ → ℕ
headers_at metadata = version_len metadata + 20

abbrev pub stream_count : List ℕ → ℕ
stream_count metadata = number_at w16 metadata (version_len metadata + 18)

-- the stream that a header speaks of, and eight bytes later its name (II.24.2.2)
abbrev pub stream_of : List ℕ → ℕ → Span
stream_of metadata at =
    record { at = number_at w32 metadata at; len = number_at w32 metadata (at + 4) }

-- how many bytes a header's name has before its zero, which is among the first 32
abbrev pub name_len : List ℕ → ℕ → Option ℕ
name_len metadata at = zero_after (take 32 (drop (at + 8) metadata))

abbrev pub name_of : List ℕ → ℕ → List ℕ
name_of metadata at = take (unwrap_or (name_len metadata at) 0) (drop (at + 8) metadata)

-- a name with its zero is padded to a multiple of four bytes
abbrev pub header_end : List ℕ → ℕ → ℕ
header_end metadata at = at + 8 + (unwrap_or (name_len metadata at) 0 + 4) / 4 * 4

-- a header and its stream lie in the metadata
abbrev pub fits : List ℕ → ℕ → Bool
fits metadata at =
    let stream = stream_of metadata at in
    is_some (name_len metadata at)
    && (nat_le (header_end metadata at) (length metadata)
    && nat_le (stream.at + stream.len) (length metadata))

-- the places of so many headers, each of which begins where the one before it ends
abbrev pub headers_from : List ℕ → ℕ → ℕ → List ℕ
headers_from metadata at zero = []
headers_from metadata at (suc n) = at ∷ headers_from metadata (header_end metadata at) n

abbrev pub headers : List ℕ → List ℕ
headers metadata = headers_from metadata (headers_at metadata) (stream_count metadata)

-- a header has this name
abbrev pub is_named : List ℕ → List ℕ → ℕ → Bool
is_named metadata name at = bytes_eq (name_of metadata at) name

-- the first header of this name
abbrev pub named : List ℕ → List ℕ → Option ℕ
named metadata name = find (is_named metadata name) (headers metadata)
