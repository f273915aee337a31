-- What a reader finds in a root that was written: each header where it stands, and the bytes of its stream.
use Rattle.std.proofs.Common.{◌≡◌, ℕ, ◌+◌, ◌-◌, ◌*◌, ◌/◌, ◌^◌, ◌<◌, ◌≤◌, Bool, true, ◌&&◌, nat_le, List, [], ◌∷◌, ◌++◌, length, take, drop, Some, unwrap_or, is_some, refl, sym, ap, ap₂, subst, ◌∙◌, arith, append_assoc, length-append, drop_at, take_at, le-leb, w32}
use Rattle.std.proofs.lemmas.Bool.{and_parts, and_from, leb-true, le-leb}
use Rattle.std.proofs.lemmas.Nat.{from_le_bytes-to_le_bytes_2}
use Rattle.std.specs.List.{list_all, flat_map, AllZip}
use Rattle.std.specs.Prelude.{codes}
use Rattle.cli_words.specs.Number.{number_at}
use Rattle.cli_words.specs.Span.{LiesIn, cut, zero_after}
use Rattle.meta_heaps.specs.Streams.{stream_count, headers, headers_from, name_len, name_of, stream_of, header_end, fits}
use Rattle.image_maker.specs.File.{Stream, half, long, zeros, round_up, padded, stream_header, stream_headers, headers_len, root_bytes}
use Rattle.image_maker.specs.Sound.{has_no_zero}
use Rattle.image_maker.proofs.LengthFile.{up4-ge, padded_4, header_length, headers_length}
use Rattle.image_maker.proofs.BytesRead.{long_after, zero_found_within}

-- the header at a place is that of a stream
pub record IsHeader (metadata : List ℕ) (at : ℕ) (stream : Stream) : Type 0 where
  pub name : name_of metadata at ≡ stream.0
  pub whole : fits metadata at ≡ true
  pub bytes : cut metadata (stream_of metadata at) ≡ stream.1
  pub long_is : (stream_of metadata at).len ≡ length stream.1
  pub room : LiesIn (length metadata) (stream_of metadata at)

-- a name that a header can have
abbrev pub is_name : List ℕ → Bool
is_name name = nat_le (length name) 31 && has_no_zero name

header_parts : (front place len name gap rest : List ℕ)
    → front ++ ((place ++ (len ++ ((name ++ 0 ∷ []) ++ gap))) ++ rest)
    ≡ (front ++ (place ++ len)) ++ (name ++ (0 ∷ (gap ++ rest)))
header_parts front place len name gap rest = simp append_assoc

after_place : (front place len tail rest : List ℕ)
    → front ++ ((place ++ (len ++ tail)) ++ rest) ≡ (front ++ place) ++ (len ++ (tail ++ rest))
after_place front place len tail rest = simp append_assoc

-- a header that was written, and the bytes of its stream
module _ (metadata front rest ahead behind : List ℕ) (at place : ℕ) (stream : Stream)
    (header_is : metadata ≡ front ++ (stream_header place stream ++ rest)) (at_is : length front ≡ at)
    (data_is : metadata ≡ ahead ++ (padded 4 stream.1 ++ behind)) (place_is : length ahead ≡ place)
    (short : length metadata < 2 ^ 31) (named : is_name stream.0 ≡ true) where
  room : place + length stream.1 ≤ length metadata
  room =
      let all = ap length data_is in
      omega (
        arith,
        length-append ahead (padded 4 stream.1 ++ behind),
        length-append (padded 4 stream.1) behind,
        padded_4 stream.1,
        up4-ge (length stream.1),
      )

  place_read : number_at w32 metadata at ≡ place
  place_read =
      long_after metadata front ((long (length stream.1) ++ padded 4 (stream.0 ++ 0 ∷ [])) ++ rest) at place
      (let fits = room in omega arith) header_is at_is

  len_read : number_at w32 metadata (at + 4) ≡ length stream.1
  len_read =
      long_after metadata (front ++ long place) (padded 4 (stream.0 ++ 0 ∷ []) ++ rest) (at + 4) (length stream.1)
      (let fits = room in omega arith)
      (header_is ∙ after_place front (long place) (long (length stream.1)) (padded 4 (stream.0 ++ 0 ∷ [])) rest)
      (omega (arith, length-append front (long place)))

  gap : List ℕ
  gap = zeros (round_up 4 (length (stream.0 ++ 0 ∷ [])) - length (stream.0 ++ 0 ∷ []))

  name_there : drop (at + 8) metadata ≡ stream.0 ++ (0 ∷ (gap ++ rest))
  unfolding gap
  name_there =
      ap (drop (at + 8)) (header_is ∙ header_parts front (long place) (long (length stream.1)) stream.0 gap rest)
      ∙ drop_at (front ++ (long place ++ long (length stream.1))) _ (at + 8)
      (omega (arith, length-append front (long place ++ long (length stream.1))))

  name_found : name_len metadata at ≡ Some (length stream.0)
  name_found =
      let parts = and_parts (nat_le (length stream.0) 31) (has_no_zero stream.0) named in
      let room : length stream.0 ≤ 31 = leb-true _ _ parts.0 in
      ap (λ xs. zero_after (take 32 xs)) name_there
      ∙ zero_found_within stream.0 (gap ++ rest) 32 parts.1 (omega arith)

  pub name_read : name_of metadata at ≡ stream.0
  name_read =
      ap (λ n. take (unwrap_or n 0) (drop (at + 8) metadata)) name_found
      ∙ ap (take (length stream.0)) name_there
      ∙ take_at stream.0 (0 ∷ (gap ++ rest)) (length stream.0) refl

  pub end_is : header_end metadata at ≡ length (front ++ stream_header place stream)
  end_is =
      let name : header_end metadata at ≡ at + 8 + (length stream.0 + 4) / 4 * 4 =
      ap (λ n. at + 8 + (unwrap_or n 0 + 4) / 4 * 4) name_found in
      omega (arith, header_length place stream, length-append front (stream_header place stream))

  bytes_read : cut metadata (stream_of metadata at) ≡ stream.1
  bytes_read =
      ap₂ (λ n k. take n (drop k metadata)) len_read place_read
      ∙ ap (λ xs. take (length stream.1) (drop place xs)) data_is
      ∙ ap (take (length stream.1)) (drop_at ahead (padded 4 stream.1 ++ behind) place place_is)
      ∙ ap (take (length stream.1)) (append_assoc stream.1 _ behind)
      ∙ take_at stream.1 _ (length stream.1) refl

  lies : LiesIn (length metadata) (stream_of metadata at)
  lies = omega (arith, room, place_read, len_read)

  fit : fits metadata at ≡ true
  fit =
      let end : header_end metadata at ≤ length metadata =
      omega (
        arith,
        end_is,
        ap length header_is,
        length-append front (stream_header place stream),
        length-append front (stream_header place stream ++ rest),
        length-append (stream_header place stream) rest,
      ) in
      and_from (is_some (name_len metadata at)) _ (ap is_some name_found)
      (and_from (nat_le (header_end metadata at) (length metadata)) _ (le-leb _ _ end)
      (le-leb _ _ lies))

  pub header : IsHeader metadata at stream
  header = record { name = name_read; whole = fit; bytes = bytes_read; long_is = len_read; room = lies }

-- headers at places are those of streams
abbrev pub AreHeaders : List ℕ → List ℕ → List Stream → Type 0
AreHeaders metadata places streams = AllZip (IsHeader metadata) places streams

-- the streams themselves, one after the other
abbrev pub streams_bytes : List Stream → List ℕ
streams_bytes streams = flat_map (λ s. padded 4 s.1) streams

abbrev pub are_named : List Stream → Bool
are_named streams = list_all (λ s. is_name s.0) streams

module _ (metadata rest : List ℕ) (short : length metadata < 2 ^ 31) where
  pub headers_found : (streams : List Stream) (front ahead : List ℕ) (at place : ℕ)
      → metadata ≡ front ++ (stream_headers place streams ++ rest) → length front ≡ at
      → metadata ≡ ahead ++ streams_bytes streams → length ahead ≡ place → are_named streams ≡ true
      → AreHeaders metadata (headers_from metadata at (length streams)) streams
  headers_found [] front ahead at place headers_are at_is streams_are place_is named = tt
  headers_found (s ∷ streams) front ahead at place headers_are at_is streams_are place_is named =
      let parts = and_parts (is_name s.0) (are_named streams) named in
      let next = place + round_up 4 (length s.1) in
      let more = stream_headers next streams ++ rest in
      let here : metadata ≡ front ++ (stream_header place s ++ more) =
      headers_are ∙ ap (λ xs. front ++ xs) (append_assoc (stream_header place s) (stream_headers next streams) rest) in
      let behind = streams_bytes streams in (
        header metadata front more ahead behind at place s here at_is streams_are place_is short parts.0,
        headers_found streams (front ++ stream_header place s) (ahead ++ padded 4 s.1) (header_end metadata at) next
            (here ∙ sym (append_assoc front (stream_header place s) more))
            (sym (end_is metadata front more ahead behind at place s here at_is streams_are place_is short parts.0))
            (streams_are ∙ sym (append_assoc ahead (padded 4 s.1) behind))
            (omega (arith, length-append ahead (padded 4 s.1), padded_4 s.1))
            parts.1,
      )

-- what stands before the count of the streams, and what stands before the headers
abbrev pub root_start : List ℕ
root_start =
    (0x42 ∷ 0x53 ∷ 0x4A ∷ 0x42 ∷ []) ++ (half 1 ++ (half 1 ++ (long 0 ++ (long 12
    ++ (codes "v4.0.30319" ++ (zeros 2 ++ half 0))))))

abbrev pub root_front : ℕ → List ℕ
root_front count = root_start ++ half count

module _ (streams : List Stream) where
  root_is : root_bytes streams
      ≡ root_front (length streams) ++ (stream_headers (32 + headers_len streams) streams ++ streams_bytes streams)
  root_is = refl

  count_is : length streams < 2 ^ 16 → stream_count (root_bytes streams) ≡ length streams
  count_is few = from_le_bytes-to_le_bytes_2 (length streams) few

  pub root_headers : length streams < 2 ^ 16 → length (root_bytes streams) < 2 ^ 31 → are_named streams ≡ true
      → AreHeaders (root_bytes streams) (headers (root_bytes streams)) streams
  root_headers few short named =
      let metadata = root_bytes streams in
      let front = root_front (length streams) in
      let place = 32 + headers_len streams in
      let found = headers_found metadata (streams_bytes streams) short streams front
      (front ++ stream_headers place streams) 32 place root_is refl
      (root_is ∙ sym (append_assoc front (stream_headers place streams) (streams_bytes streams)))
      (omega (arith, length-append front (stream_headers place streams), headers_length place streams)) named in
      subst (λ n. AreHeaders metadata (headers_from metadata 32 n) streams) (sym (count_is few)) found
