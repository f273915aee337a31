-- One stream more, where streams are written one after the other.
use Rattle.std.proofs.Common.{◌≡◌, ℕ, ◌+◌, ◌<◌, ◌≤◌, List, [], ◌∷◌, ◌++◌, length, map, take, get_or, sym, ap, ap₂, subst, ◌∙◌, arith, append_assoc, append-nil, add-zero, ◌^◌, take_all}
use Rattle.std.specs.List.{flat_map, sum_by}
use Rattle.std.proofs.lemmas.List.{flat_map_more, get_or-map, length-map}
use Rattle.std.proofs.lemmas.List.Sums.{sum_by-cons, sum_by_more, sum_by_more_le}
use Rattle.image_maker.specs.declared.streams.Part.{Part}
use Rattle.image_maker.specs.Headers.{part_of}
use Rattle.image_maker.specs.File.{Stream, half, round_up, padded, stream_header, stream_headers, headers_len, root_bytes}
use Rattle.image_maker.proofs.RootPlaces.{root_start, root_front, streams_bytes}
use Rattle.image_maker.proofs.ListSteps.{take_next}

abbrev pub room_of : Stream → ℕ
room_of stream = round_up 4 (length stream.1)

abbrev pub header_room_of : Stream → ℕ
header_room_of stream = 8 + round_up 4 (length stream.0 + 1)

headers-append : (place : ℕ) (before after : List Stream)
    → stream_headers place (before ++ after)
    ≡ stream_headers place before ++ stream_headers (place + sum_by room_of before) after
headers-append place [] after = ap (λ n. stream_headers n after) (sym (add-zero place))
headers-append place (s ∷ before) after =
    let next = place + room_of s in
    let moved : next + sum_by room_of before ≡ place + sum_by room_of (s ∷ before) =
    omega (arith, sum_by-cons room_of s before) in
    ap (λ xs. stream_header place s ++ xs) (headers-append next before after)
    ∙ sym (append_assoc (stream_header place s) (stream_headers next before) _)
    ∙ ap (λ n. (stream_header place s ++ stream_headers next before) ++ stream_headers n after) moved

-- one header more
pub header_put : (out before after : List ℕ) (first place : ℕ) (streams : List Stream) (stream : Stream)
    → before ≡ out ++ stream_headers first streams → place ≡ first + sum_by room_of streams
    → after ≡ before ++ stream_header place stream → after ≡ out ++ stream_headers first (streams ++ stream ∷ [])
header_put out before after first place streams stream written place_is more =
    more
    ∙ ap₂ (λ xs n. xs ++ stream_header n stream) written place_is
    ∙ append_assoc out (stream_headers first streams) _
    ∙ ap (λ xs. out ++ (stream_headers first streams ++ xs)) (sym (append-nil _))
    ∙ ap (λ xs. out ++ xs) (sym (headers-append first streams (stream ∷ [])))

-- the streams so far, and one that was read at the next index
module _ (streams : List Stream) (i : ℕ) (stream : Stream) (within : i < length streams)
    (is : stream ≡ get_or streams i stream) where
  pub sum_next : (f : Stream → ℕ) → sum_by f (take (i + 1) streams) ≡ sum_by f (take i streams) + f stream
  sum_next f = sum_by_more f streams i stream within ∙ ap (λ s. sum_by f (take i streams) + f s) (sym is)

  pub sum_room : (f : Stream → ℕ) → sum_by f (take i streams) + f stream ≤ sum_by f streams
  sum_room f =
      let more = sum_by_more_le f streams i stream within in
      let same : f (get_or streams i stream) ≡ f stream = ap f (sym is) in
      omega arith

  -- a header is written after those so far
  pub headers_next : (first place next : ℕ) (out before after : List ℕ)
      → (place ≡ first + sum_by room_of (take i streams))
      × (before ≡ out ++ stream_headers first (take i streams))
      → next ≡ place + room_of stream → after ≡ before ++ stream_header place stream
      → (next ≡ first + sum_by room_of (take (i + 1) streams))
      × (after ≡ out ++ stream_headers first (take (i + 1) streams))
  headers_next first place next out before after so_far next_is more = (
    (let place_is = so_far.0 in omega (arith, sum_next room_of)),
    header_put out before after first place (take i streams) stream so_far.1 so_far.0 more
        ∙ ap (λ xs. out ++ stream_headers first xs) (sym (take_next streams i stream within is)),
  )

  -- a stream is written after those so far
  pub stream_next : (out before after : List ℕ)
      → before ≡ out ++ flat_map (λ s. padded 4 s.1) (take i streams)
      → after ≡ before ++ padded 4 stream.1 → after ≡ out ++ flat_map (λ s. padded 4 s.1) (take (i + 1) streams)
  stream_next out before after written more =
      more
      ∙ ap (λ xs. xs ++ padded 4 stream.1) written
      ∙ flat_map_more (λ (s : Stream). padded 4 s.1) out (take i streams) stream
      ∙ ap (λ xs. out ++ flat_map (λ (s : Stream). padded 4 s.1) xs) (sym (take_next streams i stream within is))

-- the streams that are written, and one that was read at an index
module _ (parts : List Part) (i : ℕ) (d : Part) (within : i < length parts) where
  abbrev streams : List Stream
  streams = map part_of parts

  abbrev here : Stream
  here = part_of (get_or parts i d)

  inside : i < length streams
  inside = subst (λ n. i < n) (sym (length-map parts part_of)) within

  there : here ≡ get_or streams i here
  there = sym (get_or-map part_of parts i d here within)

  pub name_short : headers_len streams < 2 ^ 31 → length (get_or parts i d).0.now < 2 ^ 31
  name_short few = let room = sum_room streams i here inside there header_room_of in omega arith

  pub len_fits : (len more : ℕ) → len ≡ headers_len (take i streams) → more ≡ header_room_of here
      → len + more ≤ headers_len streams
  len_fits len more len_is more_is = let room = sum_room streams i here inside there header_room_of in omega arith

  pub len_next : (len more : ℕ) → len ≡ headers_len (take i streams) → more ≡ header_room_of here
      → len + more ≡ headers_len (take (i + 1) streams)
  len_next len more len_is more_is = let next = sum_next streams i here inside there header_room_of in omega arith

  pub place_short : (first place : ℕ) → first + sum_by room_of streams < 2 ^ 31
      → place ≡ first + sum_by room_of (take i streams) → place + length (get_or parts i d).1.now < 2 ^ 31
  place_short first place few place_is = let room = sum_room streams i here inside there room_of in omega arith

  pub part_headers : (first place next : ℕ) (out before after : List ℕ)
      → (place ≡ first + sum_by room_of (take i streams)) × (before ≡ out ++ stream_headers first (take i streams))
      → next ≡ place + room_of here → after ≡ before ++ stream_header place here
      → (next ≡ first + sum_by room_of (take (i + 1) streams))
      × (after ≡ out ++ stream_headers first (take (i + 1) streams))
  part_headers = headers_next streams i here inside there

  pub part_bytes : (out before after : List ℕ) → before ≡ out ++ streams_bytes (take i streams)
      → after ≡ before ++ padded 4 (get_or parts i d).1.now → after ≡ out ++ streams_bytes (take (i + 1) streams)
  part_bytes = stream_next streams i here inside there

-- all streams
pub all_taken : (parts : List Part) (i : ℕ) → length parts ≤ i → take i (map part_of parts) ≡ map part_of parts
all_taken parts i ended = take_all i (map part_of parts) (subst (λ n. n ≤ i) (sym (length-map parts part_of)) ended)

pub front_put : (empty a b count : List ℕ) (n m : ℕ) → empty ≡ [] → a ≡ empty ++ root_start → count ≡ half n
    → b ≡ a ++ count → n ≡ m → b ≡ root_front m
front_put empty a b count n m empty_is a_is count_is b_is same =
    b_is ∙ ap₂ (λ xs ys. xs ++ ys) (a_is ∙ ap (λ xs. xs ++ root_start) empty_is) (count_is ∙ ap half same)

-- a root in its parts
pub root_put : (streams : List Stream) (front a b : List ℕ) (first : ℕ) → front ≡ root_front (length streams)
    → first ≡ 32 + headers_len streams → a ≡ front ++ stream_headers first streams → b ≡ a ++ streams_bytes streams
    → b ≡ root_bytes streams
root_put streams front a b first front_is first_is a_is b_is =
    b_is
    ∙ ap (λ xs. xs ++ streams_bytes streams) a_is
    ∙ append_assoc front (stream_headers first streams) (streams_bytes streams)
    ∙ ap₂ (λ xs n. xs ++ (stream_headers n streams ++ streams_bytes streams)) front_is first_is
