-- How long the parts of a file are.
use Rattle.std.proofs.Common.{◌≡◌, ℕ, ◌+◌, ◌-◌, ◌*◌, ◌≤◌, Bool, true, Option, Some, None, List, [], ◌∷◌, ◌++◌, length, refl, sym, ap, subst, ◌∙◌, arith, codes, length-append, div-mul-le_self, div-add-mod', mod-lt, ap₂, le_trans, subst₂, nat_lt}
use Rattle.std.proofs.lemmas.Bool.Decides.{nat_tests}
use Rattle.std.proofs.lemmas.List.{length-replicate}
use Rattle.std.specs.List.{flat_map, sum_by, list_all, range_with_len}
use Rattle.std.proofs.lemmas.List.Sums.{sum_by-cons, sum_by-le-sum_by, length-filter, count_by-le-length}
use Rattle.std.proofs.lemmas.List.FromFn.{length-range_with_len}
use Rattle.std.specs.Option.{option_map_or}
use Rattle.std.specs.Int.{w64, to_le_bytes}
use Rattle.std.proofs.lemmas.List.Concat.{length-flat_map}
use Rattle.std.proofs.lemmas.Bool.{and_parts}
use Rattle.image_maker.specs.declared.module.MethodRow.{MethodRow}
use Rattle.image_maker.specs.File.{long, zeros, round_up, padded, Stream, stream_header, stream_headers, headers_len, root_bytes, present, bits_of, tables_bytes, known_parts, body_bytes, bodies_bytes, file_headers, text_bytes, file_bytes}
use Rattle.image_maker.specs.Size.{body_size}
use Rattle.image_maker.specs.Sound.{is_stream_name}

-- rounding up to a multiple of four, and of 512
pub up4-le : (n : ℕ) → round_up 4 n ≤ n + 3
up4-le n = div-mul-le_self (n + 3) 4

pub up4-ge : (n : ℕ) → n ≤ round_up 4 n
up4-ge n = let whole = div-add-mod' (n + 3) 4 in let rest = mod-lt (n + 3) {m = 4} (omega arith) in omega arith

pub up512-le : (n : ℕ) → round_up 512 n ≤ n + 511
up512-le n = div-mul-le_self (n + 511) 512

pub up512-ge : (n : ℕ) → n ≤ round_up 512 n
up512-ge n =
    let whole = div-add-mod' (n + 511) 512 in
    let rest = mod-lt (n + 511) {m = 512} (omega arith) in
    omega arith

pub length-padded : (unit : ℕ) (bytes : List ℕ) → length bytes ≤ round_up unit (length bytes)
    → length (padded unit bytes) ≡ round_up unit (length bytes)
length-padded unit bytes up =
    let parts = length-append bytes (zeros (round_up unit (length bytes) - length bytes)) in
    let count = round_up unit (length bytes) - length bytes in
    let rest : length (zeros count) ≡ count = length-replicate count 0 in
    omega arith

pub padded_4 : (bytes : List ℕ) → length (padded 4 bytes) ≡ round_up 4 (length bytes)
padded_4 bytes = length-padded 4 bytes (up4-ge (length bytes))

pub padded-ge : (bytes : List ℕ) → length bytes ≤ length (padded 4 bytes)
padded-ge bytes = let long = padded_4 bytes in let up = up4-ge (length bytes) in omega arith

pub padded-le : (bytes : List ℕ) → length (padded 4 bytes) ≤ length bytes + 3
padded-le bytes = let long = padded_4 bytes in let up = up4-le (length bytes) in omega arith

-- the bodies of methods
body-le : (body : Option (List ℕ)) → length (body_bytes body) ≤ option_map_or (λ bytes. length bytes + 3) body 0
body-le None = omega arith
body-le (Some body) = padded-le body

pub bodies-le : (methods : List MethodRow) → length (bodies_bytes methods) ≤ sum_by body_size methods
bodies-le methods =
    let whole = length-flat_map (λ m. body_bytes m.body) methods in
    let each = sum_by-le-sum_by (λ m. length (body_bytes m.body)) body_size methods (λ m. body-le m.body) in
    omega arith

-- the streams
pub header_length : (place : ℕ) (stream : Stream)
    → length (stream_header place stream) ≡ 8 + round_up 4 (length stream.0 + 1)
header_length place stream =
    let name = length-append stream.0 (0 ∷ []) in
    let long_name = padded_4 (stream.0 ++ 0 ∷ []) in
    let same : round_up 4 (length (stream.0 ++ 0 ∷ [])) ≡ round_up 4 (length stream.0 + 1) =
    ap (round_up 4) name in
    omega arith

pub headers_length : (place : ℕ) (streams : List Stream) → length (stream_headers place streams) ≡ headers_len streams
headers_length place [] = refl
headers_length place (stream ∷ streams) =
    let later = place + round_up 4 (length stream.1) in
    let first = header_length place stream in
    let rest = headers_length later streams in
    let both = length-append (stream_header place stream) (stream_headers later streams) in
    both ∙ omega arith ∙ sym (sum_by-cons (λ s. 8 + round_up 4 (length s.0 + 1)) stream streams)

pub contents_length : (streams : List Stream) → length (flat_map (λ s. padded 4 s.1) streams)
    ≡ sum_by (λ s. round_up 4 (length s.1)) streams
contents_length [] = refl
contents_length (stream ∷ streams) =
    let first = padded_4 stream.1 in
    let rest = contents_length streams in
    let both = length-append (padded 4 stream.1) (flat_map (λ s. padded 4 s.1) streams) in
    both ∙ omega arith ∙ sym (sum_by-cons (λ s. round_up 4 (length s.1)) stream streams)

pub root_length : (streams : List Stream) → length (root_bytes streams)
    ≡ 32 + headers_len streams + sum_by (λ s. round_up 4 (length s.1)) streams
root_length streams =
    let headers = headers_length (32 + headers_len streams) streams in
    let contents = contents_length streams in
    let both = length-append (stream_headers (32 + headers_len streams) streams)
    (flat_map (λ s. padded 4 s.1) streams) in
    omega arith

-- the stream of tables
pub counts_length : (counts : ℕ → ℕ) (tables : List ℕ)
    → length (flat_map (λ table. long (counts table)) tables) ≡ 4 * length tables
counts_length counts [] = refl
counts_length counts (table ∷ tables) = let rest = counts_length counts tables in omega arith

stream_length : (counts : ℕ → ℕ) (bits : ℕ) (tables rows : List ℕ)
    → length (long 0 ++ ((2 ∷ 0 ∷ 7 ∷ 1 ∷ []) ++ (to_le_bytes w64 bits ++ (to_le_bytes w64 0
    ++ (flat_map (λ table. long (counts table)) tables ++ rows))))) ≡ 24 + 4 * length tables + length rows
stream_length counts bits tables rows =
    let both = length-append (flat_map (λ table. long (counts table)) tables) rows in
    let first = counts_length counts tables in
    omega arith

pub tables_length : (counts : ℕ → ℕ) (rows : List ℕ)
    → length (tables_bytes counts rows) ≡ 24 + 4 * length (present counts) + length rows
tables_length counts rows = stream_length counts (bits_of (present counts)) (present counts) rows

pub present_few : (counts : ℕ → ℕ) → length (present counts) ≤ 45
present_few counts =
    let has_rows : ℕ → Bool = λ table. nat_lt 0 (counts table) in
    let range = range_with_len 0 45 in
    subst₂ (λ a b. a ≤ b) (sym (length-filter has_rows range)) (length-range_with_len 0 45)
    (count_by-le-length has_rows range)

pub tables-le : (counts : ℕ → ℕ) (rows : List ℕ) → length (tables_bytes counts rows) ≤ 204 + length rows
tables-le counts rows =
    let whole = tables_length counts rows in
    let few = present_few counts in
    subst (λ n. n ≤ 204 + length rows) (sym whole) (omega arith)

-- the file
pub headers_512 : (text : ℕ) → length (file_headers text) ≡ 512
headers_512 text = refl

pub text_length : (bodies metadata : List ℕ)
    → length (text_bytes bodies metadata) ≡ 72 + length bodies + length metadata
text_length bodies metadata = let both = length-append bodies metadata in omega arith

three_lengths : (a b c : List ℕ) → length (a ++ (b ++ c)) ≡ length a + length b + length c
three_lengths a b c = let first = length-append a (b ++ c) in let rest = length-append b c in omega arith

pub file_length : (bodies metadata : List ℕ)
    → length (file_bytes bodies metadata) ≡ 512 + round_up 512 (72 + length bodies + length metadata) + 1024
file_length bodies metadata =
    let text = text_bytes bodies metadata in
    let code : length (padded 512 text) ≡ round_up 512 (72 + length bodies + length metadata) =
    length-padded 512 text (up512-ge (length text)) ∙ ap (round_up 512) (text_length bodies metadata) in
    let empty : length (zeros 1024) ≡ 1024 = length-replicate {A = ℕ} 1024 0 in
    three_lengths (file_headers (length text)) (padded 512 text) (zeros 1024)
    ∙ ap (λ n. n + length (padded 512 text) + length (zeros 1024)) (headers_512 (length text))
    ∙ ap₂ (λ n k. 512 + n + k) code empty

-- what streams take, with their headers
abbrev pub streams_len : List Stream → ℕ
streams_len streams = headers_len streams + sum_by (λ s. round_up 4 (length s.1)) streams

stream_first : (stream : Stream) (streams : List Stream) → streams_len (stream ∷ streams)
    ≡ 8 + round_up 4 (length stream.0 + 1) + round_up 4 (length stream.1) + streams_len streams
stream_first stream streams =
    let headers = sum_by-cons (λ s. 8 + round_up 4 (length s.0 + 1)) stream streams in
    let contents = sum_by-cons (λ s. round_up 4 (length s.1)) stream streams in
    ap₂ (λ a b. a + b) headers contents ∙ omega arith

name_short : (name : List ℕ) → is_stream_name name ≡ true → length name ≤ 31
name_short name named = grind (arith, nat_tests)

pub extra-le : (streams : List Stream) → list_all (λ s. is_stream_name s.0) streams ≡ true
    → streams_len streams ≤ sum_by (λ s. length s.1 + 64) streams
extra-le [] named = omega arith
extra-le (stream ∷ streams) named =
    let parts = and_parts (is_stream_name stream.0) (list_all (λ s. is_stream_name s.0) streams) named in
    let first : is_stream_name stream.0 ≡ true = parts.0 in
    let others : list_all (λ s. is_stream_name s.0) streams ≡ true = parts.1 in
    let name = name_short stream.0 first in
    let header = up4-le (length stream.0 + 1) in
    let content = up4-le (length stream.1) in
    let rest = extra-le streams others in
    subst₂ (λ a b. a ≤ b) (sym (stream_first stream streams))
    (sym (sum_by-cons (λ s. length s.1 + 64) stream streams)) (omega arith)

known-le : (name content : List ℕ) (up : ℕ) (streams : List Stream) (most : ℕ)
    → round_up 4 (length name + 1) ≡ up → streams_len streams ≤ most
    → streams_len ((name, content) ∷ streams) ≤ 8 + up + (length content + 3) + most
known-le name content up streams most same rest =
    let padding = up4-le (length content) in
    subst (λ n. n ≤ 8 + up + (length content + 3) + most) (sym (stream_first (name, content) streams)) (omega arith)

pub streams-le : (tables strings user_strings guids blobs : List ℕ) (extra : List Stream)
    → list_all (λ s. is_stream_name s.0) extra ≡ true
    → streams_len (known_parts tables strings user_strings guids blobs ++ extra)
    ≤ 76 + 15 + length tables + length strings + length user_strings + length guids + length blobs
    + sum_by (λ s. length s.1 + 64) extra
streams-le tables strings user_strings guids blobs extra named =
    let from_blobs : List Stream = (codes "#Blob", blobs) ∷ extra in
    let from_guids : List Stream = (codes "#GUID", guids) ∷ from_blobs in
    let from_user : List Stream = (codes "#US", user_strings) ∷ from_guids in
    let from_strings : List Stream = (codes "#Strings", strings) ∷ from_user in
    le_trans
    (known-le (codes "#~") tables 4 from_strings _ refl
    (known-le (codes "#Strings") strings 12 from_user _ refl
    (known-le (codes "#US") user_strings 4 from_guids _ refl
    (known-le (codes "#GUID") guids 8 from_blobs _ refl
    (known-le (codes "#Blob") blobs 8 extra _ refl (extra-le extra named))))))
    (omega arith)
