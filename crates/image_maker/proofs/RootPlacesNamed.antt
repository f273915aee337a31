-- A root that was written passes all checks, and a reader finds in it the streams of each name.
use Rattle.std.proofs.Common.{◌≡◌, ℕ, ◌+◌, ◌^◌, ◌<◌, ◌≤◌, Bool, true, false, not, ◌&&◌, ◌==◌, nat_lt, nat_le, nat_eq, List, [], ◌∷◌, ◌++◌, length, drop, map, Some, None, refl, sym, ap, subst, ◌∙◌, arith, length-take, length-drop}
use Rattle.std.specs.Prelude.{codes}
use Rattle.std.specs.List.{list_all, list_any, find, starts_with}
use Rattle.std.specs.Option.{option_map_or}
use Rattle.std.specs.Str.{bytes_eq}
use Rattle.std.proofs.lemmas.Bool.{and_parts, and_from, or_parts, or_from, le-leb, not-true}
use Rattle.std.proofs.lemmas.Bool.Decides.{nat_tests}
use Rattle.cli_words.specs.declared.check.CheckCode.TheVariants as code
use Rattle.cli_words.specs.Check.{first_fault}
use Rattle.cli_words.specs.declared.span.Span.{Span}
use Rattle.cli_words.specs.Span.{LiesIn, cut}
use Rattle.meta_heaps.specs.Streams.{headers_at, headers, name_of, stream_of, fits, is_named, named}
use Rattle.meta_heaps.specs.Reading.{span_of, root_checks, root_of}
use Rattle.image_maker.specs.Sound.{is_stream_name, known_streams}
use Rattle.image_maker.specs.Made.{streams_in}
use Rattle.image_maker.specs.File.{Stream, root_bytes, known_parts}
use Rattle.image_maker.proofs.RootPlaces.{IsHeader, AreHeaders, is_name, are_named, root_headers}
use Rattle.image_maker.proofs.LengthFile.{root_length}
use Rattle.image_maker.proofs.PassedChecks.{pass}
use Rattle.image_maker.proofs.BytesRead.{cut_within}

-- the headers of streams, by their names
module _ (metadata name : List ℕ) where
  abbrev is_called : Stream → Bool
  is_called stream = bytes_eq stream.0 name

  test_is : (at : ℕ) (stream : Stream) → IsHeader metadata at stream → is_named metadata name at ≡ is_called stream
  test_is at stream header = ap (λ xs. bytes_eq xs name) header.name

  none_called : (places : List ℕ) (streams : List Stream) → AreHeaders metadata places streams
      → list_any is_called streams ≡ false → find (is_named metadata name) places ≡ None
  none_called [] streams headers none = refl
  none_called (at ∷ places) [] headers none = absurd headers
  none_called (at ∷ places) (s ∷ streams) headers none =
      let parts = or_parts (is_called s) (list_any is_called streams) none in
      let fails : is_named metadata name at ≡ false = test_is at s headers.0 ∙ parts.0 in
      rw fails (none_called places streams headers.1 parts.1)

  found_called : (places : List ℕ) (before : List Stream) (s : Stream) (after : List Stream)
      → AreHeaders metadata places (before ++ s ∷ after) → list_any is_called before ≡ false → is_called s ≡ true
      → (at : ℕ) × (find (is_named metadata name) places ≡ Some at) × IsHeader metadata at s
  found_called [] [] s after headers none here = absurd headers
  found_called [] (b ∷ before) s after headers none here = absurd headers
  found_called (at ∷ places) [] s after headers none here =
      let passes : is_named metadata name at ≡ true = test_is at s headers.0 ∙ here in
      (at, rw passes refl, headers.0)
  found_called (at ∷ places) (b ∷ before) s after headers none here =
      let parts = or_parts (is_called b) (list_any is_called before) none in
      let fails : is_named metadata name at ≡ false = test_is at b headers.0 ∙ parts.0 in
      let rest = found_called places before s after headers.1 parts.1 here in
      (rest.0, rw fails rest.1, rest.2)

-- each header fits, and they are the streams
all_fit : (metadata : List ℕ) (places : List ℕ) (streams : List Stream) → AreHeaders metadata places streams
    → find (λ at. not (fits metadata at)) places ≡ None
all_fit metadata [] streams headers = refl
all_fit metadata (at ∷ places) [] headers = absurd headers
all_fit metadata (at ∷ places) (s ∷ streams) headers =
    let whole = headers.0.whole in rw whole (all_fit metadata places streams headers.1)

all_read : (metadata : List ℕ) (places : List ℕ) (streams : List Stream) → AreHeaders metadata places streams
    → map (λ at. (name_of metadata at, cut metadata (stream_of metadata at))) places ≡ streams
all_read metadata [] [] headers = refl
all_read metadata [] (s ∷ streams) headers = absurd headers
all_read metadata (at ∷ places) [] headers = absurd headers
all_read metadata (at ∷ places) ((name, bytes) ∷ streams) headers =
    let rest = all_read metadata places streams headers.1 in
    let one = headers.0.name in
    let two = headers.0.bytes in
    cc

-- a span of bytes has these
pub record IsPart (bytes : List ℕ) (span : Span) (part : List ℕ) : Type 0 where
  pub lies : LiesIn (length bytes) span
  pub is : cut bytes span ≡ part
  pub len_is : span.len ≡ length part

-- a part of a part
module _ (bytes : List ℕ) (root : Span) (lies : LiesIn (length bytes) root) where
  whole_len : length (cut bytes root) ≡ root.len
  whole_len = omega (arith, length-take root.len (drop root.at bytes), length-drop root.at bytes)

  cut_again : (inner : Span) → LiesIn (length (cut bytes root)) inner
      → cut bytes (record { at = root.at + inner.at; len = inner.len }) ≡ cut (cut bytes root) inner
  cut_again inner within =
      cut_within bytes root inner.at inner.len (omega (arith, whole_len))

  -- the stream of a name, where others of other names stand before it
  stream_found : (name : List ℕ) (streams before : List Stream) (s : Stream) (after : List Stream)
      → AreHeaders (cut bytes root) (headers (cut bytes root)) streams → streams ≡ before ++ s ∷ after
      → list_any (λ b. bytes_eq b.0 name) before ≡ false → bytes_eq s.0 name ≡ true
      → IsPart bytes (span_of (cut bytes root) root name) s.1
  stream_found name streams before s after all split none here =
      let metadata = cut bytes root in
      let found = found_called metadata name (headers metadata) before s after
      (subst (λ xs. AreHeaders metadata (headers metadata) xs) split all) none here in
      let stream = stream_of metadata found.0 in
      let place : Span = record { at = root.at + stream.at; len = stream.len } in
      let spanned : span_of metadata root name ≡ place =
      ap (λ o. option_map_or
      (λ at. let stream = stream_of metadata at in record { at = root.at + stream.at; len = stream.len })
      o (record { at = root.at; len = 0 })) found.1 in
      let part : IsPart bytes place s.1 = record {
        lies = (let room = found.2.room in omega (arith, whole_len));
        is = cut_again stream found.2.room ∙ found.2.bytes;
        len_is = found.2.long_is;
      } in
      subst (λ span. IsPart bytes span s.1) (sym spanned) part

-- what a name of a further stream is not
not_known : (name : List ℕ) → is_stream_name name ≡ true → list_any (bytes_eq name) known_streams ≡ false
not_known name sound =
    let low = and_parts (nat_le 1 (length name)) _ sound in
    let high = and_parts (nat_le (length name) 31) _ low.1 in
    let clean = and_parts (list_all (λ b. nat_lt 0 b && nat_lt b 128) name) _ high.1 in
    not-true _ clean.1

-- what passes one test passes another
all_pass : {X : Type 0} (p q : X → Bool) → ((x : X) → p x ≡ true → q x ≡ true) → (xs : List X)
    → list_all p xs ≡ true → list_all q xs ≡ true
all_pass p q each [] all = refl
all_pass p q each (x ∷ xs) all =
    let parts = and_parts (p x) (list_all p xs) all in
    and_from (q x) (list_all q xs) (each x parts.0) (all_pass p q each xs parts.1)

clean_byte : (b : ℕ) → (nat_lt 0 b && nat_lt b 128) ≡ true → not (b == 0) ≡ true
clean_byte b clean = grind (arith, nat_tests)

fine_name : (name : List ℕ) → is_stream_name name ≡ true → is_name name ≡ true
fine_name name sound =
    let low = and_parts (nat_le 1 (length name)) _ sound in
    let high = and_parts (nat_le (length name) 31) _ low.1 in
    let clean = and_parts (list_all (λ b. nat_lt 0 b && nat_lt b 128) name) _ high.1 in
    and_from (nat_le (length name) 31) _ high.0
    (all_pass (λ b. nat_lt 0 b && nat_lt b 128) (λ b. not (b == 0)) clean_byte name clean.0)

abbrev pub are_further : List Stream → Bool
are_further streams = list_all (λ s. is_stream_name s.0) streams

fine_names : (streams : List Stream) → are_further streams ≡ true → are_named streams ≡ true
fine_names streams = all_pass (λ s. is_stream_name s.0) (λ s. is_name s.0) (λ s. fine_name s.0) streams

-- none of them has the name `#-`
none_older : (streams : List Stream) → are_further streams ≡ true
    → list_any (λ s. bytes_eq s.0 (codes "#-")) streams ≡ false
none_older [] sound = refl
none_older (s ∷ streams) sound =
    let parts = and_parts (is_stream_name s.0) _ sound in
    let after = or_parts (bytes_eq s.0 (codes "#~")) _ (not_known s.0 parts.0) in
    let here = or_parts (bytes_eq s.0 (codes "#-")) _ after.1 in
    or_from (bytes_eq s.0 (codes "#-")) _ here.0 (none_older streams parts.1)

-- what a reader finds in the bytes at a span, where these streams were written
pub record IsRootOf (bytes : List ℕ) (root : Span) (tables strings user_strings guids blobs : List ℕ)
    (further : List Stream) : Type 0 where
  pub accepted : first_fault (root_checks bytes root) ≡ None
  pub tables_part : IsPart bytes (root_of bytes root).tables tables
  pub strings_part : IsPart bytes (root_of bytes root).strings strings
  pub user_strings_part : IsPart bytes (root_of bytes root).user_strings user_strings
  pub guids_part : IsPart bytes (root_of bytes root).guids guids
  pub blobs_part : IsPart bytes (root_of bytes root).blobs blobs
  pub streams_are : streams_in (cut bytes root) ≡ known_parts tables strings user_strings guids blobs ++ further

module _ (bytes : List ℕ) (root : Span) (tables strings user_strings guids blobs : List ℕ) (further : List Stream)
    (lies : LiesIn (length bytes) root)
    (written : cut bytes root ≡ root_bytes (known_parts tables strings user_strings guids blobs ++ further))
    (sound : are_further further ≡ true)
    (few : length (known_parts tables strings user_strings guids blobs ++ further) < 2 ^ 16)
    (short : length (root_bytes (known_parts tables strings user_strings guids blobs ++ further)) < 2 ^ 31)
    (has_head : 24 ≤ length tables) where
  abbrev streams : List Stream
  streams = known_parts tables strings user_strings guids blobs ++ further

  all_found : AreHeaders (cut bytes root) (headers (cut bytes root)) streams
  all_found =
      subst (λ xs. AreHeaders xs (headers xs) streams) (sym written)
      (root_headers streams few short (fine_names further sound))

  tables_found : IsPart bytes (span_of (cut bytes root) root (codes "#~")) tables
  tables_found = stream_found bytes root lies (codes "#~") streams [] (codes "#~", tables) _ all_found refl refl refl

  no_older : named (cut bytes root) (codes "#-") ≡ None
  no_older =
      none_called (cut bytes root) (codes "#-") (headers (cut bytes root)) streams all_found
      (none_older further sound)

  accepts : first_fault (root_checks bytes root) ≡ None
  accepts =
      let metadata = cut bytes root in
      let long = root_length streams in
      let room : headers_at metadata ≤ length metadata =
      subst (λ xs. headers_at xs ≤ length xs) (sym written)
      (let at : headers_at (root_bytes streams) ≡ 32 = refl in omega arith) in
      let signed : starts_with nat_eq metadata (0x42 ∷ 0x53 ∷ 0x4A ∷ 0x42 ∷ []) ≡ true =
      ap (λ xs. starts_with nat_eq xs (0x42 ∷ 0x53 ∷ 0x4A ∷ 0x42 ∷ [])) written in
      pass _ code.Cut (length bytes) _ (le-leb _ _ lies)
      (pass _ code.RootSignature root.at _ signed
      (pass _ code.Bounds root.at _ (le-leb _ _ room)
      (rw (all_fit metadata (headers metadata) streams all_found, no_older)
      (pass _ code.NoTables root.at [] (le-leb _ _ (omega (arith, tables_found.len_is))) refl))))

  pub root_found : IsRootOf bytes root tables strings user_strings guids blobs further
  root_found = record {
    accepted = accepts;
    tables_part = tables_found;
    strings_part = stream_found bytes root lies (codes "#Strings") streams
        ((codes "#~", tables) ∷ [])
        (codes "#Strings", strings) _ all_found refl refl refl;
    user_strings_part = stream_found bytes root lies (codes "#US") streams
        ((codes "#~", tables) ∷ (codes "#Strings", strings) ∷ [])
        (codes "#US", user_strings) _ all_found refl refl refl;
    guids_part = stream_found bytes root lies (codes "#GUID") streams
        ((codes "#~", tables) ∷ (codes "#Strings", strings) ∷ (codes "#US", user_strings) ∷ [])
        (codes "#GUID", guids) _ all_found refl refl refl;
    blobs_part = stream_found bytes root lies (codes "#Blob") streams
        ((codes "#~", tables) ∷ (codes "#Strings", strings) ∷ (codes "#US", user_strings) ∷ (codes "#GUID", guids) ∷ [])
        (codes "#Blob", blobs) _ all_found refl refl refl;
    streams_are = all_read (cut bytes root) (headers (cut bytes root)) streams all_found;
  }
