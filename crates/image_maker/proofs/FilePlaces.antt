-- What a reader finds in a file that is made of bodies and metadata (ECMA-335 II.25).
use Rattle.std.proofs.Common.{◌≡◌, ℕ, ◌+◌, ◌-◌, ◌<◌, ◌≤◌, ◌^◌, List, ◌++◌, length, take, drop, Some, None, sym, ap, ◌∙◌, arith, append_assoc, length-drop}
use Rattle.std.proofs.Math.Seq.{drop-append_seam, drop-append-add, take-append_seam}
use Rattle.std.proofs.lemmas.List.{drop-append-le, take-append-le, drop-drop, drop_at}
use Rattle.cli_words.specs.Check.{first_fault}
use Rattle.pe_image.specs.Section as section
use Rattle.pe_image.specs.Checks.{pe_checks}
use Rattle.pe_image.specs.Reading.{pe_of}
use Rattle.cli_words.specs.Span.{LiesIn, cut}
use Rattle.assembly_image.specs.Reading.{metadata_of}
use Rattle.image_maker.specs.File.{file_bytes, file_headers, cli_header, text_bytes, bodies_address, padded, zeros, round_up}
use Rattle.image_maker.specs.Made.{HasSections}
use Rattle.image_maker.proofs.FilePlacesHeaders.{HasHeaders, HasCliHeader, headers_read, cli_header_read}
use Rattle.image_maker.proofs.FilePlacesChecks as file_checks
use Rattle.image_maker.proofs.FilePlacesSections as file_sections
use Rattle.image_maker.proofs.LengthFile.{up512-ge, length-padded, headers_512, text_length, file_length}

module _ (bodies metadata : List ℕ) (fits : 72 + length bodies + length metadata < 2 ^ 31) where
  abbrev File : List ℕ
  File = file_bytes bodies metadata

  abbrev Text : List ℕ
  Text = text_bytes bodies metadata

  -- how many bytes the section of code has
  abbrev text : ℕ
  text = length (text_bytes bodies metadata)

  -- the RVA of the metadata
  abbrev rva : ℕ
  rva = bodies_address + length bodies

  abbrev head : List ℕ
  head = cli_header rva (length metadata)

  long_is : length File ≡ 0x600 + round_up 512 text
  long_is =
      file_length bodies metadata ∙ ap (λ n. 512 + round_up 512 n + 1024) (sym (text_length bodies metadata))
      ∙ omega arith

  headers : HasHeaders text File
  headers = headers_read text (rw (text_length bodies metadata) fits) (padded 512 Text ++ zeros 1024)

  after_headers : drop 0x200 File ≡ padded 512 Text ++ zeros 1024
  after_headers = drop_at (file_headers text) _ 0x200 (headers_512 text)

  -- the bytes after those of the section of code
  abbrev rest : List ℕ
  rest = zeros (round_up 512 text - text) ++ zeros 1024

  after_text : drop 0x200 File ≡ head ++ (bodies ++ (metadata ++ rest))
  after_text =
      after_headers ∙ append_assoc Text _ _ ∙ append_assoc head (bodies ++ metadata) rest
      ∙ ap (λ xs. head ++ xs) (append_assoc bodies metadata rest)

  cli : HasCliHeader (drop 0x200 File) rva (length metadata)
  cli =
      rw after_text
      (cli_header_read rva (length metadata) (bodies ++ (metadata ++ rest)) (omega arith) (omega arith))

  -- what comes after the section of code
  after_code : drop (0x200 + round_up 512 text) File ≡ zeros 1024
  after_code =
      sym (drop-drop (round_up 512 text) 0x200 File) ∙ ap (drop (round_up 512 text)) after_headers
      ∙ drop_at (padded 512 Text) (zeros 1024) (round_up 512 text) (length-padded 512 Text (up512-ge text))

  -- what comes after the CLI header
  after_cli : (k : ℕ) → drop (0x248 + k) File ≡ drop k (bodies ++ (metadata ++ rest))
  after_cli k =
      let same : 0x248 + k ≡ 0x200 + (72 + k) = omega arith in
      ap (λ n. drop n File) same ∙ sym (drop-drop (72 + k) 0x200 File) ∙ ap (drop (72 + k)) after_text
      ∙ drop-append-add head (bodies ++ (metadata ++ rest)) k

  long : 0x600 + round_up 512 text ≤ length File
  long = omega (arith, long_is)

  above : 72 ≤ text
  above = omega (arith, text_length bodies metadata)

  inside : rva + length metadata ≤ 0x2000 + round_up 512 text
  inside = let up = up512-ge text in omega (arith, text_length bodies metadata)

  pub passes : first_fault (pe_checks File) ≡ None
  passes = file_checks.checks_pass text File headers long rva (length metadata) cli above (omega arith) inside

  pe_is : pe_of File
      ≡ record { sections_at = 376; sections = 3; root_at = 0x248 + length bodies; root_len = length metadata }
  pe_is =
      file_checks.pe_is text File headers long rva (length metadata) cli above (omega arith) inside
      ∙ ap (λ at. record { sections_at = 376; sections = 3; root_at = at; root_len = length metadata }) (omega arith)

  pub metadata_place : metadata_of File ≡ record { at = 0x248 + length bodies; len = length metadata }
  unfolding metadata_of
  metadata_place = ap (λ pe. record { at = pe.root_at; len = pe.root_len }) pe_is

  pub metadata_cut : cut File (metadata_of File) ≡ metadata
  metadata_cut =
      rw metadata_place
      (ap (take (length metadata)) (after_cli (length bodies) ∙ drop-append_seam bodies (metadata ++ rest))
      ∙ take-append_seam metadata rest)

  pub metadata_inside : LiesIn (length File) (metadata_of File)
  metadata_inside = rw metadata_place (omega (arith, inside, long))

  -- bytes within the bodies
  module _ (k len : ℕ) (within : k + len ≤ length bodies) where
    pub body_span : section.span_of File (pe_of File).sections_at (pe_of File).sections (bodies_address + k) len
        ≡ Some (record { at = 0x248 + k; len = len })
    body_span =
        ap (λ pe. section.span_of File pe.sections_at pe.sections (bodies_address + k) len) pe_is
        ∙ file_checks.text_span text File headers long (bodies_address + k) len (omega arith) (omega (arith, inside))
        ∙ ap (λ at. Some (record { at = at; len = len })) (omega arith)

    pub body_inside : LiesIn (length File) (record { at = 0x248 + k; len = len })
    body_inside = omega (arith, inside, long)

    pub body_cut : cut File (record { at = 0x248 + k; len = len }) ≡ take len (drop k bodies)
    body_cut =
        let left : len ≤ length (drop k bodies) = rw length-drop (omega arith) in
        ap (take len) (after_cli k ∙ drop-append-le k bodies (metadata ++ rest) (omega arith))
        ∙ take-append-le len (drop k bodies) (metadata ++ rest) left

  pub sections : HasSections File
  sections =
      file_sections.has_sections text File headers long_is (ap (λ pe. pe.sections_at) pe_is)
      (ap (λ pe. pe.sections) pe_is) after_code
