-- What an image is that is made of a module (ECMA-335 II.22 to II.25; that sections and streams are these, and
-- the bound on the length, is own).
use Rattle.std.specs.Prelude.{ℕ, ◌≡◌, ◌+◌, ◌*◌, ◌%◌, ◌≤◌, List, ◌∷◌, [], ◌++◌, map, length, take, drop, slice_get, slice_index, Option, Some, MatchOption, codes, replicate}
use Rattle.cli_words.specs.declared.span.Span.{Span}
use Rattle.pe_image.specs.Section as section
use Rattle.pe_image.specs.Layout.{signature_place, magic}
use Rattle.pe_image.specs.Reading.{pe_of}
use Rattle.cli_words.specs.Span.{LiesIn, cut}
use Rattle.meta_heaps.specs.Streams.{headers, name_of, stream_of}
use Rattle.assembly_image.specs.Reading.{Reads, metadata_of}
use Rattle.image_maker.specs.declared.module.Module.{Module}
use Rattle.image_maker.specs.declared.module.MethodRow.{MethodRow}
use Rattle.image_maker.specs.Rows.{image_of, all_methods}
use Rattle.image_maker.specs.Size.{size_of}

-- the place of the header of a section, counted from 0
abbrev pub header_at : List ℕ → ℕ → ℕ
header_at bytes n = (pe_of bytes).sections_at + 40 * n

-- the bytes of a section
abbrev pub section_bytes : List ℕ → ℕ → List ℕ
section_bytes bytes n =
    take (section.size bytes (header_at bytes n)) (drop (section.place bytes (header_at bytes n)) bytes)

abbrev pub section_name : List ℕ → ℕ → List ℕ
section_name bytes n = take 8 (drop (header_at bytes n) bytes)

-- a section lies in the file, and in the file and in memory not after the beginning of the next
pub record IsBefore (bytes : List ℕ) (n next : ℕ) : Type 0 where
  pub file : section.place bytes (header_at bytes n) + section.size bytes (header_at bytes n)
      ≤ section.place bytes (header_at bytes next)
  pub memory : section.address bytes (header_at bytes n) + section.size bytes (header_at bytes n)
      ≤ section.address bytes (header_at bytes next)

-- a PE32 file with three sections, one after the other, of which the last two have 512 zeros (II.25.2.3.1,
-- II.25.3)
pub record HasSections (bytes : List ℕ) : Type 0 where
  pub form : magic bytes (signature_place bytes) ≡ 0x10B
  pub count : (pe_of bytes).sections ≡ 3
  pub first : section_name bytes 0 ≡ codes ".text" ++ replicate 3 0
  pub second : section_name bytes 1 ≡ codes ".rsrc" ++ replicate 3 0
  pub third : section_name bytes 2 ≡ codes ".reloc" ++ replicate 2 0
  pub second_is_empty : section_bytes bytes 1 ≡ replicate 512 0
  pub third_is_empty : section_bytes bytes 2 ≡ replicate 512 0
  pub second_follows : IsBefore bytes 0 1
  pub third_follows : IsBefore bytes 1 2
  pub ends : section.place bytes (header_at bytes 2) + section.size bytes (header_at bytes 2) ≡ length bytes

-- the RVA of a method is 0 where it has no body, and else that of just the body's bytes
abbrev pub IsPlaced : List ℕ → ℕ → Option (List ℕ) → Type 0
IsPlaced bytes rva body = MatchOption body (rva ≡ 0)
    (λ code. ¬ (rva ≡ 0) × (span : Span)
    × (section.span_of bytes (pe_of bytes).sections_at (pe_of bytes).sections rva (length code) ≡ Some span)
    × LiesIn (length bytes) span × (cut bytes span ≡ code))

-- each method's row has the RVA of the method's body
abbrev pub ArePlaced : List ℕ → (ℕ → ℕ) → List MethodRow → Type 0
ArePlaced bytes rva methods =
    (n : ℕ) (method : MethodRow) → slice_get methods n ≡ Some method
    → IsPlaced bytes (rva (n + 1)) method.body

-- a body whose header is fat, with 3 in its lowest two bits, begins at a multiple of four, in memory and in the
-- file (II.25.4, II.25.4.1)
abbrev pub AreAligned : List ℕ → (ℕ → ℕ) → List MethodRow → Type 0
AreAligned bytes rva methods =
    (n : ℕ) (method : MethodRow) (code : List ℕ) (span : Span) → slice_get methods n ≡ Some method
    → method.body ≡ Some code → slice_index code 0 % 4 ≡ 3
    → section.span_of bytes (pe_of bytes).sections_at (pe_of bytes).sections (rva (n + 1)) (length code) ≡ Some span
    → (rva (n + 1) % 4 ≡ 0) × (span.at % 4 ≡ 0)

-- the streams of metadata, each with its name
abbrev pub streams_in : List ℕ → List (List ℕ × List ℕ)
streams_in metadata =
    map (λ at. (name_of metadata at, cut metadata (stream_of metadata at))) (headers metadata)

-- the further streams stand after the five that a reader looks for
abbrev pub HasStreams : List ℕ → List (List ℕ × List ℕ) → Type 0
HasStreams metadata streams =
    (known : List (List ℕ × List ℕ))
    × (map (λ s. s.0) known ≡ codes "#~" ∷ codes "#Strings" ∷ codes "#US" ∷ codes "#GUID" ∷ codes "#Blob" ∷ [])
    × (streams_in metadata ≡ known ++ streams)

-- the bytes are read as the module, with its bodies and its further streams
pub record IsMade (m : Module) (bytes : List ℕ) : Type 0 where
  pub rva : ℕ → ℕ
  pub reads : Reads bytes (image_of m rva)
  pub bodies : ArePlaced bytes rva (all_methods m)
  pub aligned : AreAligned bytes rva (all_methods m)
  pub streams : HasStreams (cut bytes (metadata_of bytes)) m.streams
  pub sections : HasSections bytes
  pub short : length bytes ≤ size_of m
