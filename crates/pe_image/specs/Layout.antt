-- Where the headers of a PE file stand, each found by those before it. A byte past the file's end
-- counts as 0: checks on the file's length come before each use.
use Rattle.std.specs.Prelude.{ℕ, ◌+◌, ◌==◌, if◌then◌else◌, List, Option, Some, None}
use Rattle.std.specs.Int.{w16, w32}
use Rattle.cli_words.specs.Number.{number_at}
use Rattle.cli_words.specs.declared.span.Span.{Span}
use Rattle.pe_image.specs.Section.{span_of}

-- the PE signature, by the word at 3C (ECMA-335 II.25.2.1)
unfoldable pub signature_place : List ℕ → ℕ
signature_place bytes = number_at w32 bytes 0x3C

-- the optional header comes after the signature's 4 bytes and the file header's 20 (II.25.2.2)
abbrev pub optional_place : ℕ → ℕ
optional_place signature = signature + 24

-- its magic number (II.25.2.3.1); 20B beside 10B is own
abbrev pub magic : List ℕ → ℕ → ℕ
magic bytes signature = number_at w16 bytes (optional_place signature)

-- how many bytes further the data directories stand under 20B
abbrev pub wider : List ℕ → ℕ → ℕ
wider bytes signature = if magic bytes signature == 0x20B then 16 else 0

-- the count of data directories (II.25.2.3.2)
abbrev pub directory_count_place : List ℕ → ℕ → ℕ
directory_count_place bytes signature = optional_place signature + 92 + wider bytes signature

-- directory 14: the RVA and the size of the CLI header (II.25.2.3.3)
unfoldable pub directory_place : List ℕ → ℕ → ℕ
directory_place bytes signature = optional_place signature + 208 + wider bytes signature

-- how many bytes the optional header has up to the end of directory 14
abbrev pub optional_length : List ℕ → ℕ → ℕ
optional_length bytes signature = 216 + wider bytes signature

-- the CLI header, in the section that holds its 24 bytes (II.25.3.3)
abbrev pub cli_header : List ℕ → ℕ → ℕ → ℕ → Option Span
cli_header bytes first count directory =
    span_of bytes first count (number_at w32 bytes directory) 24

-- the span that a section gave; where none did, a check fails
abbrev pub found : Option Span → Span
found None = record { at = 0; len = 0 }
found (Some span) = span

unfoldable pub cli_place : List ℕ → ℕ → ℕ → ℕ → ℕ
cli_place bytes first count directory = (found (cli_header bytes first count directory)).at

-- the metadata, by its RVA and its size in the CLI header (II.25.3.3)
unfoldable pub metadata : List ℕ → ℕ → ℕ → ℕ → Option Span
metadata bytes first count cli =
    span_of bytes first count (number_at w32 bytes (cli + 8)) (number_at w32 bytes (cli + 12))
