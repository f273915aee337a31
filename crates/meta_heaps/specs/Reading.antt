-- What is read off the metadata root, and why it is refused (ECMA-335 II.24.2.1, II.24.2.2).
use Rattle.std.specs.Prelude.{ℕ, ◌+◌, not, nat_eq, nat_le, List, [], ◌∷◌, length, Option, codes}
use Rattle.std.specs.List.{find, starts_with}
use Rattle.std.specs.Option.{option_map, option_map_or}
use Rattle.cli_words.specs.Check.{check}
use Rattle.cli_words.specs.Span.{cut, lies_in}
use Rattle.cli_words.specs.declared.check.CheckCode.{CheckCode}
use Rattle.cli_words.specs.declared.check.CheckCode.TheVariants as code
use Rattle.cli_words.specs.declared.check.FailedCheck.{FailedCheck}
use Rattle.cli_words.specs.declared.span.Span.{Span}
use Rattle.meta_heaps.specs.declared.heap.Root.{Root}
use Rattle.meta_heaps.specs.Streams.{headers_at, headers, fits, named, stream_of}

-- the place in the bytes and the length of the first stream of a name; a missing one is empty
abbrev pub span_of : List ℕ → Span → List ℕ → Span
span_of metadata root name =
    option_map_or
    (λ at. let stream = stream_of metadata at in record { at = root.at + stream.at; len = stream.len })
    (named metadata name) (record { at = root.at; len = 0 })

abbrev pub root_in : List ℕ → Span → Root
root_in metadata root = record {
  tables = span_of metadata root (codes "#~");
  strings = span_of metadata root (codes "#Strings");
  user_strings = span_of metadata root (codes "#US");
  guids = span_of metadata root (codes "#GUID");
  blobs = span_of metadata root (codes "#Blob");
}

-- a check that fails at a place of the metadata, where there is one
abbrev pub fault_at : CheckCode → Span → Option ℕ → Option FailedCheck
fault_at failed root place = option_map (λ at. record { code = failed; at = root.at + at }) place

-- the checks of the metadata, in their order
abbrev pub metadata_checks : List ℕ → Span → List (Option FailedCheck)
metadata_checks metadata root =
    check (starts_with nat_eq metadata (0x42 ∷ 0x53 ∷ 0x4A ∷ 0x42 ∷ [])) code.RootSignature root.at
    ∷ check (nat_le (headers_at metadata) (length metadata)) code.Bounds root.at
    ∷ fault_at code.Bounds root (find (λ at. not (fits metadata at)) (headers metadata))
    ∷ fault_at code.EditStream root (named metadata (codes "#-"))
    ∷ check (nat_le 24 (span_of metadata root (codes "#~")).len) code.NoTables root.at
    ∷ []

-- the root lies in the bytes, and then the checks of the metadata in it
abbrev pub root_checks : List ℕ → Span → List (Option FailedCheck)
root_checks bytes root =
    check (lies_in (length bytes) root) code.Cut (length bytes)
    ∷ metadata_checks (cut bytes root) root

-- the root that the bytes have at a span
abbrev pub root_of : List ℕ → Span → Root
root_of bytes root = root_in (cut bytes root) root
