-- Sections of a PE file (ECMA-335 II.25.2.2, II.25.3). A section's header has 40 bytes.
use Rattle.std.specs.Prelude.{◌≡◌, ℕ, ◌+◌, ◌-◌, ◌*◌, ◌<◌, Bool, IsTrue, ◌&&◌, nat_le, List, length, map, Option, MatchOption}
use Rattle.std.specs.Option.{option_map}
use Rattle.std.specs.List.{find, range_with_len}
use Rattle.std.specs.Int.{w16, w32}
use Rattle.cli_words.specs.Number.{number_at}
use Rattle.cli_words.specs.declared.span.Span.{Span}

-- where the section headers begin: after the optional header, whose length the file header has
abbrev pub sections_place : List ℕ → ℕ → ℕ
sections_place bytes signature = signature + 24 + number_at w16 bytes (signature + 20)

abbrev pub section_count : List ℕ → ℕ → ℕ
section_count bytes signature = number_at w16 bytes (signature + 6)

-- the places of so many headers, the first of them at `first`
abbrev pub headers : ℕ → ℕ → List ℕ
headers first count = map (λ n. first + 40 * n) (range_with_len 0 count)

-- where in memory the section of a header begins
abbrev pub address : List ℕ → ℕ → ℕ
address bytes header = number_at w32 bytes (header + 12)

-- how many bytes of it the file has
abbrev pub size : List ℕ → ℕ → ℕ
size bytes header = number_at w32 bytes (header + 16)

-- where in the file they begin
abbrev pub place : List ℕ → ℕ → ℕ
place bytes header = number_at w32 bytes (header + 20)

-- the section, whose header the file has whole, holds the `len` bytes of memory from `rva` on
abbrev pub holds : List ℕ → ℕ → ℕ → ℕ → Bool
holds bytes rva len header =
    nat_le (header + 40) (length bytes) && (nat_le (address bytes header) rva
    && nat_le (rva + len) (address bytes header + size bytes header))

-- where these bytes stand in the file
abbrev pub span_from : List ℕ → ℕ → ℕ → ℕ → Span
span_from bytes rva len header =
    record { at = place bytes header + (rva - address bytes header); len = len }

-- the same by the first section that holds them
abbrev pub span_of : List ℕ → ℕ → ℕ → ℕ → ℕ → Option Span
span_of bytes first count rva len =
    option_map (span_from bytes rva len) (find (holds bytes rva len) (headers first count))

-- none of the sections before the n-th holds these bytes
abbrev pub NoneHolds : List ℕ → ℕ → ℕ → ℕ → ℕ → Type 0
NoneHolds bytes first n rva len = (k : ℕ) → k < n → ¬ IsTrue (holds bytes rva len (first + 40 * k))

-- what is found is the span by the first section that holds these bytes; nothing where none does
abbrev pub IsFirstSpan : List ℕ → ℕ → ℕ → ℕ → ℕ → Option Span → Type 0
IsFirstSpan bytes first count rva len found =
    MatchOption found (NoneHolds bytes first count rva len)
    (λ span. (n : ℕ) × (n < count) × NoneHolds bytes first n rva len
    × IsTrue (holds bytes rva len (first + 40 * n))
    × (span ≡ span_from bytes rva len (first + 40 * n)))
