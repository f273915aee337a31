-- The reading of a stream `#~` (ECMA-335 II.24.2.6): reserved 4, version 1 + 1, HeapSizes 1,
-- reserved 1, Valid 8, Sorted 8, a count of 4 for each bit of Valid, the rows.
use Rattle.std.specs.Prelude.{ℕ, ◌+◌, ◌*◌, ◌^◌, ◌≡◌, ◌<◌, Bool, not, ◌&&◌, ◌||◌, nat_lt, nat_le, List, [], ◌∷◌, map, filter, length, slice_index, Option, if◌then◌else◌}
use Rattle.std.specs.List.{list_all, range_with_len}
use Rattle.std.specs.Int.{w32, w64}
use Rattle.cli_words.specs.Number.{number_at}
use Rattle.cli_words.specs.Check.{check}
use Rattle.cli_words.specs.declared.check.CheckCode.TheVariants as code
use Rattle.cli_words.specs.declared.check.FailedCheck.{FailedCheck}
use Rattle.cli_words.specs.declared.span.Span.{Span}
use Rattle.metadata_tables.specs.declared.layout.Layout.{Layout}
use Rattle.metadata_tables.specs.Tables.{table_count}
use Rattle.metadata_tables.specs.Columns.{columns_of}
use Rattle.metadata_tables.specs.Layout.{is_set, rows_end}

-- the bits of the tables that the stream at a place has
unfoldable pub valid_of : List ℕ → ℕ → ℕ
valid_of bytes at = number_at w64 bytes (at + 8)

-- how many of the tables below one there are
unfoldable pub present_below : ℕ → ℕ → ℕ
present_below valid table = length (filter (is_set valid) (range_with_len 0 table))

-- the place of a table's count; for table 64, of what follows the counts
abbrev pub count_at : List ℕ → ℕ → ℕ → ℕ
count_at bytes at table = at + 24 + 4 * present_below (valid_of bytes at) table

-- how many rows a table is said to have
abbrev pub count_in : List ℕ → ℕ → ℕ → ℕ
count_in bytes at table =
    if is_set (valid_of bytes at) table then number_at w32 bytes (count_at bytes at table) else 0

-- how many rows each of the tables 00 to 2C is said to have
unfoldable pub counts_of : List ℕ → ℕ → List ℕ
counts_of bytes at = map (count_in bytes at) (range_with_len 0 table_count)

-- what the stream at a place says of its tables
abbrev pub layout_of : List ℕ → ℕ → Layout
layout_of bytes at = record {
  rows_at = count_at bytes at 64;
  heap_sizes = slice_index bytes (at + 6);
  counts = counts_of bytes at;
}

-- a table with columns is not refused
abbrev pub is_known : ℕ → Bool
is_known table = nat_lt 0 (length (columns_of table))

-- the count of a table lies whole in the stream
abbrev pub has_count : List ℕ → Span → ℕ → Bool
has_count bytes stream table = nat_le (count_at bytes stream.at table + 4) (stream.at + stream.len)

-- a table that the stream has is not refused, and its count, where it lies whole in the stream, is
-- below 2^24 (own)
abbrev pub is_allowed : List ℕ → Span → ℕ → Bool
is_allowed bytes stream table =
    not (is_set (valid_of bytes stream.at) table)
    || (is_known table
    && (not (has_count bytes stream table) || nat_lt (count_in bytes stream.at table) (2 ^ 24)))

-- each table is allowed
unfoldable pub are_allowed : List ℕ → Span → Bool
are_allowed bytes stream = list_all (is_allowed bytes stream) (range_with_len 0 64)

-- all counts and all rows lie in the stream
abbrev pub lies_whole : List ℕ → Span → Bool
lies_whole bytes stream = nat_le (rows_end (layout_of bytes stream.at)) (stream.at + stream.len)

-- the checks of a stream, in order, both at the stream (own)
abbrev pub checks : List ℕ → Span → List (Option FailedCheck)
checks bytes stream =
    check (are_allowed bytes stream) code.Table stream.at
    ∷ check (lies_whole bytes stream) code.Bounds stream.at ∷ []

-- the places of the counts of the tables 00 to 3F, and of what follows them
abbrev pub ArePlaces : List ℕ → ℕ → List ℕ → Type 0
ArePlaces bytes at places = (k : ℕ) → k < 65 → slice_index places k ≡ count_at bytes at k
