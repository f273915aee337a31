-- The entries of the heaps (ECMA-335 II.24.2.3, II.24.2.4, II.24.2.5).
use Rattle.std.specs.Prelude.{ℕ, ◌+◌, ◌-◌, ◌*◌, ◌%◌, ◌==◌, ◌&&◌, nat_lt, nat_le, if◌then◌else◌, List, drop, Option, Some, None}
use Rattle.std.specs.Option.{option_map, option_and_then}
use Rattle.cli_words.specs.declared.span.Span.{Span}
use Rattle.cli_words.specs.Span.{cut, LiesIn, zero_after}
use Rattle.cli_words.specs.Compressed.{number_at_front}
use Rattle.meta_heaps.specs.declared.heap.Root.{Root}

-- each heap and the stream of the tables lie in bytes of this length
pub record IsWithin (len : ℕ) (root : Root) : Type 0 where
  pub tables : LiesIn len root.tables
  pub strings : LiesIn len root.strings
  pub user_strings : LiesIn len root.user_strings
  pub guids : LiesIn len root.guids
  pub blobs : LiesIn len root.blobs

-- the bytes of a string heap from the index to the first zero (II.24.2.3)
abbrev pub string_at : List ℕ → Span → ℕ → Option Span
string_at bytes heap index =
    option_map (λ n. record { at = heap.at + index; len = n })
    (zero_after (drop index (cut bytes heap)))

-- the bytes that a count at an index speaks of, where the heap has them all; the pair is the count and
-- how many bytes it takes itself
abbrev pub counted : Span → ℕ → ℕ × ℕ → Option Span
counted heap index count =
    let from = index + count.1 in
    if nat_le (from + count.0) heap.len then
    Some (record { at = heap.at + from; len = count.0 })
    else None

-- the bytes of an entry that begins with its count (II.24.2.4)
abbrev pub entry_at : List ℕ → Span → ℕ → Option Span
entry_at bytes heap index =
    option_and_then (counted heap index) (number_at_front (drop index (cut bytes heap)))

-- the bytes of a blob; an empty heap has the empty blob at 0 (own)
abbrev pub blob_at : List ℕ → Span → ℕ → Option Span
blob_at bytes heap index =
    if (heap.len == 0) && (index == 0) then
    Some (record { at = heap.at; len = 0 })
    else entry_at bytes heap index

-- the units of an entry, whose one last byte is none of them
abbrev pub unit_bytes : Span → Option Span
unit_bytes entry =
    if entry.len % 2 == 1 then Some (record { at = entry.at; len = entry.len - 1 }) else None

-- the bytes of a user string's units (II.24.2.4)
abbrev pub user_string_at : List ℕ → Span → ℕ → Option Span
user_string_at bytes heap index = option_and_then unit_bytes (entry_at bytes heap index)

-- the 16 bytes of a GUID, counted from 1 (II.24.2.5)
abbrev pub guid_at : Span → ℕ → Option Span
guid_at heap index =
    if nat_lt 0 index && nat_le (16 * index) heap.len then
    Some (record { at = heap.at + 16 * (index - 1); len = 16 })
    else None
