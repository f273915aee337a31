-- The sections after a fat body's code, and the exception clauses in them (ECMA-335 II.25.4.5,
-- II.25.4.6). Places are counted from the start of the bytes; a byte past their end counts as 0.
use Rattle.std.specs.Prelude.{◌≡◌, ℕ, ◌+◌, ◌-◌, ◌*◌, ◌/◌, ◌%◌, ◌==◌, ◌&&◌, ◌||◌, Bool, true}
use Rattle.std.specs.Prelude.{false, IsTrue, not, if◌then◌else◌, nat_le, bit_and, List, [], ◌∷◌}
use Rattle.std.specs.Prelude.{map, length, slice_index, Option, Some, None}
use Rattle.std.specs.Int.{w16, w32, next_multiple_of}
use Rattle.std.specs.List.{list_all, range_with_len, flat_map}
use Rattle.cli_words.specs.Number.{number_at}
use Rattle.il_reader.specs.declared.section.Clause.{Clause}

-- what the place of a section is a multiple of (II.25.4.5)
abbrev pub alignment : ℕ
alignment = 4

-- the bits of a section's kind: that it holds exception clauses, among those that say what it holds, that its
-- clauses have the fat form, and that another section follows (II.25.4.5)
abbrev pub exceptions : ℕ
exceptions = 1

abbrev pub kinds : ℕ
kinds = 0x3F

abbrev pub wide : ℕ
wide = 0x40

abbrev pub more : ℕ
more = 0x80

-- how many bytes a section's header has
abbrev pub header_len : ℕ
header_len = 4

-- the kinds of clauses (II.25.4.6)
abbrev pub catch_kind : ℕ
catch_kind = 0

abbrev pub filter_kind : ℕ
filter_kind = 1

abbrev pub finally_kind : ℕ
finally_kind = 2

abbrev pub fault_kind : ℕ
fault_kind = 4

-- the first place at or after another that is a multiple of it
abbrev pub aligned : ℕ → ℕ
aligned at = next_multiple_of at alignment

-- the flags of a section's kind, its first byte (II.25.4.5)
abbrev pub kind_at : List ℕ → ℕ → ℕ
kind_at bytes at = slice_index bytes at

-- its clauses have the fat form
abbrev pub is_wide : List ℕ → ℕ → Bool
is_wide bytes at = not (bit_and (kind_at bytes at) wide == 0)

-- another section follows
abbrev pub has_more : List ℕ → ℕ → Bool
has_more bytes at = not (bit_and (kind_at bytes at) more == 0)

-- how many bytes the section has, the four of its header included: it says so in three bytes in the
-- fat form, and in one in the small form
unfoldable pub section_len : List ℕ → ℕ → ℕ
section_len bytes at =
    if is_wide bytes at then number_at w32 bytes at / 0x100 else slice_index bytes (at + 1)

-- how many bytes a clause has (II.25.4.6)
abbrev pub clause_len : Bool → ℕ
clause_len true = 24
clause_len false = 12

abbrev pub clause_count : List ℕ → ℕ → ℕ
clause_count bytes at = (section_len bytes at - header_len) / clause_len (is_wide bytes at)

-- the clause at a place: kind, try, handler, and the class token or the filter's offset
abbrev pub clause_at : List ℕ → Bool → ℕ → Clause
clause_at bytes true at = record {
  kind = number_at w32 bytes at;
  try_at = number_at w32 bytes (at + 4);
  try_len = number_at w32 bytes (at + 8);
  handler_at = number_at w32 bytes (at + 12);
  handler_len = number_at w32 bytes (at + 16);
  last = number_at w32 bytes (at + 20);
}
clause_at bytes false at = record {
  kind = number_at w16 bytes at;
  try_at = number_at w16 bytes (at + 2);
  try_len = slice_index bytes (at + 4);
  handler_at = number_at w16 bytes (at + 5);
  handler_len = slice_index bytes (at + 7);
  last = number_at w32 bytes (at + 8);
}

-- the n-th clause of a section, counted from 0
unfoldable pub clause_of : List ℕ → ℕ → ℕ → Clause
clause_of bytes at n =
    let form = is_wide bytes at in clause_at bytes form (at + header_len + clause_len form * n)

-- the clauses of a section, in their order
abbrev pub clauses_of : List ℕ → ℕ → List Clause
clauses_of bytes at = map (clause_of bytes at) (range_with_len 0 (clause_count bytes at))

-- catch, filter, finally or fault
abbrev pub is_known : Clause → Bool
is_known clause =
    (clause.kind == catch_kind) || (clause.kind == filter_kind)
    || (clause.kind == finally_kind) || (clause.kind == fault_kind)

-- a section stands whole at a place, by a header that says that it holds exception clauses: its
-- length is that of the header and of so many clauses, with nothing left over
unfoldable pub has_header : List ℕ → ℕ → Bool
has_header bytes at =
    let len = section_len bytes at in
    (bit_and (kind_at bytes at) kinds == exceptions)
    && (nat_le header_len len && ((len - header_len) % clause_len (is_wide bytes at) == 0)
    && nat_le (at + len) (length bytes))

-- such a section, each of whose clauses has a known kind
abbrev pub is_section : List ℕ → ℕ → Bool
is_section bytes at = has_header bytes at && list_all is_known (clauses_of bytes at)

-- sections stand at just these places, one after the other, where sections are due after a place:
-- each begins at the next multiple of four, and says whether another follows
abbrev pub AreSections : List ℕ → Bool → ℕ → List ℕ → Type 0
AreSections bytes due end [] = due ≡ false
AreSections bytes due end (at ∷ places) =
    (due ≡ true) × (at ≡ aligned end) × IsTrue (is_section bytes at)
    × AreSections bytes (has_more bytes at) (at + section_len bytes at) places

-- the clauses of sections, in their order
abbrev pub clauses_in : List ℕ → List ℕ → List Clause
clauses_in bytes places = flat_map (clauses_of bytes) places

-- the clauses of all sections that are due after a place; nothing where not all of them stand
abbrev pub HasClauses : List ℕ → Bool → ℕ → Option (List Clause) → Type 0
HasClauses bytes due end None = (places : List ℕ) → ¬ AreSections bytes due end places
HasClauses bytes due end (Some clauses) =
    (places : List ℕ) × AreSections bytes due end places × (clauses ≡ clauses_in bytes places)
