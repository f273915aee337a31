-- What is counted of a module before it is written: bytes, of which no count passes 2^64 - 1, and the rows of its tables,
-- of which none passes 2^32 - 1 (own).
use Rattle.std.specs.Prelude.{ℕ, ◌+◌, ◌-◌, ◌^◌, ◌≡◌, ◌&&◌, Bool, true, nat_le, min, ◌==◌, List, [], ◌∷◌, length, filter, slice_index}
use Rattle.std.specs.List.{list_all, sum_by}
use Rattle.metadata_tables.specs.declared.layout.Layout.{Layout}
use Rattle.image_maker.specs.declared.module.Module.{Module}
use Rattle.image_maker.specs.declared.module.Cell.{Cell}
use Rattle.image_maker.specs.declared.module.MethodRow.{MethodRow}
use Rattle.image_maker.specs.declared.tally.Tally.{Tally}
use Rattle.image_maker.specs.declared.module.Cell.TheVariants.{Number, Text, Bytes}
use Rattle.image_maker.specs.Rows.{all_methods}
use Rattle.image_maker.specs.Sound.{layout_at, has_no_zero}
use Rattle.image_maker.specs.Size.{name_limit, all_blobs, body_size}

-- the greatest count
abbrev pub most : ℕ
most = 2 ^ 64 - 1

-- the counts of a module's rows
unfoldable pub layout_of : Module → Layout
layout_of m = layout_at m 0

-- the greatest count of rows
abbrev pub most_rows : ℕ
most_rows = 2 ^ 32 - 1

-- these are the counts of a module's rows
abbrev pub Tells : List ℕ → Module → Type 0
Tells counts m = (t : ℕ) → slice_index counts t ≡ min (slice_index (layout_of m).counts t) most_rows

-- how many rows of a table a module gives as cells
abbrev pub given_count : ℕ → List (ℕ × List Cell) → ℕ
given_count table rows = length (filter (λ r. r.0 == table) rows)

-- a text is not too long
abbrev pub is_short : List ℕ → Bool
is_short text = nat_le (length text) name_limit

-- how many bytes a text adds
abbrev pub text_size : List ℕ → ℕ
text_size text = length text + 1

-- these texts, and as many other bytes, are counted after what was counted
pub record Adds (texts : List (List ℕ)) (bytes : ℕ) (old new : Tally) : Type 0 where
  pub no_zero : new.has_no_zero ≡ (old.has_no_zero && list_all has_no_zero texts)
  pub short : new.is_short ≡ (old.is_short && list_all is_short texts)
  pub size : new.size ≡ min (old.size + (sum_by text_size texts + bytes)) most

-- nothing is counted
abbrev pub empty : Tally
empty = record { has_no_zero = true; is_short = true; size = 0 }

-- the text that a cell is, and the bytes that it adds
abbrev pub cell_texts : Cell → List (List ℕ)
cell_texts (Number value) = []
cell_texts (Text bytes) = bytes ∷ []
cell_texts (Bytes bytes) = []

abbrev pub cell_bytes : Cell → ℕ
cell_bytes (Number value) = 0
cell_bytes (Text bytes) = 0
cell_bytes (Bytes bytes) = length bytes + 4

-- how many bytes a method adds beside its name
abbrev pub method_bytes : MethodRow → ℕ
method_bytes m = length m.sig + 4 + body_size m

-- how many bytes a module adds beside its texts and its rows
abbrev pub module_bytes : Module → ℕ
module_bytes m =
    sum_by (λ blob. length blob + 4) (all_blobs m) + sum_by body_size (all_methods m)
    + sum_by (λ s. length s.1 + 64) m.streams + length m.user_strings + length m.guids
