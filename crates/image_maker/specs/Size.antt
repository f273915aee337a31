-- The size of a module, in bytes, and the limits of what is made (own).
use Rattle.std.specs.Prelude.{ℕ, ◌+◌, ◌*◌, nat_le, nat_lt, not, List, [], ◌∷◌, ◌++◌, map, length, Option, Some, None, if◌then◌else◌}
use Rattle.std.specs.Option.{option_map_or}
use Rattle.std.specs.List.{flat_map, find, list_all, range_with_len, sum_by}
use Rattle.image_maker.specs.declared.module.Module.{Module}
use Rattle.image_maker.specs.declared.module.MethodRow.{MethodRow}
use Rattle.image_maker.specs.declared.module.Cell.{Cell}
use Rattle.image_maker.specs.declared.module.Cell.TheVariants.{Number, Text, Bytes}
use Rattle.image_maker.specs.Rows.{all_fields, all_methods}
use Rattle.image_maker.specs.Sound.{count, all_texts}

-- all blobs of a row
abbrev pub blobs_in : List Cell → List (List ℕ)
blobs_in [] = []
blobs_in (Bytes bytes ∷ cells) = bytes ∷ blobs_in cells
blobs_in (Number value ∷ cells) = blobs_in cells
blobs_in (Text bytes ∷ cells) = blobs_in cells

-- all signatures, type specifications and cells of bytes
abbrev pub all_blobs : Module → List (List ℕ)
all_blobs m =
    map (λ f. f.sig) (all_fields m)
    ++ (map (λ f. f.sig) (all_methods m)
    ++ (map (λ r. r.sig) m.members
    ++ (m.specs
    ++ flat_map (λ r. blobs_in r.1) m.rows)))

-- how many rows there are, those of Module and Assembly included, and those that are given for a table that a
-- module may not have
abbrev pub row_count : Module → ℕ
row_count m =
    2 + length m.refs + length m.type_refs + length m.types + length (all_fields m) + length (all_methods m)
    + length m.members + length m.specs + length m.rows

-- what the body of a method adds
abbrev pub body_size : MethodRow → ℕ
body_size m = option_map_or (λ body. length body + 3) m.body 0

-- a sum over the module: what is fixed, and what each row, text, blob, body and stream adds at most
abbrev pub size_of : Module → ℕ
size_of m =
    8192 + 40 * row_count m
    + sum_by (λ text. length text + 1) (all_texts m)
    + sum_by (λ blob. length blob + 4) (all_blobs m)
    + sum_by body_size (all_methods m)
    + sum_by (λ s. length s.1 + 64) m.streams
    + length m.user_strings + length m.guids

-- the most rows of a table, bytes of a name and bytes of a module
abbrev pub row_limit : ℕ
row_limit = 65534

abbrev pub name_limit : ℕ
name_limit = 1023

abbrev pub size_limit : ℕ
size_limit = 4194304

-- the first table that has too many rows
abbrev pub long_table : Module → Option ℕ
long_table m = find (λ table. nat_lt row_limit (count m table)) (range_with_len 0 45)

-- the number of the limit that a module passes: the least table that has too many rows, FE for a name, FF for
-- the size
abbrev pub limit_by : Module → Option ℕ → Option ℕ
limit_by m (Some table) = Some table
limit_by m None =
    if not (list_all (λ text. nat_le (length text) name_limit) (all_texts m)) then Some 0xFE
    else (if nat_lt size_limit (size_of m) then Some 0xFF else None)

abbrev pub limit_of : Module → Option ℕ
limit_of m = limit_by m (long_table m)
