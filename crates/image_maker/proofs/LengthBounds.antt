-- What is made of a module is never longer than the module's size.
use Rattle.std.proofs.Common.{◌≡◌, ℕ, suc, ◌+◌, ◌*◌, ◌^◌, ◌<◌, ◌≤◌, true, None, List, [], ◌++◌, length, sym, subst, arith, le_of_eq}
use Rattle.std.specs.List.{flat_map, list_all, range_with_len, sum_by}
use Rattle.std.proofs.lemmas.List.Sums.{sum_by-le-sum_by}
use Rattle.std.proofs.lemmas.Bool.{and_parts, leb-true}
use Rattle.metadata_tables.specs.declared.layout.Layout.{Layout}
use Rattle.image_maker.specs.declared.module.Module.{Module}
use Rattle.image_maker.specs.Rows.{rows_of, all_methods}
use Rattle.image_maker.specs.Whole.{cells_in, rva_in, streams_of, bodies_in, image_bytes}
use Rattle.image_maker.specs.Written.{cells_below, rows_bytes, strings_of, blobs_of, string_part, blob_part}
use Rattle.image_maker.specs.File.{Stream, padded, root_bytes, known_parts, tables_bytes, file_bytes}
use Rattle.image_maker.specs.Sound.{count, all_texts, is_sound, is_stream_name, layout_at}
use Rattle.image_maker.specs.Size.{all_blobs, row_count, body_size, size_of, limit_of}
use Rattle.image_maker.proofs.LengthHeaps.{cell_len, row_part, written-le, cells-le}
use Rattle.image_maker.proofs.LengthRows.{texts_len, blobs_len, rows-le, counts-le}
use Rattle.image_maker.proofs.LengthFile.{streams_len, up512-le, up512-ge, padded-le, bodies-le, streams-le, root_length, tables-le, file_length}
use Rattle.image_maker.proofs.SoundParts.{limit_parts, sound_parts}
use Rattle.image_maker.proofs.RowCounts.{same_count}
use Rattle.image_maker.proofs.ListSums.{sum_by-each}

-- the name of a module is short
name_short : (m : Module) → limit_of m ≡ None → length m.name ≤ 1023
name_short m e = leb-true (length m.name) 1023 (and_parts _ _ (limit_parts m e).names).0

-- rows and heaps
heaps_sum : (rows strings blobs cells counts parts count name texts blob : ℕ) → rows + strings + blobs ≤ cells
    → cells ≤ 36 * counts + parts → counts ≤ count → parts ≤ name + 1 + texts + blob → name ≤ 1023
    → rows + suc strings + suc blobs ≤ 40 * count + texts + blob + 1100
heaps_sum rows strings blobs cells counts parts count name texts blob a b c d e = omega arith

heaps-le-to : (m : Module) (rva : ℕ → ℕ) (layout : Layout) (end : ℕ) → length m.name ≤ 1023
    → length (rows_bytes layout (cells_below (rows_of m rva) end))
    + length (strings_of (cells_below (rows_of m rva) end))
    + length (blobs_of (cells_below (rows_of m rva) end))
    ≤ 40 * sum_by (count m) (range_with_len 0 end) + texts_len (all_texts m) + blobs_len (all_blobs m) + 1100
heaps-le-to m rva layout end name =
    let cells = cells_below (rows_of m rva) end in
    heaps_sum _ (length (flat_map string_part cells)) (length (flat_map blob_part cells)) (sum_by cell_len cells)
    (sum_by (λ table. length (rows_of m rva table)) (range_with_len 0 end))
    (sum_by (λ table. sum_by row_part (rows_of m rva table)) (range_with_len 0 end))
    (sum_by (count m) (range_with_len 0 end)) (length m.name) (texts_len (all_texts m)) (blobs_len (all_blobs m))
    (written-le layout [] cells) (cells-le (rows_of m rva) end)
    (sum_by-le-sum_by (λ table. length (rows_of m rva table)) (count m) (range_with_len 0 end)
    (λ table. le_of_eq (same_count m rva table)))
    (rows-le m rva end) name

-- the rows and the heaps of a module
pub heaps-le : (m : Module) (rva : ℕ → ℕ) (layout : Layout) → limit_of m ≡ None
    → length (rows_bytes layout (cells_below (rows_of m rva) 45))
    + length (strings_of (cells_below (rows_of m rva) 45))
    + length (blobs_of (cells_below (rows_of m rva) 45))
    ≤ 40 * row_count m + sum_by (λ text. length text + 1) (all_texts m)
    + sum_by (λ blob. length blob + 4) (all_blobs m) + 1100
heaps-le m rva layout limit =
    fewer _ _ _ _ _ (heaps-le-to m rva layout 45 (name_short m limit)) (counts-le m)
  where
    fewer : (a counts count texts blobs : ℕ) → a ≤ 40 * counts + texts + blobs + 1100 → counts ≤ count
        → a ≤ 40 * count + texts + blobs + 1100
    fewer a counts count texts blobs h few = omega arith

-- those that are written
pub written_heaps-le : (m : Module) (layout : Layout) → limit_of m ≡ None
    → length (rows_bytes layout (cells_in m)) + length (strings_of (cells_in m)) + length (blobs_of (cells_in m))
    ≤ 40 * row_count m + texts_len (all_texts m) + blobs_len (all_blobs m) + 1100
unfolding cells_in
written_heaps-le m layout limit = heaps-le m (rva_in m) layout limit

-- the bodies of a module
pub all_bodies-le : (m : Module) → length (bodies_in m) ≤ sum_by body_size (all_methods m)
all_bodies-le m = bodies-le (all_methods m)

-- the file
padded_sum : (tables strings blobs tables' strings' blobs' rows : ℕ) → tables ≤ 204 + rows
    → tables' ≤ tables + 3 → strings' ≤ strings + 3 → blobs' ≤ blobs + 3
    → tables' + strings' + blobs' ≤ rows + strings + blobs + 213
padded_sum tables strings blobs tables' strings' blobs' rows a b c d = omega arith

file_sum : (root file tables strings blobs heaps users guids extra bodies count texts blob method : ℕ)
    → tables + strings + blobs ≤ heaps + 213 → heaps ≤ 40 * count + texts + blob + 1100 → bodies ≤ method
    → root ≤ 32 + (76 + 15 + tables + strings + users + guids + blobs + extra)
    → file ≤ 512 + (72 + bodies + root + 511) + 1024
    → file ≤ 8192 + 40 * count + texts + blob + method + extra + users + guids
file_sum root file tables strings blobs heaps users guids extra bodies count texts blob method a b c d e =
    omega arith

root-le : (streams : List Stream) (most : ℕ) → streams_len streams ≤ most
    → length (root_bytes streams) ≤ 32 + most
root-le streams most h = subst (λ n. n ≤ 32 + most) (sym (root_length streams)) (omega arith)

whole-le : (bodies metadata : List ℕ)
    → length (file_bytes bodies metadata) ≤ 512 + (72 + length bodies + length metadata + 511) + 1024
whole-le bodies metadata =
    let up = up512-le (72 + length bodies + length metadata) in
    subst (λ n. n ≤ 512 + (72 + length bodies + length metadata + 511) + 1024)
    (sym (file_length bodies metadata)) (omega arith)

text-le : (bodies metadata : List ℕ) → 72 + length bodies + length metadata ≤ length (file_bytes bodies metadata)
text-le bodies metadata =
    let up = up512-ge (72 + length bodies + length metadata) in
    subst (λ n. 72 + length bodies + length metadata ≤ n) (sym (file_length bodies metadata)) (omega arith)

module _ (counts : ℕ → ℕ) (rows strings blobs users guids bodies : List ℕ) (extra : List Stream)
    (count texts blob method : ℕ) where
  parts-le-size : list_all (λ s. is_stream_name s.0) extra ≡ true
      → length rows + length strings + length blobs ≤ 40 * count + texts + blob + 1100 → length bodies ≤ method
      → length (file_bytes bodies (root_bytes (known_parts (padded 4 (tables_bytes counts rows)) (padded 4 strings)
      users guids (padded 4 blobs) ++ extra)))
      ≤ 8192 + 40 * count + texts + blob + method + sum_by (λ s. length s.1 + 64) extra
      + length users + length guids
  parts-le-size named heaps coded =
      let tables = tables_bytes counts rows in
      let streams = known_parts (padded 4 tables) (padded 4 strings) users guids (padded 4 blobs) ++ extra in
      file_sum (length (root_bytes streams)) (length (file_bytes bodies (root_bytes streams)))
      (length (padded 4 tables)) (length (padded 4 strings)) (length (padded 4 blobs))
      (length rows + length strings + length blobs) (length users) (length guids)
      (sum_by (λ s. length s.1 + 64) extra) (length bodies) count texts blob method
      (padded_sum (length tables) (length strings) (length blobs) (length (padded 4 tables))
      (length (padded 4 strings)) (length (padded 4 blobs)) (length rows) (tables-le counts rows)
      (padded-le tables) (padded-le strings) (padded-le blobs))
      heaps coded
      (root-le streams _ (streams-le (padded 4 tables) (padded 4 strings) users guids (padded 4 blobs) extra named))
      (whole-le bodies (root_bytes streams))

-- the file of a module
pub file-le : (m : Module) → limit_of m ≡ None → is_sound m ≡ true → length (image_bytes m) ≤ size_of m
file-le m limit sound =
    let cells = cells_in m in
    parts-le-size (count m) (rows_bytes (layout_at m 0) cells) (strings_of cells) (blobs_of cells)
    m.user_strings m.guids (bodies_in m) m.streams (row_count m) (texts_len (all_texts m))
    (blobs_len (all_blobs m)) (sum_by body_size (all_methods m)) (sound_parts m sound).streams
    (written_heaps-le m (layout_at m 0) limit) (all_bodies-le m)

-- and so all lengths are small
heaps_sum_small : (rows strings blobs strings' blobs' count texts blob method extra users guids : ℕ)
    → strings' ≤ strings + 3 → blobs' ≤ blobs + 3
    → rows + strings + blobs ≤ 40 * count + texts + blob + 1100
    → 8192 + 40 * count + texts + blob + method + extra + users + guids ≤ 4194304
    → (strings' < 2 ^ 31) × (blobs' < 2 ^ 29)
heaps_sum_small rows strings blobs strings' blobs' count texts blob method extra users guids a b c d =
    (omega arith, omega arith)

bodies_sum_small : (bodies count texts blob method extra users guids : ℕ) → bodies ≤ method
    → 8192 + 40 * count + texts + blob + method + extra + users + guids ≤ 4194304 → bodies < 2 ^ 31
bodies_sum_small bodies count texts blob method extra users guids a b = omega arith

streams_sum_small : (streams count texts blob method extra users guids : ℕ) → 64 * streams ≤ extra
    → 8192 + 40 * count + texts + blob + method + extra + users + guids ≤ 4194304
    → streams + 5 < 2 ^ 16
streams_sum_small streams count texts blob method extra users guids a b = omega arith

text_sum_small : (bodies metadata file size : ℕ) → 72 + bodies + metadata ≤ file → file ≤ size → size ≤ 4194304
    → 72 + bodies + metadata < 2 ^ 31
text_sum_small bodies metadata file size a b c = omega arith

metadata_small : (bodies metadata : ℕ) → 72 + bodies + metadata < 2 ^ 31 → metadata < 2 ^ 31
metadata_small bodies metadata a = omega arith

module _ (m : Module) (limit : limit_of m ≡ None) where
  heaps_small : (length (padded 4 (strings_of (cells_in m))) < 2 ^ 31)
      × (length (padded 4 (blobs_of (cells_in m))) < 2 ^ 29)
  heaps_small =
      let layout = layout_at m 0 in
      let strings = strings_of (cells_in m) in
      let blobs = blobs_of (cells_in m) in
      heaps_sum_small (length (rows_bytes layout (cells_in m))) (length strings) (length blobs)
      (length (padded 4 strings)) (length (padded 4 blobs)) (row_count m) (texts_len (all_texts m))
      (blobs_len (all_blobs m)) (sum_by body_size (all_methods m)) (sum_by (λ s. length s.1 + 64) m.streams)
      (length m.user_strings) (length m.guids) (padded-le strings) (padded-le blobs)
      (written_heaps-le m layout limit) (limit_parts m limit).size

  pub strings_small : length (padded 4 (strings_of (cells_in m))) < 2 ^ 31
  strings_small = heaps_small.0

  pub blobs_small : length (padded 4 (blobs_of (cells_in m))) < 2 ^ 29
  blobs_small = heaps_small.1

  pub bodies_small : length (bodies_in m) < 2 ^ 31
  bodies_small =
      bodies_sum_small (length (bodies_in m)) (row_count m) (texts_len (all_texts m))
      (blobs_len (all_blobs m)) (sum_by body_size (all_methods m)) (sum_by (λ s. length s.1 + 64) m.streams)
      (length m.user_strings) (length m.guids) (all_bodies-le m) (limit_parts m limit).size

  pub streams_few : length (streams_of m) < 2 ^ 16
  streams_few =
      let each = sum_by-each (λ s. length s.1) 64 m.streams in
      let few =
      streams_sum_small (length m.streams) (row_count m) (texts_len (all_texts m)) (blobs_len (all_blobs m))
      (sum_by body_size (all_methods m)) (sum_by (λ s. length s.1 + 64) m.streams) (length m.user_strings)
      (length m.guids) (omega arith) (limit_parts m limit).size in
      omega (arith, few)

  module _ (sound : is_sound m ≡ true) where
    pub text_small : 72 + length (bodies_in m) + length (root_bytes (streams_of m)) < 2 ^ 31
    text_small =
        let metadata = root_bytes (streams_of m) in
        text_sum_small (length (bodies_in m)) (length metadata) (length (image_bytes m)) (size_of m)
        (text-le (bodies_in m) metadata) (file-le m limit sound) (limit_parts m limit).size

    pub root_small : length (root_bytes (streams_of m)) < 2 ^ 31
    root_small = metadata_small (length (bodies_in m)) (length (root_bytes (streams_of m))) text_small
