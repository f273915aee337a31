-- A cell that was written is read as it is, and no check of it fails.
use Rattle.std.proofs.Common.{◌≡◌, ℕ, ◌+◌, ◌^◌, ◌<◌, ◌≤◌, Bool, true, List, [], ◌∷◌, ◌++◌, length, take, drop, Some, refl, sym, ap, subst, ◌∙◌, arith, append_assoc, length-append, length-drop}
use Rattle.std.specs.List.{flat_map, list_all}
use Rattle.std.specs.Str.{is_utf8}
use Rattle.std.specs.Option.{is_some}
use Rattle.std.proofs.lemmas.Bool.{and_from, and_parts, le-leb, leb-true, lt-ltb}
use Rattle.std.proofs.lemmas.List.{drop-append-le, take-append-drop}
use Rattle.std.proofs.lemmas.List.Folds.{list_all-append}
use Rattle.std.proofs.Math.Seq.{drop-append_seam, drop-drop}
use Rattle.cli_words.specs.declared.span.Span.{Span}
use Rattle.meta_heaps.specs.declared.heap.Root.{Root}
use Rattle.cli_words.specs.Span.{cut}
use Rattle.meta_heaps.specs.Heaps.{string_at, blob_at}
use Rattle.metadata_tables.specs.declared.layout.Layout.{Layout}
use Rattle.metadata_tables.specs.declared.schema.Column.{Column}
use Rattle.metadata_tables.specs.declared.schema.Column.TheVariants.{U8, U16, U32, Strings, Guid, Blob, Table, List as ListColumn, Coded}
use Rattle.metadata_tables.specs.Layout.{count_of, number_of, width_of}
use Rattle.assembly_image.specs.Cells.{bytes_in, cell_of, holds_number}
use Rattle.assembly_image.specs.Checks.{is_inside, is_in_order, is_string, is_text}
use Rattle.image_maker.specs.declared.module.Cell.{Cell}
use Rattle.image_maker.specs.declared.module.Cell.TheVariants.{Number, Text, Bytes}
use Rattle.image_maker.specs.Rows.{held}
use Rattle.image_maker.specs.Size.{name_limit}
use Rattle.image_maker.specs.Sound.{has_no_zero, is_value_sound, number_in}
use Rattle.image_maker.specs.Written.{Cells, blob_part, blobs_of, compressed, is_kept, is_named, rows_after, rows_bytes, string_part, strings_of, value_after, word}
use Rattle.image_maker.proofs.CellPlaces.{blobs_of-append, rows_after-append, strings_of-append}
use Rattle.image_maker.proofs.CellPlacesRows.{Stands}
use Rattle.image_maker.proofs.CellReadsFits.{Kind, kind_of, fits_width, strings_width, blobs_width}
use Rattle.image_maker.proofs.CellReadsFits.Kind.{of_number, of_text, of_blob}
use Rattle.image_maker.proofs.CellReadsHeaps.{blob_reads, some_bytes, text_reads}
use Rattle.image_maker.proofs.CellReadsNumbers.{limit_of, number_at-word}

-- an element among others passes what all pass
one_passes : {X : Type 0} (p : X → Bool) (xs before after : List X) (x : X) → xs ≡ before ++ x ∷ after
    → list_all p xs ≡ true → p x ≡ true
one_passes p xs before after x split all =
    let whole = sym (list_all-append p before (x ∷ after)) ∙ ap (list_all p) (sym split) ∙ all in
    let parts = and_parts (list_all p before) (list_all p (x ∷ after)) whole in
    (and_parts (p x) (list_all p after) parts.1).0

-- cells that are stored in a file, where the heaps may have more after them
pub record IsStored (bytes : List ℕ) (root : Root) (layout : Layout) (written : Cells) : Type 0 where
  pub heaps : layout.heap_sizes ≡ 7
  pub few : (table : ℕ) → count_of layout table ≤ 65534
  pub kept : list_all is_kept written ≡ true
  pub named : list_all is_named written ≡ true
  pub rows : take (length (rows_bytes layout written)) (drop layout.rows_at bytes) ≡ rows_bytes layout written
  pub strings_rest : List ℕ
  pub blobs_rest : List ℕ
  pub strings : cut bytes root.strings ≡ strings_of written ++ strings_rest
  pub blobs : cut bytes root.blobs ≡ blobs_of written ++ blobs_rest
  pub strings_len : root.strings.len ≡ length (strings_of written ++ strings_rest)
  pub blobs_len : root.blobs.len ≡ length (blobs_of written ++ blobs_rest)
  pub strings_small : length (strings_of written) < 2 ^ 31
  pub blobs_small : length (blobs_of written) < 2 ^ 29

module _ (before after : Cells) (column : Column) where
  -- where a text stands in the heap of strings
  text_place : (text : List ℕ) → (rest : List ℕ)
      × (drop (value_after before (Text text)) (strings_of (before ++ (column, Text text) ∷ after)) ≡ text ++ 0 ∷ rest)
  text_place [] = (_, refl)
  text_place (b ∷ text) =
      let cell : Column × Cell = (column, Text (b ∷ text)) in
      let rest : List ℕ = flat_map string_part after in (
        rest,
        ap (drop (length (strings_of before))) (strings_of-append before (cell ∷ after))
            ∙ drop-append_seam (strings_of before) (flat_map string_part (cell ∷ after))
            ∙ append_assoc (b ∷ text) (0 ∷ []) rest,
      )

  -- where a blob stands in the heap of blobs
  blob_place : (blob : List ℕ) → (rest : List ℕ)
      × (drop (value_after before (Bytes blob)) (blobs_of (before ++ (column, Bytes blob) ∷ after))
      ≡ compressed (length blob) ++ (blob ++ rest))
  blob_place [] = (_, refl)
  blob_place (b ∷ blob) =
      let cell : Column × Cell = (column, Bytes (b ∷ blob)) in
      let rest : List ℕ = flat_map blob_part after in (
        rest,
        ap (drop (length (blobs_of before))) (blobs_of-append before (cell ∷ after))
            ∙ drop-append_seam (blobs_of before) (flat_map blob_part (cell ∷ after))
            ∙ append_assoc (compressed (length (b ∷ blob))) (b ∷ blob) rest,
      )

-- a column of lists has a number
list_value : {column : Column} {cell : Cell} → Kind column cell → (table : ℕ) (before : Cells) → column ≡ ListColumn table
    → value_after before cell ≡ number_in cell
list_value (of_number holds small) table before e = refl
list_value of_text table before e = absurd (cc)
list_value of_blob table before e = absurd (cc)

module _ (bytes : List ℕ) (root : Root) (layout : Layout) where
  -- a number that stands in a column is read as the cell, and no check of it fails
  pub record Good (column : Column) (cell : Cell) (earlier value : ℕ) : Type 0 where
    pub reads : cell_of bytes root column value ≡ held cell
    pub inside : is_inside bytes root layout column value ≡ true
    pub ordered : is_in_order layout column earlier value ≡ true
    pub as_text : is_text bytes root column value ≡ true

  number_good : (column : Column) (earlier value : ℕ) → holds_number column ≡ true
      → is_value_sound layout root.guids.len column earlier (Number value) ≡ true
      → Good column (Number value) earlier value
  number_good Strings earlier value e sound = absurd (cc)
  number_good Blob earlier value e sound = absurd (cc)
  number_good U8 earlier value e sound =
      record { reads = refl; inside = refl; ordered = refl; as_text = refl }
  number_good U16 earlier value e sound =
      record { reads = refl; inside = refl; ordered = refl; as_text = refl }
  number_good U32 earlier value e sound =
      record { reads = refl; inside = refl; ordered = refl; as_text = refl }
  number_good Guid earlier value e sound =
      record { reads = refl; inside = (and_parts _ _ sound).0; ordered = refl; as_text = refl }
  number_good (Table table) earlier value e sound =
      record { reads = refl; inside = (and_parts _ _ sound).0; ordered = refl; as_text = refl }
  number_good (ListColumn table) earlier value e sound =
      record { reads = refl; inside = refl; ordered = (and_parts true _ sound).1; as_text = refl }
  number_good (Coded index) earlier value e sound =
      record { reads = refl; inside = (and_parts _ _ sound).0; ordered = refl; as_text = refl }

  module _ (written : Cells) (stored : IsStored bytes root layout written) where
    value_read : (column : Column) (cell : Cell) (at : ℕ) (s : Stands layout written column cell at)
        → value_after s.before cell < limit_of (width_of layout column)
        → number_of (width_of layout column) bytes at ≡ value_after s.before cell
    value_read column cell at s h =
        let width = width_of layout column in
        let value : ℕ = value_after s.before cell in
        let front : List ℕ = rows_bytes layout s.before in
        let rest : List ℕ = rows_after layout (s.before ++ (column, cell) ∷ []) s.after in
        let rows : List ℕ = rows_bytes layout written in
        let from : List ℕ = drop layout.rows_at bytes in
        let tail : List ℕ = drop (length rows) from in
        let parts : rows ≡ front ++ (word width value ++ rest) =
        ap (rows_bytes layout) s.split ∙ rows_after-append layout [] s.before ((column, cell) ∷ s.after) in
        number_at-word width value bytes (rest ++ tail) at
        (ap (λ n. drop n bytes) (sym s.place)
        ∙ sym (drop-drop (length front) layout.rows_at bytes)
        ∙ ap (drop (length front)) (sym (take-append-drop (length rows) from)
        ∙ ap (λ xs. xs ++ tail) (stored.rows ∙ parts)
        ∙ append_assoc front (word width value ++ rest) tail
        ∙ ap (λ xs. front ++ xs) (append_assoc (word width value) rest tail))
        ∙ drop-append_seam front (word width value ++ (rest ++ tail)))
        h

    -- a text is read
    module _ (text : List ℕ) (at : ℕ) (s : Stands layout written Strings (Text text) at) where
      text_there : (rest : List ℕ) × (drop (value_after s.before (Text text)) (strings_of written) ≡ text ++ 0 ∷ rest)
      text_there =
          let place = text_place s.before s.after Strings text in
          (place.0, ap (λ cells. drop (value_after s.before (Text text)) (strings_of cells)) s.split ∙ place.1)

      text_below : value_after s.before (Text text) < length (strings_of written)
      text_below =
          let size = ap length text_there.1 in
          let cut_size = length-drop (value_after s.before (Text text)) (strings_of written) in
          let both = length-append text (0 ∷ text_there.0) in
          omega arith

      text_named : is_named (Strings, Text text) ≡ true
      text_named = one_passes is_named written s.before s.after (Strings, Text text) s.split stored.named

      text_kept : is_utf8 text ≡ true
      text_kept = one_passes is_kept written s.before s.after (Strings, Text text) s.split stored.kept

      abbrev text_span : Span
      text_span = record { at = root.strings.at + value_after s.before (Text text); len = length text }

      text_found : (string_at bytes root.strings (value_after s.before (Text text)) ≡ Some text_span)
          × (cut bytes text_span ≡ text)
      text_found =
          let below = text_below in
          text_reads bytes root.strings (strings_of written ++ stored.strings_rest) stored.strings stored.strings_len
          (value_after s.before (Text text)) text (text_there.0 ++ stored.strings_rest)
          (drop-append-le (value_after s.before (Text text)) (strings_of written) stored.strings_rest (omega arith)
          ∙ ap (λ xs. xs ++ stored.strings_rest) text_there.1
          ∙ append_assoc text (0 ∷ text_there.0) stored.strings_rest)
          (and_parts (has_no_zero text) _ text_named).0

      pub text_bytes : bytes_in bytes (string_at bytes root.strings (value_after s.before (Text text))) ≡ text
      text_bytes = ap (bytes_in bytes) text_found.0 ∙ text_found.1

      text_good : (earlier : ℕ) → Good Strings (Text text) earlier (value_after s.before (Text text))
      text_good earlier =
          let long = leb-true (length text) name_limit (and_parts (has_no_zero text) _ text_named).1 in
          let here = text_below in
          let all = length-append (strings_of written) stored.strings_rest in
          let len = stored.strings_len in
          let below : value_after s.before (Text text) < root.strings.len = omega arith in
          record {
            reads = ap (λ xs. held (Text xs)) text_bytes;
            inside = lt-ltb _ _ below;
            ordered = refl;
            as_text =
                ap (is_string bytes) text_found.0
                ∙ and_from _ _ (le-leb _ _ long) (ap is_utf8 text_found.1 ∙ text_kept);
          }

    -- a blob is read
    module _ (blob : List ℕ) (at : ℕ) (s : Stands layout written Blob (Bytes blob) at) where
      blob_there : (rest : List ℕ)
          × (drop (value_after s.before (Bytes blob)) (blobs_of written) ≡ compressed (length blob) ++ (blob ++ rest))
      blob_there =
          let place = blob_place s.before s.after Blob blob in
          (place.0, ap (λ cells. drop (value_after s.before (Bytes blob)) (blobs_of cells)) s.split ∙ place.1)

      blob_below : value_after s.before (Bytes blob) + length blob < length (blobs_of written)
      blob_below =
          let size = ap length blob_there.1 in
          let cut_size = length-drop (value_after s.before (Bytes blob)) (blobs_of written) in
          let both = length-append (compressed (length blob)) (blob ++ blob_there.0) in
          let two = length-append blob blob_there.0 in
          let some = some_bytes (length blob) in
          omega arith

      blob_found : (span : Span) × (blob_at bytes root.blobs (value_after s.before (Bytes blob)) ≡ Some span)
          × (cut bytes span ≡ blob)
      blob_found =
          let below = blob_below in
          let all = stored.blobs_small in
          let blob_small : length blob < 2 ^ 29 = omega arith in
          blob_reads bytes root.blobs (blobs_of written ++ stored.blobs_rest) stored.blobs stored.blobs_len
          (value_after s.before (Bytes blob)) blob (blob_there.0 ++ stored.blobs_rest) blob_small
          (drop-append-le (value_after s.before (Bytes blob)) (blobs_of written) stored.blobs_rest (omega arith)
          ∙ ap (λ xs. xs ++ stored.blobs_rest) blob_there.1
          ∙ append_assoc (compressed (length blob)) (blob ++ blob_there.0) stored.blobs_rest
          ∙ ap (λ xs. compressed (length blob) ++ xs) (append_assoc blob blob_there.0 stored.blobs_rest))

      blob_good : (earlier : ℕ) → Good Blob (Bytes blob) earlier (value_after s.before (Bytes blob))
      blob_good earlier = record {
        reads = ap (λ xs. held (Bytes xs)) (ap (bytes_in bytes) blob_found.1 ∙ blob_found.2);
        inside = ap is_some blob_found.1;
        ordered = refl;
        as_text = refl;
      }

    -- the value of a cell of any kind fits its column, and is good there
    abbrev Fine : Column → Cell → ℕ → ℕ → Type 0
    Fine column cell earlier value = (value < limit_of (width_of layout column)) × Good column cell earlier value

    fine : {column : Column} {cell : Cell} → Kind column cell → (at earlier : ℕ)
        (s : Stands layout written column cell at) → is_kept (column, cell) ≡ true
        → is_value_sound layout root.guids.len column earlier cell ≡ true
        → Fine column cell earlier (value_after s.before cell)
    fine (of_number {column} {value} holds small) at earlier s kept sound = (
      fits_width layout root.guids.len earlier value column stored.heaps stored.few kept sound,
      number_good column earlier value holds sound,
    )
    fine (of_text {bytes = text}) at earlier s kept sound =
        let below = text_below text at s in
        let small = stored.strings_small in
        let index : value_after s.before (Text text) < 2 ^ 32 = omega arith in (
          subst (λ w. value_after s.before (Text text) < limit_of w) (sym (strings_width layout stored.heaps)) index,
          text_good text at s earlier,
        )
    fine (of_blob {bytes = blob}) at earlier s kept sound =
        let below = blob_below blob at s in
        let small = stored.blobs_small in
        let index : value_after s.before (Bytes blob) < 2 ^ 32 = omega arith in (
          subst (λ w. value_after s.before (Bytes blob) < limit_of w) (sym (blobs_width layout stored.heaps)) index,
          blob_good blob at s earlier,
        )

    -- a cell that stands at a place, after a sound one
    module _ (column : Column) (cell : Cell) (at earlier : ℕ) (s : Stands layout written column cell at)
        (sound : is_value_sound layout root.guids.len column earlier cell ≡ true) where
      cell_kept : is_kept (column, cell) ≡ true
      cell_kept = one_passes is_kept written s.before s.after (column, cell) s.split stored.kept

      pub read_at : number_of (width_of layout column) bytes at ≡ value_after s.before cell
      read_at = value_read column cell at s (fine (kind_of column cell cell_kept) at earlier s cell_kept sound).0

      pub good_at : Good column cell earlier (number_of (width_of layout column) bytes at)
      good_at =
          subst (λ value. Good column cell earlier value) (sym read_at)
          (fine (kind_of column cell cell_kept) at earlier s cell_kept sound).1

      -- in a column of lists
      pub list_at : (table : ℕ) → column ≡ ListColumn table → number_of (width_of layout column) bytes at ≡ number_in cell
      list_at table e = read_at ∙ list_value (kind_of column cell cell_kept) table s.before e
