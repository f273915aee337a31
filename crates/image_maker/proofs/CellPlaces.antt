-- Where the parts of cells stand that are written one after the other.
use Rattle.std.proofs.Common.{◌≡◌, ℕ, ◌+◌, Bool, true, false, List, [], ◌∷◌, ◌++◌, length, refl, sym, ap, subst, ◌∙◌, arith, append-nil, append_assoc, ◌&&◌}
use Rattle.std.specs.List.{flat_map, range_with_len}
use Rattle.std.proofs.lemmas.Grind.{flat_map-append}
use Rattle.std.proofs.lemmas.List.Folds.{list_all-append}
use Rattle.metadata_tables.specs.declared.layout.Layout.{Layout}
use Rattle.metadata_tables.specs.declared.schema.Column.{Column}
use Rattle.metadata_tables.specs.declared.schema.Column.TheVariants.{Strings, Blob}
use Rattle.metadata_tables.specs.Layout.{width_of}
use Rattle.metadata_tables.proofs.LayoutLemmas.{range_next}
use Rattle.image_maker.specs.declared.module.Cell.{Cell}
use Rattle.image_maker.specs.declared.module.Cell.TheVariants.{Text, Bytes}
use Rattle.image_maker.specs.declared.module.MethodRow.{MethodRow}
use Rattle.image_maker.specs.declared.writer.Writer.{Writer}
use Rattle.image_maker.specs.File.{bodies_bytes}
use Rattle.image_maker.specs.Written.{Cells, Holds, IsWritten, blob_part, blobs_of, compressed, is_kept, rows_after, rows_bytes, string_part, strings_of, value_after, word, cells_below, table_cells}

-- the rows of cells and of others after them
pub rows_after-append : (layout : Layout) (before a b : Cells)
    → rows_after layout before (a ++ b) ≡ rows_after layout before a ++ rows_after layout (before ++ a) b
rows_after-append layout before [] b = ap (λ x. rows_after layout x b) (sym (append-nil before))
rows_after-append layout before ((column, cell) ∷ a) b =
    let front = word (width_of layout column) (value_after before cell) in
    let next = before ++ (column, cell) ∷ [] in
    ap (λ xs. front ++ xs) (rows_after-append layout next a b)
    ∙ sym (append_assoc front (rows_after layout next a) (rows_after layout (next ++ a) b))
    ∙ ap (λ x. (front ++ rows_after layout next a) ++ rows_after layout x b)
    (append_assoc before ((column, cell) ∷ []) a)

pub strings_of-append : (a b : Cells) → strings_of (a ++ b) ≡ strings_of a ++ flat_map string_part b
strings_of-append a b = ap (λ xs. 0 ∷ xs) (flat_map-append string_part a b)

pub blobs_of-append : (a b : Cells) → blobs_of (a ++ b) ≡ blobs_of a ++ flat_map blob_part b
blobs_of-append a b = ap (λ xs. 0 ∷ xs) (flat_map-append blob_part a b)

-- the cells of one more table
pub cells_more : (rows : ℕ → List (List Cell)) (n : ℕ)
    → cells_below rows (n + 1) ≡ cells_below rows n ++ table_cells n (rows n)
cells_more rows n =
    ap (flat_map (λ table. table_cells table (rows table))) (range_next n)
    ∙ flat_map-append (λ table. table_cells table (rows table)) (range_with_len 0 n) (n ∷ [])
    ∙ ap (λ (cs : Cells). cells_below rows n ++ cs) (append-nil _)

-- one more cell is written
module _ (layout : Layout) (cells : Cells) (column : Column) (cell : Cell)
    (rows strings blobs : List ℕ) (now : IsWritten layout cells rows strings blobs) where
  pub written_next : (rows' strings' blobs' : List ℕ) → is_kept (column, cell) ≡ true
      → rows' ≡ rows ++ word (width_of layout column) (value_after cells cell)
      → strings' ≡ strings ++ string_part (column, cell) → blobs' ≡ blobs ++ blob_part (column, cell)
      → IsWritten layout (cells ++ (column, cell) ∷ []) rows' strings' blobs'
  written_next rows' strings' blobs' kept row string blob = record {
    rows_written =
        row
        ∙ ap (λ xs. xs ++ word (width_of layout column) (value_after cells cell)) now.rows_written
        ∙ ap (λ xs. rows_bytes layout cells ++ xs)
        (sym (append-nil (word (width_of layout column) (value_after cells cell))))
        ∙ sym (rows_after-append layout [] cells ((column, cell) ∷ []));
    strings_written =
        string
        ∙ ap (λ xs. xs ++ string_part (column, cell)) now.strings_written
        ∙ ap (λ xs. strings_of cells ++ xs) (sym (append-nil (string_part (column, cell))))
        ∙ sym (strings_of-append cells ((column, cell) ∷ []));
    blobs_written =
        blob
        ∙ ap (λ xs. xs ++ blob_part (column, cell)) now.blobs_written
        ∙ ap (λ xs. blobs_of cells ++ xs) (sym (append-nil (blob_part (column, cell))))
        ∙ sym (blobs_of-append cells ((column, cell) ∷ []));
    kept =
        list_all-append is_kept cells ((column, cell) ∷ [])
        ∙ ap (λ b. b && (is_kept (column, cell) && true)) now.kept
        ∙ ap (λ b. b && true) kept;
  }

-- what the writer holds after one more cell, whose number is known from what it held
abbrev pub NextValue : Writer → Cell → ℕ → Type 0
NextValue old cell value = (cells : Cells) → old.strings.items ≡ strings_of cells
    → old.blobs.items ≡ blobs_of cells → value ≡ value_after cells cell

pub puts_next : (old : Writer) (column : Column) (cell : Cell) (value : ℕ)
    (layout : Layout) (failed : Bool) (rows strings blobs bodies : List ℕ)
    → is_kept (column, cell) ≡ true → NextValue old cell value → layout ≡ old.layout
    → (failed ≡ false → (old.failed ≡ false)
    × (rows ≡ old.rows.items ++ word (width_of old.layout column) value)
    × (strings ≡ old.strings.items ++ string_part (column, cell))
    × (blobs ≡ old.blobs.items ++ blob_part (column, cell)) × (bodies ≡ old.bodies.items))
    → (layout ≡ old.layout)
    × ((cells : Cells) (methods : List MethodRow) → Holds cells methods old → failed ≡ false
    → IsWritten layout (cells ++ (column, cell) ∷ []) rows strings blobs × (bodies ≡ bodies_bytes methods))
puts_next old column cell value layout failed rows strings blobs bodies kept next same put = (
  same,
  λ cells methods holds e.
      let these = put e in
      let before = holds these.0 in
      let now = before.0 in
      let number = next cells now.strings_written now.blobs_written in (
        subst (λ (l : Layout). IsWritten l (cells ++ (column, cell) ∷ []) rows strings blobs) (sym same)
            (written_next old.layout cells column cell _ _ _ now rows strings blobs kept
            (these.1 ∙ ap (λ v. old.rows.items ++ word (width_of old.layout column) v) number) these.2 these.3),
        these.4 ∙ before.1,
      ),
)

-- an empty text, and one that is not empty, in a column of texts
pub text_none : (old : Writer) (text : List ℕ) → length text ≡ 0
    → NextValue old (Text text) 0 × (string_part (Strings, Text text) ≡ [])
text_none old [] e = (λ cells s b. refl, refl)
text_none old (b ∷ text) e = absurd (omega arith)

pub text_some : (old : Writer) (text : List ℕ) (value : ℕ) → ¬ (length text ≡ 0) → value ≡ length old.strings.items
    → NextValue old (Text text) value × (string_part (Strings, Text text) ≡ text ++ 0 ∷ [])
text_some old [] value some e = absurd (some refl)
text_some old (b ∷ text) value some e = (λ cells s b. e ∙ ap length s, refl)

-- an empty blob, and one that is not empty, in a column of blobs
pub blob_none : (old : Writer) (bytes : List ℕ) → length bytes ≡ 0
    → NextValue old (Bytes bytes) 0 × (blob_part (Blob, Bytes bytes) ≡ [])
blob_none old [] e = (λ cells s b. refl, refl)
blob_none old (b ∷ bytes) e = absurd (omega arith)

pub blob_some : (old : Writer) (bytes : List ℕ) (value : ℕ) → ¬ (length bytes ≡ 0) → value ≡ length old.blobs.items
    → NextValue old (Bytes bytes) value × (blob_part (Blob, Bytes bytes) ≡ compressed (length bytes) ++ bytes)
blob_some old [] value some e = absurd (some refl)
blob_some old (b ∷ bytes) value some e = (λ cells s b. e ∙ ap length b, refl)

-- nothing is added to a heap
pub same_heap : (old new part : List ℕ) → new ≡ old → part ≡ [] → new ≡ old ++ part
same_heap old new part e none = e ∙ sym (append-nil old) ∙ ap (λ xs. old ++ xs) (sym none)
