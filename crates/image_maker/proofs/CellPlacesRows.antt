-- Where the cell of a column of a row stands among the cells of all tables, and among the bytes of the rows.
use Rattle.std.proofs.Common.{◌≡◌, ℕ, zero, suc, ◌+◌, ◌-◌, ◌*◌, ◌<◌, ◌≤◌, true, List, [], ◌∷◌, ◌++◌, length, take, drop, get_or, refl, sym, ap, ◌∙◌, arith, append_assoc, add-one, add-zero, length-append}
use Rattle.std.specs.List.{flat_map, range_with_len, sum_by, zip}
use Rattle.std.proofs.lemmas.Bool.{and_parts, eqb-true}
use Rattle.std.proofs.lemmas.Slice.Zip.{get_or-zip, length-zip}
use Rattle.std.proofs.Math.Nat.{suc-mul, zero-mul}
use Rattle.std.proofs.lemmas.Grind.{flat_map-append}
use Rattle.std.proofs.lemmas.List.Sums.{sum_by-append, sum_by-cons}
use Rattle.std.proofs.Math.Seq.{split_at}
use Rattle.metadata_tables.specs.declared.layout.Layout.{Layout}
use Rattle.metadata_tables.specs.declared.layout.Width.{Width}
use Rattle.metadata_tables.specs.declared.layout.Width.TheVariants.{One, Two, Four}
use Rattle.metadata_tables.specs.declared.schema.Column.{Column}
use Rattle.metadata_tables.specs.declared.schema.Column.TheVariants.{U8}
use Rattle.metadata_tables.specs.Columns.{columns_of}
use Rattle.metadata_tables.specs.Layout.{column_at, count_of, len_of, row_size_of, size_of, table_at, width_of}
use Rattle.metadata_tables.proofs.LayoutLemmas.{table_first, table_next}
use Rattle.metadata_tables.specs.Columns.{column_of}
use Rattle.image_maker.specs.declared.module.Cell.{Cell}
use Rattle.image_maker.specs.declared.module.Cell.TheVariants.{Number}
use Rattle.image_maker.specs.Sound.{are_rows_sound, is_row_sound}
use Rattle.image_maker.specs.Written.{Cells, cells_below, row_cells, rows_after, rows_bytes, table_cells, value_after, word}
use Rattle.image_maker.proofs.CellPlaces.{cells_more}

-- how many bytes cells take in the rows
abbrev pub sizes : Layout → Cells → ℕ
sizes layout cells = sum_by (λ c. size_of layout c.0) cells

length-word : (w : Width) (value : ℕ) → length (word w value) ≡ len_of w
length-word One value = refl
length-word Two value = refl
length-word Four value = refl

pub length-rows_after : (layout : Layout) (before cells : Cells)
    → length (rows_after layout before cells) ≡ sizes layout cells
length-rows_after layout before [] = refl
length-rows_after layout before ((column, cell) ∷ cells) =
    let width = width_of layout column in
    let rest = rows_after layout (before ++ (column, cell) ∷ []) cells in
    length-append (word width (value_after before cell)) rest
    ∙ ap (λ n. n + length rest) (length-word width (value_after before cell))
    ∙ ap (λ n. len_of width + n) (length-rows_after layout (before ++ (column, cell) ∷ []) cells)
    ∙ sym (sum_by-cons (λ c. size_of layout c.0) (column, cell) cells)

range_cut : (a n m : ℕ) → range_with_len a (n + suc m) ≡ range_with_len a n ++ (a + n) ∷ range_with_len (a + n + 1) m
range_cut a zero m =
    let here : a ≡ a + 0 = omega arith in
    let from : suc m ≡ 0 + suc m = omega arith in
    ap (range_with_len a) (sym from) ∙ ap (λ x. x ∷ range_with_len (x + 1) m) here
range_cut a (suc n) m =
    let from : suc n + suc m ≡ suc (n + suc m) = omega arith in
    let same : a + 1 + n ≡ a + suc n = omega arith in
    ap (range_with_len a) from
    ∙ ap (λ xs. a ∷ xs) (range_cut (a + 1) n m
    ∙ ap (λ x. range_with_len (a + 1) n ++ x ∷ range_with_len (x + 1) m) same)

-- the cells of tables below one, of that table and of those after it
pub below_cut : (rows : ℕ → List (List Cell)) (end t : ℕ) → t < end
    → (after : Cells) × (cells_below rows end ≡ cells_below rows t ++ (table_cells t (rows t) ++ after))
below_cut rows end t h =
    let cells : ℕ → Cells = λ table. table_cells table (rows table) in
    let more : ℕ = end - t - 1 in
    let parts : end ≡ t + suc more = omega arith in
    let same : 0 + t ≡ t = omega arith in (
      flat_map cells (range_with_len (t + 1) more),
      ap (λ n. flat_map cells (range_with_len 0 n)) parts
          ∙ ap (flat_map cells) (range_cut 0 t more
          ∙ ap (λ x. range_with_len 0 t ++ x ∷ range_with_len (x + 1) more) same)
          ∙ flat_map-append cells (range_with_len 0 t) (t ∷ range_with_len (t + 1) more),
    )

module _ (layout : Layout) where
  sizes_row : (cs : List Column) (row : List Cell) → length row ≡ length cs
      → sizes layout (zip cs row) ≡ sum_by (size_of layout) cs
  sizes_row [] row e = refl
  sizes_row (c ∷ cs) [] e = absurd (omega arith)
  sizes_row (c ∷ cs) (x ∷ row) e =
      sum_by-cons (λ c. size_of layout c.0) (c, x) (zip cs row)
      ∙ ap (λ n. size_of layout c + n) (sizes_row cs row (omega arith))
      ∙ sym (sum_by-cons (size_of layout) c cs)

  sizes_columns : (cs : List Column) (row : List Cell) (k : ℕ) → length row ≡ length cs
      → sizes layout (take k (zip cs row)) ≡ sum_by (size_of layout) (take k cs)
  sizes_columns cs row zero e = refl
  sizes_columns [] row (suc k) e = refl
  sizes_columns (c ∷ cs) [] (suc k) e = absurd (omega arith)
  sizes_columns (c ∷ cs) (x ∷ row) (suc k) e =
      sum_by-cons (λ c. size_of layout c.0) (c, x) (take k (zip cs row))
      ∙ ap (λ n. size_of layout c + n) (sizes_columns cs row k (omega arith))
      ∙ sym (sum_by-cons (size_of layout) c (take k cs))

  module _ (guids t : ℕ) where
    -- a row that is sound has as many cells as its table has columns
    pub whole : (before row : List Cell) → is_row_sound layout guids t before row ≡ true
        → length row ≡ length (columns_of t)
    whole before row e = eqb-true (length row) (length (columns_of t)) (and_parts _ _ e).0

    sizes_cells : (before row : List Cell) → is_row_sound layout guids t before row ≡ true
        → sizes layout (row_cells t row) ≡ row_size_of layout t
    sizes_cells before row e = sizes_row (columns_of t) row (whole before row e)

    sizes_more : (before row : List Cell) (rows : List (List Cell)) (n : ℕ)
        → is_row_sound layout guids t before row ≡ true
        → sizes layout (table_cells t rows) ≡ n * row_size_of layout t
        → sizes layout (table_cells t (row ∷ rows)) ≡ suc n * row_size_of layout t
    sizes_more before row rows n e more =
        let both = sum_by-append (λ c. size_of layout c.0) (row_cells t row) (table_cells t rows) in
        let one = sizes_cells before row e in
        let next = suc-mul n (row_size_of layout t) in
        both ∙ omega arith

    pub sizes_table : (before : List Cell) (rows : List (List Cell)) → are_rows_sound layout guids t before rows ≡ true
        → sizes layout (table_cells t rows) ≡ length rows * row_size_of layout t
    sizes_table before [] e = sym (zero-mul (row_size_of layout t))
    sizes_table before (row ∷ rows) e =
        let parts = and_parts _ _ e in
        sizes_more before row rows (length rows) parts.0 (sizes_table row rows parts.1)

    -- a row of a table, with what stands before it
    pub record Row (before : List Cell) (rows : List (List Cell)) (i : ℕ) : Type 0 where
      pub after : Cells
      pub split : table_cells t rows ≡ table_cells t (take i rows) ++ (row_cells t (get_or rows i []) ++ after)
      pub place : sizes layout (table_cells t (take i rows)) ≡ i * row_size_of layout t
      pub sound : is_row_sound layout guids t (get_or (before ∷ rows) i []) (get_or rows i []) ≡ true

    pub row_cut : (before : List Cell) (rows : List (List Cell)) (i : ℕ)
        → are_rows_sound layout guids t before rows ≡ true
        → i < length rows → Row before rows i
    row_cut before [] i e h = absurd (omega arith)
    row_cut before (row ∷ rows) zero e h = record {
      after = table_cells t rows;
      split = refl;
      place = sym (zero-mul (row_size_of layout t));
      sound = (and_parts _ _ e).0;
    }
    row_cut before (row ∷ rows) (suc i) e h =
        let within : i < length rows = omega arith in
        let parts = and_parts _ _ e in
        let rest = row_cut row rows i parts.1 within in
        record {
          after = rest.after;
          split =
              ap (λ cells. row_cells t row ++ cells) rest.split
              ∙ sym (append_assoc (row_cells t row) (table_cells t (take i rows))
              (row_cells t (get_or rows i []) ++ rest.after));
          place = sizes_more before row (take i rows) i parts.0 rest.place;
          sound = rest.sound;
        }

-- a cell with its column among others, where the rows have the column's bytes
pub record Stands (layout : Layout) (cells : Cells) (column : Column) (cell : Cell) (at : ℕ) : Type 0 where
  pub before : Cells
  pub after : Cells
  pub split : cells ≡ before ++ (column, cell) ∷ after
  pub place : layout.rows_at + length (rows_bytes layout before) ≡ at

regroup : {X : Type 0} (a b c d e f : List X) (p : X)
    → a ++ ((b ++ ((c ++ p ∷ d) ++ e)) ++ f) ≡ ((a ++ b) ++ c) ++ p ∷ (d ++ (e ++ f))
regroup a b c d e f p = simp append_assoc refl

module _ (layout : Layout) (guids : ℕ) (rows : ℕ → List (List Cell)) (end : ℕ)
    (counted : (t : ℕ) → t < end → count_of layout t ≡ length (rows t))
    (sound : (t : ℕ) → t < end → are_rows_sound layout guids t [] (rows t) ≡ true) where
  below_next : (t : ℕ) → cells_below rows (suc t) ≡ cells_below rows t ++ table_cells t (rows t)
  below_next t = ap (cells_below rows) (sym (add-one t)) ∙ cells_more rows t

  -- the places of the tables are those of their cells
  pub sizes_below : (t : ℕ) → t ≤ end → layout.rows_at + sizes layout (cells_below rows t) ≡ table_at layout t
  sizes_below zero h = add-zero layout.rows_at ∙ sym (table_first layout)
  sizes_below (suc t) h =
      let before = sizes_below t (omega arith) in
      let here = sizes_table layout guids t [] (rows t) (sound t (omega arith)) in
      let all = ap (λ n. n * row_size_of layout t) (counted t (omega arith)) in
      let both = ap (sizes layout) (below_next t)
      ∙ sum_by-append (λ c. size_of layout c.0) (cells_below rows t) (table_cells t (rows t)) in
      let next = table_next layout t in
      let last = ap (table_at layout) (add-one t) in
      omega arith

  -- the tables end with the rows that are written
  pub tables_end : table_at layout end ≡ layout.rows_at + length (rows_bytes layout (cells_below rows end))
  tables_end =
      let all = sizes_below end (omega arith) in
      let size = length-rows_after layout [] (cells_below rows end) in
      omega arith

  -- the cell of a column of a row
  pub stands : (t i k : ℕ) → t < end → i < length (rows t) → k < length (columns_of t)
      → Stands layout (cells_below rows end) (column_of t k) (get_or (get_or (rows t) i []) k (Number 0))
      (column_at layout t (i + 1) k)
  stands t i k known row column =
      let table = below_cut rows end t known in
      let part = row_cut layout guids t [] (rows t) i (sound t known) row in
      let cs = columns_of t in
      let these : List Cell = get_or (rows t) i [] in
      let cells : Cells = zip cs these in
      let long = whole layout guids t _ these part.sound in
      let within : k < length cells = rw (length-zip cs these) (omega arith) in
      let here = get_or-zip cs these k (U8, Number 0) column (omega arith) in
      let cut = split_at cells k (U8, Number 0) within
      ∙ ap (λ c. take k cells ++ c ∷ drop (suc k) cells) here in
      let front : Cells = table_cells t (take i (rows t)) in
      let below : Cells = cells_below rows t in
      let first = sizes_below t (omega arith) in
      let second = part.place in
      let third = sizes_columns layout cs these k long in
      let both = sum_by-append (λ c. size_of layout c.0) (below ++ front) (take k cells) in
      let two = sum_by-append (λ c. size_of layout c.0) below front in
      let len = length-rows_after layout [] ((below ++ front) ++ take k cells) in
      let same : i + 1 - 1 ≡ i = omega arith in
      let row_place = ap (λ n. n * row_size_of layout t) same in
      record {
        before = (below ++ front) ++ take k cells;
        after = drop (suc k) cells ++ (part.after ++ table.0);
        split =
            table.1
            ∙ ap (λ xs. below ++ (xs ++ table.0)) (part.split ∙ ap (λ xs. front ++ (xs ++ part.after)) cut)
            ∙ regroup below front (take k cells) (drop (suc k) cells) part.after table.0 _;
        place = omega arith;
      }
