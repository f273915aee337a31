-- The rows of a file whose tables and heaps were written of cells are read as these cells, and no check of them fails.
use Rattle.std.proofs.Common.{◌≡◌, ℕ, zero, suc, ◌+◌, ◌-◌, ◌^◌, ◌<◌, ◌≤◌, Bool, true, false, ◌==◌, List, [], ◌∷◌, ◌++◌, length, map, take, drop, get_or, None, if◌then◌else◌, inl, inr, refl, sym, ap, subst, ◌∙◌, arith}
use Rattle.std.specs.List.{flat_map, list_all, range_with_len}
use Rattle.std.proofs.lemmas.Bool.{and_parts, cases_lt}
use Rattle.std.proofs.lemmas.Bool.Decides.{nat_tests}
use Rattle.std.proofs.lemmas.List.{get_or_past}
use Rattle.std.proofs.lemmas.List.FromFn.{length-map-range_with_len}
use Rattle.cli_words.specs.declared.check.CheckCode.TheVariants as code
use Rattle.cli_words.specs.Check.{check, first_fault}
use Rattle.meta_heaps.specs.declared.heap.Root.{Root}
use Rattle.cli_words.specs.Span.{cut}
use Rattle.meta_heaps.specs.Heaps.{string_at}
use Rattle.metadata_tables.specs.declared.layout.Layout.{Layout}
use Rattle.metadata_tables.specs.declared.schema.Column.{Column}
use Rattle.metadata_tables.specs.declared.schema.Column.TheVariants.{U8, U16, U32, Strings, Guid, Blob, Table, List as ListColumn, Coded}
use Rattle.metadata_tables.specs.Columns.{columns_of, column_of}
use Rattle.metadata_tables.specs.Layout.{column_at, count_of, number_of, rows_end, width_of}
use Rattle.assembly_image.specs.Cells.{bytes_in, cell_at, cell_of, cells_of, holds_number, value_at}
use Rattle.assembly_image.specs.Cells as cells
use Rattle.assembly_image.specs.Checks.{all_rows_checks, column_checks, is_in_order, name_bytes, row_checks, table_checks, value_before}
use Rattle.image_maker.specs.declared.module.Cell.{Cell}
use Rattle.image_maker.specs.declared.module.Cell.TheVariants.{Number, Text}
use Rattle.image_maker.specs.Rows.{held}
use Rattle.image_maker.specs.Sound.{are_rows_sound, is_cell_sound, is_value_sound, number_at}
use Rattle.image_maker.specs.Written.{blobs_of, cells_below, is_kept, is_named, rows_bytes, strings_of}
use Rattle.image_maker.proofs.CellPlacesRows.{Stands, row_cut, stands, whole, tables_end}
use Rattle.image_maker.proofs.CellReadsEach.{Good, IsStored, good_at, list_at, read_at, text_bytes}
use Rattle.image_maker.proofs.RangeLemmas.{all_at, get_or-map-range}
use Rattle.image_maker.proofs.PassedChecks.{pass, range_none}

-- the numbers of a range stand for the elements of a list
range_map : {X Y : Type 0} (f : ℕ → X) (g : Y → X) (a : ℕ) (ys : List Y) (d : Y)
    → ((i : ℕ) → i < length ys → f (a + i) ≡ g (get_or ys i d)) → map f (range_with_len a (length ys)) ≡ map g ys
range_map f g a [] d same = refl
range_map f g a (y ∷ ys) d same =
    let here : a ≡ a + 0 = omega arith in
    let first : f a ≡ g y = ap f here ∙ same 0 (omega arith) in
    let rest = range_map f g (a + 1) ys d (λ i h.
    let there : a + 1 + i ≡ a + suc i = omega arith in
    ap f there ∙ same (suc i) (omega arith)) in
    ap (λ x. x ∷ map f (range_with_len (a + 1) (length ys))) first ∙ ap (λ xs. g y ∷ xs) rest

three_pass : (a b c : Bool) (at : ℕ) → a ≡ true → b ≡ true → c ≡ true
    → first_fault (check a code.Index at ∷ check b code.List at ∷ check c code.Text at ∷ []) ≡ None
three_pass a b c at x y z = pass a code.Index at _ x (pass b code.List at _ y (pass c code.Text at [] z refl))

-- what stands in the row before matters in a column of lists alone
ordered_same : (layout : Layout) (column : Column) (a b value : ℕ) → ((table : ℕ) → column ≡ ListColumn table → a ≡ b)
    → is_in_order layout column a value ≡ is_in_order layout column b value
ordered_same layout (ListColumn table) a b value same =
    ap (λ x. is_in_order layout (ListColumn table) x value) (same table refl)
ordered_same layout U8 a b value same = refl
ordered_same layout U16 a b value same = refl
ordered_same layout U32 a b value same = refl
ordered_same layout Strings a b value same = refl
ordered_same layout Guid a b value same = refl
ordered_same layout Blob a b value same = refl
ordered_same layout (Table table) a b value same = refl
ordered_same layout (Coded index) a b value same = refl

-- the rows of the tables below one
module _ (bytes : List ℕ) (root : Root) (layout : Layout) (rows : ℕ → List (List Cell)) (end : ℕ)
    (counts_are : (t : ℕ) → t < end → count_of layout t ≡ length (rows t))
    (sound : (t : ℕ) → t < end → are_rows_sound layout root.guids.len t [] (rows t) ≡ true)
    (stored : IsStored bytes root layout (cells_below rows end)) where
  abbrev cell : ℕ → ℕ → ℕ → Cell
  cell t i k = get_or (get_or (rows t) i []) k (Number 0)

  -- the number above a cell
  abbrev above : ℕ → ℕ → ℕ → ℕ
  above t i k = number_at (get_or ([] ∷ rows t) i []) k

  module _ (t i : ℕ) (known : t < end) (row : i < length (rows t)) where
    row_whole : length (get_or (rows t) i []) ≡ length (columns_of t)
    row_whole =
        whole layout root.guids.len t _ (get_or (rows t) i [])
        (row_cut layout root.guids.len t [] (rows t) i (sound t known) row).sound

    cell_sound : (k : ℕ) → k < length (columns_of t)
        → is_value_sound layout root.guids.len (column_of t k) (above t i k) (cell t i k) ≡ true
    cell_sound k column =
        let part = row_cut layout root.guids.len t [] (rows t) i (sound t known) row in
        let test = is_cell_sound layout root.guids.len t (get_or ([] ∷ rows t) i []) (get_or (rows t) i []) in
        let long = row_whole in
        let within : k < length (get_or (rows t) i []) = omega arith in
        all_at test (length (get_or (rows t) i [])) k (and_parts _ _ part.sound).1 within

  -- what stands in the row before, in a column of lists
  before_is : (t i k : ℕ) → t < end → i < length (rows t) → k < length (columns_of t)
      → (table : ℕ) → column_of t k ≡ ListColumn table → value_before bytes layout t (i + 1) k ≡ above t i k
  before_is t zero k known row column table e = refl
  before_is t (suc j) k known row column table e =
      let earlier : j < length (rows t) = omega arith in
      let later : (suc j + 1 == 1) ≡ false = grind (arith, nat_tests) in
      let same : suc j + 1 - 1 ≡ j + 1 = omega arith in
      ap (λ b. if b then 0 else value_at bytes layout t (suc j + 1 - 1) k) later
      ∙ ap (λ n. value_at bytes layout t n k) same
      ∙ list_at bytes root layout (cells_below rows end) stored (column_of t k) (cell t j k)
      (column_at layout t (j + 1) k) (above t j k)
      (stands layout root.guids.len rows end counts_are sound t j k known earlier column)
      (cell_sound t j known earlier k column) table e

  module _ (t i : ℕ) (known : t < end) (row : i < length (rows t)) where
    cell_good : (k : ℕ) → k < length (columns_of t)
        → Good bytes root layout (column_of t k) (cell t i k) (above t i k) (value_at bytes layout t (i + 1) k)
    cell_good k column =
        good_at bytes root layout (cells_below rows end) stored (column_of t k) (cell t i k)
        (column_at layout t (i + 1) k) (above t i k)
        (stands layout root.guids.len rows end counts_are sound t i k known row column)
        (cell_sound t i known row k column)

    cell_reads : (k : ℕ) → k < length (columns_of t) → cell_at bytes root layout t (i + 1) k ≡ held (cell t i k)
    cell_reads k column = (cell_good k column).reads

    cell_none : (k : ℕ) → k < length (columns_of t) → first_fault (column_checks bytes root layout t (i + 1) k) ≡ None
    cell_none k column =
        let good = cell_good k column in
        let same =
        ordered_same layout (column_of t k) (value_before bytes layout t (i + 1) k) (above t i k)
        (value_at bytes layout t (i + 1) k) (before_is t i k known row column) in
        three_pass _ _ _ (column_at layout t (i + 1) k) good.inside (same ∙ good.ordered) good.as_text

    row_reads : cells_of bytes root layout t (i + 1) ≡ map held (get_or (rows t) i [])
    row_reads =
        let these : List Cell = get_or (rows t) i [] in
        let long = row_whole t i known row in
        ap (λ n. map (cell_at bytes root layout t (i + 1)) (range_with_len 0 n)) (sym long)
        ∙ range_map (cell_at bytes root layout t (i + 1)) held 0 these (Number 0)
        (λ k h. let within : k < length (columns_of t) = omega arith in
        let same : 0 + k ≡ k = omega arith in
        ap (cell_at bytes root layout t (i + 1)) same ∙ cell_reads k within)

    row_none : first_fault (row_checks bytes root layout t (i + 1)) ≡ None
    row_none =
        range_none (column_checks bytes root layout t (i + 1)) 0 (length (columns_of t))
        (λ k h. let same : 0 + k ≡ k = omega arith in
        ap (λ n. first_fault (column_checks bytes root layout t (i + 1) n)) same ∙ cell_none k h)

  module _ (t : ℕ) (known : t < end) where
    pub table_reads : cells.rows_of bytes root layout t ≡ map (map held) (rows t)
    table_reads =
        ap (λ n. map (cells_of bytes root layout t) (range_with_len 1 n)) (counts_are t known)
        ∙ range_map (cells_of bytes root layout t) (map held) 1 (rows t) []
        (λ i h. let same : 1 + i ≡ i + 1 = omega arith in
        ap (cells_of bytes root layout t) same ∙ row_reads t i known h)

    table_none : first_fault (table_checks bytes root layout t) ≡ None
    table_none =
        ap (λ n. first_fault (flat_map (row_checks bytes root layout t) (range_with_len 1 n))) (counts_are t known)
        ∙ range_none (row_checks bytes root layout t) 1 (length (rows t))
        (λ i h. let same : 1 + i ≡ i + 1 = omega arith in
        ap (λ n. first_fault (row_checks bytes root layout t n)) same ∙ row_none t i known h)

  pub tables_none : first_fault (flat_map (table_checks bytes root layout) (range_with_len 0 end)) ≡ None
  tables_none =
      range_none (table_checks bytes root layout) 0 end
      (λ t h. let same : 0 + t ≡ t = omega arith in
      ap (λ n. first_fault (table_checks bytes root layout n)) same ∙ table_none t h)

  -- the bytes of a text
  pub text_reads_at : (t i k : ℕ) (name : List ℕ) → t < end → i < length (rows t) → k < length (columns_of t)
      → column_of t k ≡ Strings → cell t i k ≡ Text name
      → bytes_in bytes (string_at bytes root.strings (value_at bytes layout t (i + 1) k)) ≡ name
  text_reads_at t i k name known row column kind is =
      let at : ℕ = column_at layout t (i + 1) k in
      let place = stands layout root.guids.len rows end counts_are sound t i k known row column in
      let named = subst (λ x. Stands layout (cells_below rows end) (column_of t k) x at) is place in
      let s = subst (λ c. Stands layout (cells_below rows end) c (Text name) at) kind named in
      let value = read_at bytes root layout (cells_below rows end) stored Strings (Text name) at 0 s refl in
      ap (λ c. bytes_in bytes (string_at bytes root.strings (number_of (width_of layout c) bytes at))) kind
      ∙ ap (λ n. bytes_in bytes (string_at bytes root.strings n)) value
      ∙ text_bytes bytes root layout (cells_below rows end) stored name at s

-- a file that carries the rows of all tables; its heaps may have more after what is written of the rows
pub record Carries (bytes : List ℕ) (root : Root) (layout : Layout) (rows : ℕ → List (List Cell)) : Type 0 where
  pub heaps : layout.heap_sizes ≡ 7
  pub counts : layout.counts ≡ map (λ t. length (rows t)) (range_with_len 0 45)
  pub few : (t : ℕ) → t < 45 → length (rows t) ≤ 65534
  pub sound : (t : ℕ) → t < 45 → are_rows_sound layout root.guids.len t [] (rows t) ≡ true
  pub kept : list_all is_kept (cells_below rows 45) ≡ true
  pub named : list_all is_named (cells_below rows 45) ≡ true
  pub rows_stand : take (length (rows_bytes layout (cells_below rows 45))) (drop layout.rows_at bytes)
      ≡ rows_bytes layout (cells_below rows 45)
  pub strings_rest : List ℕ
  pub blobs_rest : List ℕ
  pub strings : cut bytes root.strings ≡ strings_of (cells_below rows 45) ++ strings_rest
  pub blobs : cut bytes root.blobs ≡ blobs_of (cells_below rows 45) ++ blobs_rest
  pub strings_len : root.strings.len ≡ length (strings_of (cells_below rows 45) ++ strings_rest)
  pub blobs_len : root.blobs.len ≡ length (blobs_of (cells_below rows 45) ++ blobs_rest)
  pub strings_small : length (strings_of (cells_below rows 45)) < 2 ^ 31
  pub blobs_small : length (blobs_of (cells_below rows 45)) < 2 ^ 29

module _ (bytes : List ℕ) (root : Root) (layout : Layout) (rows : ℕ → List (List Cell))
    (file : Carries bytes root layout rows) where
  counts_are : (t : ℕ) → t < 45 → count_of layout t ≡ length (rows t)
  counts_are t h = ap (λ xs. get_or xs t 0) file.counts ∙ get_or-map-range (λ t. length (rows t)) 45 t h

  few_rows : (t : ℕ) → count_of layout t ≤ 65534
  few_rows t =
      elim (cases_lt t 45) [
        | inl known ↦ let few = file.few t known in let same = counts_are t known in omega arith
        | inr past ↦
            let long = ap length file.counts ∙ length-map-range_with_len (λ t. length (rows t)) 0 45 in
            let none : count_of layout t ≡ 0 = get_or_past layout.counts t 0 (omega arith) in
            omega arith
      ]

  stored : IsStored bytes root layout (cells_below rows 45)
  stored = record {
    heaps = file.heaps;
    few = few_rows;
    kept = file.kept;
    named = file.named;
    rows = file.rows_stand;
    strings_rest = file.strings_rest;
    blobs_rest = file.blobs_rest;
    strings = file.strings;
    blobs = file.blobs;
    strings_len = file.strings_len;
    blobs_len = file.blobs_len;
    strings_small = file.strings_small;
    blobs_small = file.blobs_small;
  }

  pub rows_end_there : rows_end layout ≡ layout.rows_at + length (rows_bytes layout (cells_below rows 45))
  rows_end_there = tables_end layout root.guids.len rows 45 counts_are file.sound

  pub rows_read : (t : ℕ) → t < 45 → cells.rows_of bytes root layout t ≡ map (map held) (rows t)
  rows_read = table_reads bytes root layout rows 45 counts_are file.sound stored

  pub no_row_fails : first_fault (all_rows_checks bytes root layout) ≡ None
  no_row_fails = tables_none bytes root layout rows 45 counts_are file.sound stored

  pub name_reads : (name : List ℕ) → 0 < length (rows 0x20) → get_or (get_or (rows 0x20) 0 []) 7 (Number 0) ≡ Text name
      → name_bytes bytes root layout ≡ name
  unfolding columns_of
  name_reads name some is =
      text_reads_at bytes root layout rows 45 counts_are file.sound stored 0x20 0 7 name
      (omega arith) some (omega arith) refl is
