-- What a module holds in a column of a row, by what the bytes hold there.
use Rattle.std.proofs.Common.{◌≡◌, ℕ, zero, suc, ◌<◌, ◌≤◌, true, false, List, [], length, get_or, refl, ap, subst, ◌∙◌, zero-add, arith, inl, inr}
use Rattle.std.proofs.lemmas.Bool.{cases_Bool, cases_lt}
use Rattle.std.proofs.lemmas.Bool.Decides.{nat_tests}
use Rattle.std.proofs.Math.ListN.{get_or-eq_default}
use Rattle.std.proofs.lemmas.List.FromFn.{get_or-map-range_with_len, length-map-range_with_len}
use Rattle.meta_heaps.specs.declared.heap.Root.{Root}
use Rattle.metadata_tables.specs.declared.layout.Layout.{Layout}
use Rattle.metadata_tables.specs.declared.schema.Column.{Column}
use Rattle.metadata_tables.specs.Columns.{tables, columns_of}
use Rattle.metadata_tables.specs.Layout.{count_of, has_row}
use Rattle.assembly_image.specs.Module.{Cell, Module, rows, count, row, cell}
use Rattle.assembly_image.specs.Module.Cell.{Number}
use Rattle.assembly_image.specs.Cells.{cell_at, cells_of, rows_of}
use Rattle.assembly_image.specs.Reading.{module_in}

-- a table that has a column is one of the 45
pub known : (table k : ℕ) → k < length (columns_of table) → table < 45
unfolding columns_of
known table k within =
    elim (cases_lt table 45) [
      | inl h ↦ h
      | inr h ↦
          let none : columns_of table ≡ [] = get_or-eq_default tables [] h in
          let past : k < 0 = subst (λ (cs : List Column). k < length cs) none within in
          absurd (omega arith)
    ]

module _ (bytes : List ℕ) (root : Root) (layout : Layout) where
  abbrev held : Module
  held = module_in bytes root layout

  pub rows_held : (table : ℕ) → table < 45 → rows held table ≡ rows_of bytes root layout table
  rows_held table h = get_or-map-range_with_len (rows_of bytes root layout) 0 45 table table [] h (zero-add table)

  pub count_held : (table : ℕ) → table < 45 → count held table ≡ count_of layout table
  count_held table h =
      ap length (rows_held table h) ∙ length-map-range_with_len (cells_of bytes root layout table) 1 (count_of layout table)

  -- a row that is there
  row_held : (table n : ℕ) → table < 45 → has_row layout table n ≡ true → row held table n ≡ cells_of bytes root layout table n
  row_held table zero h there = absurd (cc)
  row_held table (suc n) h there =
      let within : n < count_of layout table = grind (arith, nat_tests) in
      let rs = rows_held table h in
      rw rs (get_or-map-range_with_len (cells_of bytes root layout table) 1 (count_of layout table) n (suc n) [] within (omega arith))

  pub cell_held : (table n k : ℕ) → has_row layout table n ≡ true → k < length (columns_of table)
      → cell held table n k ≡ cell_at bytes root layout table n k
  cell_held table n k there within =
      let r = row_held table n (known table k within) there in
      rw r (get_or-map-range_with_len (cell_at bytes root layout table n) 0 (length (columns_of table)) k k (Number 0) within (zero-add k))

  -- a row that is not there
  pub cell_missing : (table n k : ℕ) → table < 45 → has_row layout table n ≡ false → cell held table n k ≡ Number 0
  cell_missing table zero k h gone = refl
  cell_missing table (suc n) k h gone =
      let past : count_of layout table ≤ n = grind (arith, nat_tests) in
      let long = length-map-range_with_len (cells_of bytes root layout table) 1 (count_of layout table) in
      let none : row held table (suc n) ≡ [] =
      ap (λ (rs : List (List Cell)). get_or rs n []) (rows_held table h)
      ∙ get_or-eq_default (rows_of bytes root layout table) [] (omega (arith, long, past)) in
      rw none refl

  -- a column that is not there
  pub cell_past : (table n k : ℕ) → table < 45 → length (columns_of table) ≤ k → cell held table n k ≡ Number 0
  cell_past table n k h past =
      elim (cases_Bool (has_row layout table n)) [
        | inl there ↦
            let r = row_held table n h there in
            let long = length-map-range_with_len (cell_at bytes root layout table n) 0 (length (columns_of table)) in
            let none = get_or-eq_default (cells_of bytes root layout table n) (Number 0) (omega (arith, long, past)) in
            rw r none
        | inr gone ↦ cell_missing table n k h gone
      ]

  -- a table that is not there
  pub rows_beyond : (table : ℕ) → 45 ≤ table → rows held table ≡ []
  rows_beyond table h =
      let long = length-map-range_with_len (rows_of bytes root layout) 0 45 in
      get_or-eq_default held.tables [] {n = table} (omega (arith, long, h))

  pub cell_beyond : (table n k : ℕ) → 45 ≤ table → cell held table n k ≡ Number 0
  cell_beyond table zero k h = refl
  cell_beyond table (suc n) k h =
      let none = rows_beyond table h in
      rw none refl

  -- what is no column of the row that it is sought in
  pub cell_nowhere : (table n k : ℕ) → length (columns_of table) ≤ k → cell held table n k ≡ Number 0
  cell_nowhere table n k past =
      elim (cases_lt table 45) [ inl h ↦ cell_past table n k h past | inr h ↦ cell_beyond table n k h ]
