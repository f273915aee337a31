-- What the checks tell of each column of an image that passes them all.
use Rattle.std.proofs.Common.{◌≡◌, ℕ, zero, suc, ◌+◌, ◌<◌, Bool, true, false, List, [], ◌∷◌, length, None, refl, subst, zero-add, arith}
use Rattle.std.proofs.lemmas.Bool.Decides.{nat_tests}
use Rattle.cli_words.specs.Check.{check, first_fault}
use Rattle.cli_words.specs.declared.check.CheckCode.{CheckCode}
use Rattle.cli_words.specs.declared.check.CheckCode.TheVariants as code
use Rattle.cli_words.proofs.FirstFault.{Checks, both_none, none_of_each}
use Rattle.meta_heaps.specs.declared.heap.Root.{Root}
use Rattle.metadata_tables.specs.declared.layout.Layout.{Layout}
use Rattle.metadata_tables.specs.Columns.{columns_of, column_of}
use Rattle.metadata_tables.specs.Layout.{count_of, has_row}
use Rattle.assembly_image.specs.Cells.{value_at}
use Rattle.assembly_image.specs.Checks.{is_inside, is_in_order, is_text, has_assembly, value_before, column_checks, row_checks, table_checks, all_rows_checks, content_checks}
use Rattle.assembly_image.proofs.ModuleLemmas.{known}

-- a check that has no fault, in front of others
passes : (b : Bool) (code : CheckCode) (at : ℕ) (rest : Checks) → first_fault (check b code at ∷ rest) ≡ None → (b ≡ true) × (first_fault rest ≡ None)
passes true code at rest e = (refl, e)
passes false code at rest e = absurd (cc)

module _ (bytes : List ℕ) (root : Root) (layout : Layout) (good : first_fault (content_checks bytes root layout) ≡ None) where
  rows_pass : first_fault (all_rows_checks bytes root layout) ≡ None
  rows_pass = (both_none (all_rows_checks bytes root layout) _ good).0

  pub assembly_passes : has_assembly bytes root layout ≡ true
  assembly_passes = (passes (has_assembly bytes root layout) code.NoAssembly root.tables.at [] (both_none (all_rows_checks bytes root layout) _ good).1).0

  table_passes : (table : ℕ) → table < 45 → first_fault (table_checks bytes root layout table) ≡ None
  table_passes table h =
      subst (λ (t : ℕ). first_fault (table_checks bytes root layout t) ≡ None) (zero-add table)
      (none_of_each (table_checks bytes root layout) 0 45 table rows_pass h)

  row_passes : (table n : ℕ) → table < 45 → has_row layout table n ≡ true → first_fault (row_checks bytes root layout table n) ≡ None
  row_passes table zero h there = absurd (cc)
  row_passes table (suc n) h there =
      let within : n < count_of layout table = grind (arith, nat_tests) in
      let same : 1 + n ≡ suc n = omega arith in
      subst (λ (m : ℕ). first_fault (row_checks bytes root layout table m) ≡ None) same
      (none_of_each (row_checks bytes root layout table) 1 (count_of layout table) n (table_passes table h) within)

  module _ (table n k : ℕ) (there : has_row layout table n ≡ true) (within : k < length (columns_of table)) where
    column_passes : first_fault (column_checks bytes root layout table n k) ≡ None
    column_passes =
        subst (λ (j : ℕ). first_fault (column_checks bytes root layout table n j) ≡ None) (zero-add k)
        (none_of_each (column_checks bytes root layout table n) 0 (length (columns_of table)) k (row_passes table n (known table k within) there) within)

    abbrev parts : (is_inside bytes root layout (column_of table k) (value_at bytes layout table n k) ≡ true)
        × (is_in_order layout (column_of table k) (value_before bytes layout table n k) (value_at bytes layout table n k) ≡ true)
        × (is_text bytes root (column_of table k) (value_at bytes layout table n k) ≡ true)
    parts =
        let first = passes _ code.Index _ _ column_passes in
        let second = passes _ code.List _ _ first.1 in
        let third = passes _ code.Text _ [] second.1 in
        (first.0, second.0, third.0)

    pub inside_passes : is_inside bytes root layout (column_of table k) (value_at bytes layout table n k) ≡ true
    inside_passes = parts.0

    pub order_passes : is_in_order layout (column_of table k) (value_before bytes layout table n k) (value_at bytes layout table n k) ≡ true
    order_passes = parts.1

    pub text_passes : is_text bytes root (column_of table k) (value_at bytes layout table n k) ≡ true
    text_passes = parts.2
