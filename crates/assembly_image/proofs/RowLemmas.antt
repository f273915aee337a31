-- What stands in the columns of a row.
use Rattle.std.proofs.Common.{◌≡◌, ℕ, zero, suc, ◌+◌, ◌-◌, ◌<◌, ◌==◌, true, false, Option, length, Some, None, refl, sym, ap, subst, ◌∙◌, zero-add, add-one, arith, List, get_or}
use Rattle.std.proofs.lemmas.List.FromFn.{get_or-map-range_with_len}
use Rattle.std.proofs.lemmas.Bool.Decides.{nat_tests}
use Rattle.std.specs.List.{flat_map, range_with_len}
use Rattle.metadata_tables.specs.declared.layout.Layout.{Layout}
use Rattle.metadata_tables.specs.Columns.{columns_of, column_of}
use Rattle.metadata_tables.specs.Layout.{value_of, row_of, row_at, has_row}
use Rattle.std.specs.Option.{option_map, option_and_then, unwrap_or}
use Rattle.std.specs.List.{slice_get}
use Rattle.std.proofs.lemmas.Option.{unwrap_or-slice_get}
use Rattle.cli_words.specs.declared.check.FailedCheck.{FailedCheck}
use Rattle.cli_words.specs.Check.{first_fault}
use Rattle.cli_words.proofs.FirstFault.{Checks, none_next, some_next}
use Rattle.meta_heaps.specs.declared.heap.Root.{Root}
use Rattle.metadata_tables.specs.declared.schema.Column.{Column}
use Rattle.metadata_tables.specs.declared.schema.Column.TheVariants.{U8}
use Rattle.std.proofs.lemmas.List.{get_or_default}
use Rattle.metadata_tables.specs.Layout.{column_at}
use Rattle.assembly_image.specs.Cells.{value_at, value_in}
use Rattle.assembly_image.specs.Checks.{value_before, value_checks, column_checks}
use Rattle.assembly_image.specs.Checks.{failed_at}
use Rattle.cli_words.specs.declared.check.CheckCode.{CheckCode}

module _ (bytes : List ℕ) (layout : Layout) (table n k : ℕ) where
  -- what is read of a row that is there
  pub this_value : has_row layout table n ≡ true → k < length (columns_of table)
      → value_in (row_of bytes layout table n) k ≡ value_at bytes layout table n k
  this_value there within =
      rw there (get_or-map-range_with_len (value_of bytes layout table (row_at layout table n)) 0 (length (columns_of table)) k k 0 within (zero-add k))

-- and of the row before it
pub before_value : (bytes : List ℕ) (layout : Layout) (table n k : ℕ) → has_row layout table n ≡ true → k < length (columns_of table)
    → value_in (row_of bytes layout table (n - 1)) k ≡ value_before bytes layout table n k
before_value bytes layout table zero k there within = absurd (cc)
before_value bytes layout table (suc zero) k there within = refl
before_value bytes layout table (suc (suc m)) k there within =
    let lower : has_row layout table (suc (suc m) - 1) ≡ true = grind (arith, nat_tests) in
    let later : (suc (suc m) == 1) ≡ false = grind (arith, nat_tests) in
    this_value bytes layout table (suc (suc m) - 1) k lower within ∙ rw later refl

module _ (bytes : List ℕ) (root : Root) (layout : Layout) (table n : ℕ) where
  -- the checks of a column, by what was read for it
  pub column_checked : (k before value : ℕ) (column : Column) (code : Option CheckCode)
      → column ≡ column_of table k → before ≡ value_before bytes layout table n k → value ≡ value_at bytes layout table n k
      → ((at : ℕ) → first_fault (value_checks bytes root layout column before value at) ≡ option_map (failed_at at) code)
      → first_fault (column_checks bytes root layout table n k) ≡ option_map (failed_at (column_at layout table n k)) code
  column_checked k before value column code c b v told =
      let at = column_at layout table n k in
      ap first_fault (ap (λ x. value_checks bytes root layout x (value_before bytes layout table n k) (value_at bytes layout table n k) at) (sym c)
      ∙ ap (λ x. value_checks bytes root layout column x (value_at bytes layout table n k) at) (sym b)
      ∙ ap (λ x. value_checks bytes root layout column before x at) (sym v)) ∙ told at

-- the same by the rows and the columns that were read
pub column_read : (bytes : List ℕ) (root : Root) (layout : Layout) (table n k : ℕ) → has_row layout table n ≡ true
    → (columns : List Column) → columns ≡ columns_of table → k < length columns → (d : Column)
    → (before row : Option (List ℕ)) → before ≡ row_of bytes layout table (n - 1) → row ≡ row_of bytes layout table n
    → (least value : ℕ) → least ≡ value_in before k → value ≡ value_in row k → (code : Option CheckCode)
    → ((at : ℕ) → first_fault (value_checks bytes root layout (get_or columns k d) least value at) ≡ option_map (failed_at at) code)
    → first_fault (column_checks bytes root layout table n k) ≡ option_map (failed_at (column_at layout table n k)) code
column_read bytes root layout table n k there columns same within d before row b r least value l v code told =
    let known : k < length (columns_of table) = subst (λ (cs : List Column). k < length cs) same within in
    column_checked bytes root layout table n k _ _ _ code
    (get_or_default columns k d U8 within ∙ ap (λ (cs : List Column). get_or cs k U8) same)
    (l ∙ ap (λ (cells : Option (List ℕ)). value_in cells k) b ∙ before_value bytes layout table n k there known)
    (v ∙ ap (λ (cells : Option (List ℕ)). value_in cells k) r ∙ this_value bytes layout table n k there known)
    told

-- the column of the assembly's name is there
pub name_column : 7 < length (columns_of 0x20)
unfolding columns_of
name_column = omega arith

-- the checks of one more number pass, and one of them fails
module _ (checks : ℕ → Checks) (first n m : ℕ) where
  pub goes_on : first_fault (flat_map checks (range_with_len first n)) ≡ None → first_fault (checks m) ≡ None → m ≡ first + n
      → first_fault (flat_map checks (range_with_len first (n + 1))) ≡ None
  goes_on e f at =
      subst (λ (k : ℕ). first_fault (flat_map checks (range_with_len first k)) ≡ None) (sym (add-one n))
      (none_next checks first n e (subst (λ (k : ℕ). first_fault (checks k) ≡ None) at f))

  pub stops : (more : ℕ) (fault : FailedCheck) → first_fault (flat_map checks (range_with_len first n)) ≡ None
      → first_fault (checks m) ≡ Some fault → m ≡ first + n → n < more
      → first_fault (flat_map checks (range_with_len first more)) ≡ Some fault
  stops more fault e f at within =
      some_next checks first n more fault e (subst (λ (k : ℕ). first_fault (checks k) ≡ Some fault) at f) within

-- the number of a row that may not be there
pub number_or : (o : Option (List ℕ)) (k : ℕ) → unwrap_or (option_and_then (λ (row : List ℕ). slice_get row k) o) 0 ≡ value_in o k
number_or None k = refl
number_or (Some row) k = unwrap_or-slice_get row k 0
