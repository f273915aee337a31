-- The rows that belong to types, by the class of a row of InterfaceImpl or of MethodImpl or by the owner of a
-- row of GenericParam, and the index in which they are found. Rows are counted from 1.
use Rattle.std.specs.Prelude.{◌≡◌, ℕ, ◌+◌, ◌-◌, ◌*◌, ◌<◌, ◌≤◌, ◌==◌, ◌&&◌, nat_lt, List, [], length, slice_index, if◌then◌else◌}
use Rattle.std.specs.List.{filter, find, range_with_len}
use Rattle.std.specs.Option.{unwrap_or}
use Rattle.metadata_tables.specs.Tables as tables
use Rattle.assembly_image.specs.declared.index.Belongs.{Belongs}
use Rattle.assembly_image.specs.declared.index.Belongs.TheVariants.{Interface, Implementation, Parameter}
use Rattle.assembly_image.specs.declared.index.RowIndex.{RowIndex}
use Rattle.assembly_image.specs.Module.{Module, count, number}
use Rattle.assembly_image.specs.Names.{has_type}

-- the table of these rows, and the column that says to what they belong
abbrev pub table_by : Belongs → ℕ
table_by Interface = tables.interface_impl
table_by Implementation = tables.method_impl
table_by Parameter = tables.generic_param

abbrev pub column_by : Belongs → ℕ
column_by Interface = tables.interface_impl_class
column_by Implementation = tables.method_impl_class
column_by Parameter = tables.generic_param_owner

-- what stands there for a type: its row, or the coded index of its row, whose tag is 0 (II.24.2.6)
abbrev pub value_by : Belongs → ℕ → ℕ
value_by Interface row = row
value_by Implementation row = row
value_by Parameter row = 2 * row

-- what stands there in a row
abbrev pub value_in_row : Module → Belongs → ℕ → ℕ
value_in_row m by n = number m (table_by by) n (column_by by)

-- the rows that belong to a type, in their order
abbrev pub rows_by : Module → Belongs → ℕ → List ℕ
rows_by m by row =
    filter (λ n. value_in_row m by n == value_by by row) (range_with_len 1 (count m (table_by by)))

-- the same, and none where there is no such type
abbrev pub rows_of_type : Module → Belongs → ℕ → List ℕ
rows_of_type m by row = if has_type m row then rows_by m by row else []

-- its interfaces (II.22.23), its implementations of methods (II.22.27) and its parameters (II.22.20)
abbrev pub interface_impls : Module → ℕ → List ℕ
interface_impls m row = rows_of_type m Interface row

abbrev pub method_impls : Module → ℕ → List ℕ
method_impls m row = rows_of_type m Implementation row

abbrev pub type_params : Module → ℕ → List ℕ
type_params m row = rows_of_type m Parameter row

-- the first of rows in which a number stands, or 0
abbrev pub first_at : (ℕ → ℕ) → ℕ → List ℕ → ℕ
first_at at value ns = unwrap_or (find (λ n. at n == value) ns) 0

-- the last so many rows in which numbers below a limit stand: the first row of each number, and the next row
-- of the same number after each
pub record IsIndex (at : ℕ → ℕ) (limit rows after : ℕ) (first next : List ℕ) : Type 0 where
  pub values : length first ≡ limit
  pub long : length next ≡ rows
  pub firsts : (value : ℕ) → value < limit
      → slice_index first value ≡ first_at at value (range_with_len (rows - after + 1) after)
  pub nexts : (n : ℕ) → rows - after < n → n ≤ rows → at n < limit
      → slice_index next (n - 1) ≡ first_at at (at n) (range_with_len (n + 1) (rows - n))

-- the index of all rows of a table
abbrev pub IsIndexed : Module → Belongs → RowIndex → Type 0
IsIndexed m by index =
    let rows = count m (table_by by) in
    IsIndex (value_in_row m by) (value_by by (count m tables.type_def) + 1) rows rows
    index.first.items index.next.items

-- one more row in front of those of the same number
pub record IsLinked (first first' next next' : List ℕ) (n value : ℕ) : Type 0 where
  pub values : length first' ≡ length first
  pub long : length next' ≡ length next
  pub firsts : (v : ℕ) → v < length first
      → slice_index first' v ≡ (if value == v then n else slice_index first v)
  pub nexts : (j : ℕ) → j < length next → slice_index next' j
      ≡ (if (j + 1 == n) && nat_lt value (length first) then slice_index first value else slice_index next j)
