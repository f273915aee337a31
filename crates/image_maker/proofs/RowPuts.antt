-- How what is put one after the other is put as a whole.
use Rattle.std.proofs.Common.{◌≡◌, ℕ, zero, suc, ◌+◌, ◌<◌, ◌≤◌, ◌==◌, Bool, true, false, List, [], ◌∷◌, ◌++◌, length, get_or, drop, map, refl, sym, ap, subst, ◌∙◌, append_assoc, length-append, arith}
use Rattle.std.proofs.lemmas.Bool.{and_parts}
use Rattle.std.proofs.lemmas.Bool.Decides.{nat_tests}
use Rattle.std.proofs.lemmas.List.{append-nil, drop_all, map-append}
use Rattle.std.proofs.lemmas.Slice.Zip.{length-zip, get_or-zip}
use Rattle.std.proofs.lemmas.Grind.{flat_map-append}
use Rattle.std.specs.List.{flat_map, zip}
use Rattle.metadata_tables.specs.declared.schema.Column.{Column}
use Rattle.metadata_tables.specs.declared.schema.Column.TheVariants.{U8, U16, U32, Strings, Guid, Blob, Table, List as ListColumn, Coded}
use Rattle.metadata_tables.specs.Columns.{columns_of}
use Rattle.metadata_tables.specs.Columns.{column_of}
use Rattle.image_maker.specs.declared.module.Cell.{Cell}
use Rattle.image_maker.specs.declared.module.Cell.TheVariants.{Number, Text, Bytes}
use Rattle.image_maker.specs.declared.module.TypeRow.{TypeRow}
use Rattle.image_maker.specs.declared.writer.Writer.{Writer}
use Rattle.image_maker.specs.Rows.{type_row, type_rows, given_rows}
use Rattle.image_maker.specs.declared.rows.Held.{Held}
use Rattle.image_maker.specs.Held.{are_fitting, cell_of, fits_in}
use Rattle.image_maker.specs.Sound.{fits, has_fitting}
use Rattle.image_maker.specs.Written.{Cells, Holds, Puts, row_cells, table_cells}
use Rattle.image_maker.proofs.RangeLemmas.{all_at}
use Rattle.image_maker.proofs.ListSteps.{drop_next, same_read}

-- nothing put, and one after the other
pub puts_nothing : (x : Writer) → Puts [] x x
puts_nothing x = (refl, λ cells methods held. subst (λ cs. Holds cs methods x) (sym (append-nil cells)) held)

pub puts_both : (a b : Cells) (x y z : Writer) → Puts a x y → Puts b y z → Puts (a ++ b) x z
puts_both a b x y z p q = (
  q.0 ∙ p.0,
  λ cells methods held.
      subst (λ cs. Holds cs methods z) (append_assoc cells a b) (q.1 (cells ++ a) methods (p.1 cells methods held)),
)

-- whatever puts the cells that are left has put them all
abbrev pub Left : (all rest : Cells) → (first now : Writer) → Type 0
Left all rest first now = (last : Writer) → Puts rest now last → Puts all first last

pub left_all : (all : Cells) (x : Writer) → Left all all x x
left_all all x last puts = puts

pub left_none : (all rest : Cells) (x y : Writer) → rest ≡ [] → Left all rest x y → Puts all x y
left_none all rest x y none left = left y (subst (λ cs. Puts cs y y) (sym none) (puts_nothing y))

pub left_next : (all rest one more : Cells) (x y z : Writer) → rest ≡ one ++ more → Left all rest x y → Puts one y z
    → Left all more x z
left_next all rest one more x y z parts left puts last q =
    left last (subst (λ cs. Puts cs y last) (sym parts) (puts_both one more y z last puts q))

-- the rows of a table that each element of a list stands for
module _ {X : Type 0} (table : ℕ) (row : X → List Cell) where
  pub rows_done : (all : Cells) (xs : List X) (i : ℕ) (x y : Writer) → length xs ≤ i
      → Left all (table_cells table (map row (drop i xs))) x y → Puts all x y
  rows_done all xs i x y ended =
      left_none all _ x y (ap (λ (rest : List X). table_cells table (map row rest)) (drop_all i xs ended))

  pub rows_next : (all : Cells) (xs : List X) (i : ℕ) (item : X) (x y z : Writer) → i < length xs
      → item ≡ get_or xs i item
      → Left all (table_cells table (map row (drop i xs))) x y → Puts (row_cells table (row item)) y z
      → Left all (table_cells table (map row (drop (i + 1) xs))) x z
  rows_next all xs i item x y z within is left puts =
      left_next all _ _ _ x y z
      (ap (λ (rest : List X). table_cells table (map row rest)) (drop_next xs i item within is))
      left puts

-- the rows of the elements of lists
module _ {X Y : Type 0} (table : ℕ) (row : Y → List Cell) (f : X → List Y) where
  pub lists_next : (all : Cells) (xs : List X) (i : ℕ) (item : X) (x y z : Writer) → i < length xs
      → item ≡ get_or xs i item
      → Left all (table_cells table (map row (flat_map f (drop i xs)))) x y
      → Puts (table_cells table (map row (f item))) y z
      → Left all (table_cells table (map row (flat_map f (drop (i + 1) xs)))) x z
  lists_next all xs i item x y z within is left puts =
      left_next all _ _ _ x y z
      (ap (λ (rest : List X). table_cells table (map row (flat_map f rest))) (drop_next xs i item within is)
      ∙ ap (flat_map (row_cells table)) (map-append row (f item) (flat_map f (drop (i + 1) xs)))
      ∙ flat_map-append (row_cells table) (map row (f item)) _)
      left puts

-- how many elements of lists are left
module _ {X Y : Type 0} (f : X → List Y) where
  pub lengths_next : (xs : List X) (i : ℕ) (item : X) (n total : ℕ) → i < length xs → item ≡ get_or xs i item
      → n + length (flat_map f (drop i xs)) ≡ total
      → (n + length (f item)) + length (flat_map f (drop (i + 1) xs)) ≡ total
  lengths_next xs i item n total within is sum =
      let parts : length (flat_map f (drop i xs)) ≡ length (f item) + length (flat_map f (drop (i + 1) xs)) =
      ap (λ (rest : List X). length (flat_map f rest)) (drop_next xs i item within is)
      ∙ length-append (f item) (flat_map f (drop (i + 1) xs)) in
      omega (arith, parts, sum)

-- the rows of types, whose fields and methods begin at rows that go on
pub types_next : (all : Cells) (xs : List TypeRow) (i : ℕ) (item : TypeRow) (field method : ℕ) (x y z : Writer)
    → i < length xs → item ≡ get_or xs i item
    → Left all (table_cells 0x02 (type_rows field method (drop i xs))) x y
    → Puts (row_cells 0x02 (type_row item field method)) y z
    → (next_field next_method : ℕ) → next_field ≡ field + length item.fields
    → next_method ≡ method + length item.methods
    → Left all (table_cells 0x02 (type_rows next_field next_method (drop (i + 1) xs))) x z
types_next all xs i item field method x y z within is left puts next_field next_method f m =
    let rest = drop (i + 1) xs in
    let one = row_cells 0x02 (type_row item field method) in
    left_next all _ _ _ x y z
    (ap (λ (more : List TypeRow). table_cells 0x02 (type_rows field method more)) (drop_next xs i item within is)
    ∙ ap (λ n. one ++ table_cells 0x02 (type_rows n (method + length item.methods) rest)) (sym f)
    ∙ ap (λ n. one ++ table_cells 0x02 (type_rows next_field n rest)) (sym m))
    left puts

-- a row of a table that is given, and one of another
module _ (table : ℕ) (all : Cells) (xs : List (ℕ × List Cell)) (i : ℕ) (item : ℕ × List Cell) where
  given_parts : i < length xs → item ≡ get_or xs i item
      → table_cells table (given_rows table (drop i xs)) ≡ table_cells table
      (given_rows table (item ∷ drop (i + 1) xs))
  given_parts within is =
      ap (λ (rest : List (ℕ × List Cell)). table_cells table (given_rows table rest)) (drop_next xs i item within is)

  pub given_next : (x y z : Writer) → i < length xs → item ≡ get_or xs i item → (item.0 == table) ≡ true
      → Left all (table_cells table (given_rows table (drop i xs))) x y → Puts (row_cells table item.1) y z
      → Left all (table_cells table (given_rows table (drop (i + 1) xs))) x z
  given_next x y z within is same left puts =
      let parts : table_cells table (given_rows table (item ∷ drop (i + 1) xs))
      ≡ row_cells table item.1 ++ table_cells table (given_rows table (drop (i + 1) xs)) = rw same refl in
      left_next all _ _ _ x y z (given_parts within is ∙ parts) left puts

  pub other_next : (x y : Writer) → i < length xs → item ≡ get_or xs i item → (item.0 == table) ≡ false
      → Left all (table_cells table (given_rows table (drop i xs))) x y
      → Left all (table_cells table (given_rows table (drop (i + 1) xs))) x y
  other_next x y within is other left =
      let parts : table_cells table (given_rows table (item ∷ drop (i + 1) xs))
      ≡ table_cells table (given_rows table (drop (i + 1) xs)) = rw other refl in
      subst (λ cs. Left all cs x y) (given_parts within is ∙ parts) left

-- the cells of a row
pub cells_next : (columns : List Column) (cells : List Cell) (all : Cells) (k : ℕ) (column : Column)
    (cell : Cell) (x y z : Writer)
    → k < length columns → k < length cells → column ≡ get_or columns k column → cell ≡ get_or cells k cell
    → Left all (drop k (zip columns cells)) x y → Puts ((column, cell) ∷ []) y z
    → Left all (drop (k + 1) (zip columns cells)) x z
cells_next columns cells all k column cell x y z left right c d left_over puts =
    let within : k < length (zip columns cells) = grind (arith, length-zip columns cells) in
    let here : get_or (zip columns cells) k (column, cell) ≡ (column, cell) =
    get_or-zip columns cells k (column, cell) left right ∙ ap (λ (cl : Column). (cl, get_or cells k cell)) (sym c)
    ∙ ap (λ (it : Cell). (column, it)) (sym d) in
    left_next all _ _ _ x y z
    (drop_next (zip columns cells) k (column, cell) within (sym here)) left_over puts

-- what is known of a row that fits
pub fitting_len : (table : ℕ) (cells : List Cell) → has_fitting (table, cells) ≡ true
    → length cells ≡ length (columns_of table)
fitting_len table cells fitting = grind (arith, nat_tests)

pub fitting_cell : (table : ℕ) (cells : List Cell) (k : ℕ) (column : Column) (cell : Cell)
    → has_fitting (table, cells) ≡ true
    → k < length cells → column ≡ get_or (columns_of table) k column → cell ≡ get_or cells k cell
    → fits column cell ≡ true
fitting_cell table cells k column cell fitting within c d =
    let same = fitting_len table cells fitting in
    let test : ℕ → Bool = λ j. fits (column_of table j) (get_or cells j (Number 0)) in
    let at : test k ≡ true = all_at test (length cells) k (and_parts _ _ fitting).1 within in
    let inside : k < length (columns_of table) = subst (λ n. k < n) same within in
    ap (λ (cl : Column). fits cl cell) (same_read (columns_of table) k column inside c U8)
    ∙ ap (fits (column_of table k)) (same_read cells k cell within d (Number 0)) ∙ at

-- what is known of cells that fit their columns
pub fitting_length : (columns : List Column) (cells : List Held) → are_fitting columns cells ≡ true
    → length cells ≡ length columns
fitting_length [] [] fitting = refl
fitting_length [] (held ∷ cells) fitting = absurd (cc)
fitting_length (column ∷ columns) [] fitting = absurd (cc)
fitting_length (column ∷ columns) (held ∷ cells) fitting =
    ap suc (fitting_length columns cells (and_parts _ _ fitting).1)

pub fitting_held : (columns : List Column) (cells : List Held) (k : ℕ) (column : Column) (held : Held)
    → are_fitting columns cells ≡ true → k < length cells → column ≡ get_or columns k column
    → held ≡ get_or cells k held → fits_in column held ≡ true
fitting_held [] cells k column held fitting within c d =
    let none = fitting_length [] cells fitting in absurd (omega arith)
fitting_held (first ∷ columns) [] k column held fitting within c d = absurd (cc)
fitting_held (first ∷ columns) (cell ∷ cells) zero column held fitting within c d =
    ap (λ (cl : Column). fits_in cl held) c ∙ ap (fits_in first) d ∙ (and_parts _ _ fitting).0
fitting_held (first ∷ columns) (cell ∷ cells) (suc k) column held fitting within c d =
    fitting_held columns cells k column held (and_parts _ _ fitting).1 (omega arith) c d

-- what fits a text, and what fits a blob
pub text_column : (column : Column) (bytes : List ℕ) → fits column (Text bytes) ≡ true → column ≡ Strings
text_column Strings bytes fitting = refl
text_column Blob bytes fitting = absurd (cc)
text_column U8 bytes fitting = absurd (cc)
text_column U16 bytes fitting = absurd (cc)
text_column U32 bytes fitting = absurd (cc)
text_column Guid bytes fitting = absurd (cc)
text_column (Table table) bytes fitting = absurd (cc)
text_column (ListColumn table) bytes fitting = absurd (cc)
text_column (Coded index) bytes fitting = absurd (cc)

pub blob_column : (column : Column) (bytes : List ℕ) → fits column (Bytes bytes) ≡ true → column ≡ Blob
blob_column Blob bytes fitting = refl
blob_column Strings bytes fitting = absurd (cc)
blob_column U8 bytes fitting = absurd (cc)
blob_column U16 bytes fitting = absurd (cc)
blob_column U32 bytes fitting = absurd (cc)
blob_column Guid bytes fitting = absurd (cc)
blob_column (Table table) bytes fitting = absurd (cc)
blob_column (ListColumn table) bytes fitting = absurd (cc)
blob_column (Coded index) bytes fitting = absurd (cc)

-- what is put into a column of texts, or of blobs, is put into the column that it fits
pub put_as_text : (column : Column) (any put : List ℕ) (given held : Held) (x y : Writer) → given ≡ held
    → fits column (Text any) ≡ true → cell_of held ≡ Text put → Puts ((Strings, Text put) ∷ []) x y
    → Puts ((column, cell_of given) ∷ []) x y
put_as_text column any put given held x y is fitting same puts =
    subst (λ (cs : Cells). Puts cs x y)
    (ap (λ (cl : Column). (cl, Text put) ∷ []) (sym (text_column column any fitting))
    ∙ ap (λ (it : Cell). (column, it) ∷ []) (sym (ap cell_of is ∙ same))) puts

pub put_as_blob : (column : Column) (any put : List ℕ) (given held : Held) (x y : Writer) → given ≡ held
    → fits column (Bytes any) ≡ true → cell_of held ≡ Bytes put → Puts ((Blob, Bytes put) ∷ []) x y
    → Puts ((column, cell_of given) ∷ []) x y
put_as_blob column any put given held x y is fitting same puts =
    subst (λ (cs : Cells). Puts cs x y)
    (ap (λ (cl : Column). (cl, Bytes put) ∷ []) (sym (blob_column column any fitting))
    ∙ ap (λ (it : Cell). (column, it) ∷ []) (sym (ap cell_of is ∙ same))) puts
