-- How methods that are put one after the other are put as a whole.
use Rattle.std.proofs.Common.{◌≡◌, ℕ, suc, ◌+◌, ◌-◌, ◌<◌, ◌≤◌, ◌^◌, ◌==◌, false, List, [], ◌∷◌, ◌++◌, length, get_or, take, drop, refl, sym, ap, subst, ◌∙◌, append_assoc, length-append, Option, Some, arith}
use Rattle.std.specs.Prelude.{slice_get}
use Rattle.std.proofs.lemmas.Bool.{false_from_ne_true}
use Rattle.std.proofs.lemmas.Bool.Decides.{nat_tests}
use Rattle.std.proofs.lemmas.List.{append-nil}
use Rattle.std.proofs.lemmas.Option.{slice_get-get_or}
use Rattle.std.proofs.Math.Seq.{get_or-append_seam, take-append_seam}
use Rattle.std.proofs.lemmas.Grind.{flat_map-append}
use Rattle.std.specs.List.{flat_map}
use Rattle.std.specs.Option.{option_and_then}
use Rattle.image_maker.specs.declared.module.Cell.{Cell}
use Rattle.image_maker.specs.declared.module.MethodRow.{MethodRow}
use Rattle.image_maker.specs.declared.module.Module.{Module}
use Rattle.image_maker.specs.declared.module.TypeRow.{TypeRow}
use Rattle.image_maker.specs.declared.writer.Writer.{Writer}
use Rattle.image_maker.specs.File.{bodies_bytes, body_bytes, rva_by, rva_of}
use Rattle.image_maker.specs.MethodsPut.{PutsMethods, Starts, rows_behind}
use Rattle.image_maker.specs.Rows.{method_row, method_rows, rows_of, given_rows}
use Rattle.image_maker.specs.Written.{Cells, Holds, Puts, cells_below, row_cells, table_cells}
use Rattle.image_maker.proofs.TablesSound.{rows_given}
use Rattle.image_maker.proofs.CellPlaces.{cells_more}
use Rattle.image_maker.proofs.ParamRows.{params_of, params_cons}
use Rattle.image_maker.proofs.ListSteps.{drop_next}

-- some method with a body
some_method : MethodRow
some_method = record { flags = 0; impl_flags = 0; params = 0; name = []; sig = []; body = Some (0 ∷ []) }

some_body : bodies_bytes (some_method ∷ []) ≡ [] → ⊥
unfolding some_method
some_body h = absurd (cc)

-- a writer that has not failed had not failed before
pub kept_going : (these : Cells) (x y : Writer) → Puts these x y → y.failed ≡ false → x.failed ≡ false
kept_going these x y puts good = false_from_ne_true x.failed (λ failed.
    let none : Holds [] [] x = λ ok. absurd (cc (failed, ok)) in
    let one : Holds [] (some_method ∷ []) x = λ ok. absurd (cc (failed, ok)) in
    some_body (sym (puts.1 [] (some_method ∷ []) one good).1 ∙ (puts.1 [] [] none good).1))

-- the bodies before others are no longer
pub shorter : (before more : List MethodRow) (limit : ℕ) → length (bodies_bytes (before ++ more)) < limit
    → length (bodies_bytes before) < limit
shorter before more limit short =
    let parts : length (bodies_bytes (before ++ more)) ≡ length (bodies_bytes before) + length (bodies_bytes more) =
    ap length (flat_map-append (λ (m : MethodRow). body_bytes m.body) before more)
    ∙ length-append (bodies_bytes before) (bodies_bytes more) in
    omega (arith, parts, short)

-- the rows of methods after others
pub behind_both : (before : List MethodRow) (param : ℕ) (xs ys : List MethodRow)
    → rows_behind before param (xs ++ ys)
    ≡ rows_behind before param xs ++ rows_behind (before ++ xs) (param + params_of xs) ys
behind_both before param [] ys =
    ap (λ (b : List MethodRow). rows_behind b param ys) (sym (append-nil before))
    ∙ ap (λ p. rows_behind (before ++ []) p ys) (omega arith)
behind_both before param (m ∷ xs) ys =
    ap (λ (rows : List (List Cell)). method_row m (rva_by before m.body) param ∷ rows)
    (behind_both (before ++ m ∷ []) (param + m.params) xs ys
    ∙ ap (λ (b : List MethodRow). rows_behind (before ++ m ∷ []) (param + m.params) xs
    ++ rows_behind b (param + m.params + params_of xs) ys) (append_assoc before (m ∷ []) xs)
    ∙ ap (λ p. rows_behind (before ++ m ∷ []) (param + m.params) xs ++ rows_behind (before ++ m ∷ xs) p ys)
    (omega (arith, params_cons m xs)))

pub methods_nothing : (param : ℕ) (x : Writer) → PutsMethods param [] x x
methods_nothing param x = (
  refl,
  λ cells before short held.
      subst (λ (cs : Cells). Holds cs (before ++ []) x) (sym (append-nil cells))
      (subst (λ (ms : List MethodRow). Holds cells ms x) (sym (append-nil before)) held),
)

pub methods_both : (param : ℕ) (xs ys : List MethodRow) (x y z : Writer) → PutsMethods param xs x y
    → PutsMethods (param + params_of xs) ys y z → PutsMethods param (xs ++ ys) x z
methods_both param xs ys x y z p q = (
  q.0 ∙ p.0,
  λ cells before short held.
      let both = append_assoc before xs ys in
      let fits : length (bodies_bytes ((before ++ xs) ++ ys)) < 2 ^ 31 =
      subst (λ (ms : List MethodRow). length (bodies_bytes ms) < 2 ^ 31) (sym both) short in
      let done = table_cells 0x06 (rows_behind before param xs) in
      let more = table_cells 0x06 (rows_behind (before ++ xs) (param + params_of xs) ys) in
      let parts : (cells ++ done) ++ more ≡ cells ++ table_cells 0x06 (rows_behind before param (xs ++ ys)) =
      append_assoc cells done more
      ∙ ap (λ (cs : Cells). cells ++ cs) (sym (ap (table_cells 0x06) (behind_both before param xs ys)
      ∙ flat_map-append (row_cells 0x06) (rows_behind before param xs) _)) in
      subst (λ (cs : Cells). Holds cs (before ++ (xs ++ ys)) z) parts
      (subst (λ (ms : List MethodRow). Holds ((cells ++ done) ++ more) ms z) both
      (q.1 (cells ++ done) (before ++ xs) fits (p.1 cells before (shorter (before ++ xs) ys (2 ^ 31) fits) held))),
)

-- one method: its body, and then its cells
pub method_put : (m : MethodRow) (param rva : ℕ) (x y z : Writer) → y.layout ≡ x.layout
    → ((cells : Cells) (methods : List MethodRow) → Holds cells methods x → Holds cells (methods ++ m ∷ []) y)
    → ((cells : Cells) (methods : List MethodRow) → Holds cells methods x → y.failed ≡ false
    → length (bodies_bytes methods) < 2 ^ 31 → rva ≡ rva_by methods m.body)
    → Puts (row_cells 0x06 (method_row m rva param)) y z → PutsMethods param (m ∷ []) x z
method_put m param rva x y z same holds placed puts = (
  puts.0 ∙ same,
  λ cells before short held good.
      let going : y.failed ≡ false = kept_going _ y z puts good in
      let is : rva ≡ rva_by before m.body = placed cells before held going (shorter before (m ∷ []) (2 ^ 31) short) in
      let whole : row_cells 0x06 (method_row m rva param) ≡ table_cells 0x06 (rows_behind before param (m ∷ [])) =
      ap (λ r. row_cells 0x06 (method_row m r param)) is ∙ sym (append-nil _) in
      subst (λ (cs : Cells). Holds (cells ++ cs) (before ++ m ∷ []) z) whole
      (puts.1 cells (before ++ m ∷ []) (holds cells before held)) good,
)

-- the params of the methods that are left
pub params_next : (xs : List MethodRow) (i : ℕ) (item : MethodRow) → i < length xs → item ≡ get_or xs i item
    → params_of (drop i xs) ≡ item.params + params_of (drop (i + 1) xs)
params_next xs i item within is =
    ap params_of (drop_next xs i item within is) ∙ params_cons item (drop (i + 1) xs)

-- whatever puts the methods that are left has put them all
abbrev pub MethodsLeft : (start : ℕ) (all : List MethodRow) (param : ℕ) (rest : List MethodRow)
    → (first now : Writer) → Type 0
MethodsLeft start all param rest first now =
    (last : Writer) → PutsMethods param rest now last → PutsMethods start all first last

pub methods_all : (start : ℕ) (all : List MethodRow) (x : Writer) → MethodsLeft start all start all x x
methods_all start all x last puts = puts

pub methods_none : (start : ℕ) (all : List MethodRow) (param : ℕ) (rest : List MethodRow) (x y : Writer) → rest ≡ []
    → MethodsLeft start all param rest x y → PutsMethods start all x y
methods_none start all param rest x y none left =
    left y (subst (λ (ms : List MethodRow). PutsMethods param ms y y) (sym none) (methods_nothing param y))

pub methods_next : (start : ℕ) (all : List MethodRow) (param next : ℕ) (rest one more : List MethodRow)
    (x y z : Writer)
    → rest ≡ one ++ more → next ≡ param + params_of one → MethodsLeft start all param rest x y
    → PutsMethods param one y z
    → MethodsLeft start all next more x z
methods_next start all param next rest one more x y z parts is left puts last q =
    left last (subst (λ (ms : List MethodRow). PutsMethods param ms y last) (sym parts)
    (methods_both param one more y z last puts (subst (λ p. PutsMethods p more z last) is q)))

-- the params of some methods, and of those after them, begin at rows below 2^16
pub starts_both : (param : ℕ) (xs ys : List MethodRow) → Starts param (xs ++ ys)
    → Starts param xs × Starts (param + params_of xs) ys
starts_both param [] ys starts = (tt, subst (λ p. Starts p ys) (omega arith) starts)
starts_both param (m ∷ xs) ys starts =
    let rest = starts_both (param + m.params) xs ys starts.1 in
    ((starts.0, rest.0), subst (λ p. Starts p ys) (omega (arith, params_cons m xs)) rest.1)

-- of the methods that are left, the next and those after it
pub starts_next : (param : ℕ) (xs : List MethodRow) (i : ℕ) (item : MethodRow) → i < length xs
    → item ≡ get_or xs i item
    → Starts param (drop i xs) → (param ≤ 65535) × Starts (param + item.params) (drop (i + 1) xs)
starts_next param xs i item within is starts =
    subst (λ (ms : List MethodRow). Starts param ms) (drop_next xs i item within is) starts

pub starts_from : (param : ℕ) (methods : List MethodRow)
    → ((n : ℕ) → n < length methods → param + params_of (take n methods) ≤ 65535) → Starts param methods
starts_from param [] low = tt
starts_from param (m ∷ methods) low = (
  omega (arith, low 0 (omega arith)),
  starts_from (param + m.params) methods (λ n within.
      omega (arith, low (suc n) (omega (arith, within)), params_cons m (take n methods))),
)

-- the RVA of a method that stands after others
method_rva : (all before : List MethodRow) (m : MethodRow) (methods : List MethodRow) → before ++ m ∷ methods ≡ all
    → rva_of all (length before + 1) ≡ rva_by before m.body
method_rva all before m methods whole =
    let n = length before in
    let place : length before + 1 - 1 ≡ n = omega arith in
    let front : take n all ≡ before =
    ap (λ (ms : List MethodRow). take n ms) (sym whole) ∙ take-append_seam before (m ∷ methods) in
    let within : n < length (before ++ m ∷ methods) = omega (arith, length-append before (m ∷ methods)) in
    let found : slice_get all n ≡ Some m =
    ap (λ (ms : List MethodRow). slice_get ms n) (sym whole) ∙ slice_get-get_or (before ++ m ∷ methods) n m within
    ∙ ap Some (get_or-append_seam before m methods m) in
    ap (λ k. rva_by (take k all) (option_and_then (λ x. x.body) (slice_get all k))) place
    ∙ ap (λ (ms : List MethodRow). rva_by ms (option_and_then (λ x. x.body) (slice_get all n))) front
    ∙ ap (λ (it : Option MethodRow). rva_by before (option_and_then (λ x. x.body) it)) found

-- the rows of the methods of a module
pub behind_is : (all before : List MethodRow) (param : ℕ) (methods : List MethodRow) → before ++ methods ≡ all
    → rows_behind before param methods ≡ method_rows (rva_of all) (length before + 1) param methods
behind_is all before param [] whole = refl
behind_is all before param (m ∷ methods) whole =
    let here : rva_of all (length before + 1) ≡ rva_by before m.body =
    method_rva all before m methods whole in
    let next = behind_is all (before ++ m ∷ []) (param + m.params) methods
    (append_assoc before (m ∷ []) methods ∙ whole) in
    ap (λ r. method_row m r param ∷ rows_behind (before ++ m ∷ []) (param + m.params) methods) (sym here)
    ∙ ap (λ (rows : List (List Cell)). method_row m (rva_of all (length before + 1)) param ∷ rows) (next
    ∙ ap (λ n. method_rows (rva_of all) (n + 1) (param + m.params) methods) (length-append before (m ∷ [])))

-- of the methods of types that are left, those of the next
pub type_methods : (xs : List TypeRow) (i : ℕ) (item : TypeRow) → i < length xs → item ≡ get_or xs i item
    → flat_map (λ t. t.methods) (drop i xs) ≡ item.methods ++ flat_map (λ t. t.methods) (drop (i + 1) xs)
type_methods xs i item within is =
    ap (λ (rest : List TypeRow). flat_map (λ t. t.methods) rest) (drop_next xs i item within is)

unequal : (a b : ℕ) → (a ≡ b → ⊥) → (a == b) ≡ false
unequal a b other = false_from_ne_true (a == b) (λ same. other (grind (arith, nat_tests)))

-- a table of another number than those of the rows that have fields of a module
pub other_rows : (m : Module) (rva : ℕ → ℕ) (table : ℕ) → (table ≡ 0x00 → ⊥) → (table ≡ 0x01 → ⊥) → (table ≡ 0x02 → ⊥)
    → (table ≡ 0x04 → ⊥) → (table == 0x06) ≡ false → (table ≡ 0x0A → ⊥) → (table ≡ 0x1B → ⊥) → (table ≡ 0x20 → ⊥)
    → (table ≡ 0x23 → ⊥) → rows_of m rva table ≡ given_rows table m.rows
other_rows m rva table a b c d e f g h i =
    rows_given m rva table (unequal table 0x00 a) (unequal table 0x01 b) (unequal table 0x02 c) (unequal table 0x04 d) e
    (unequal table 0x0A f) (unequal table 0x1B g) (unequal table 0x20 h) (unequal table 0x23 i)

-- what is put of a table, by the table's number
pub puts_table : (m : Module) (rva : ℕ → ℕ) (table n : ℕ) (x y : Writer) → table ≡ n
    → Puts (table_cells n (rows_of m rva n)) x y → Puts (table_cells table (rows_of m rva table)) x y
puts_table m rva table n x y is =
    subst (λ k. Puts (table_cells k (rows_of m rva k)) x y) (sym is)

-- the cells of all tables below one, with one more
module _ (rows : ℕ → List (List Cell)) where
  pub table_after : (table : ℕ) (methods : List MethodRow) (x y : Writer) → Puts (table_cells table (rows table)) x y
      → Holds (cells_below rows table) methods x → Holds (cells_below rows (table + 1)) methods y
  table_after table methods x y puts held =
      subst (λ (cs : Cells). Holds cs methods y) (sym (cells_more rows table))
      (puts.1 (cells_below rows table) methods held)

  pub methods_after : (all : List MethodRow) (x y : Writer) → rows 6 ≡ method_rows (rva_of all) 1 1 all
      → PutsMethods 1 all x y → length (bodies_bytes all) < 2 ^ 31 → Holds (cells_below rows 6) [] x
      → Holds (cells_below rows 7) all y
  methods_after all x y these puts short held =
      subst (λ (cs : Cells). Holds cs all y)
      (ap (λ (rs : List (List Cell)). cells_below rows 6 ++ table_cells 6 rs)
      (behind_is all [] 1 all refl ∙ sym these)
      ∙ sym (cells_more rows 6)) (puts.1 (cells_below rows 6) [] short held)
