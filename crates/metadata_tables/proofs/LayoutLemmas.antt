-- Sums of rows and columns.
use Rattle.std.proofs.Common.{◌≡◌, ℕ, zero, suc, ◌+◌, ◌-◌, ◌*◌, ◌<◌, ◌≤◌, List, [], ◌∷◌, ◌++◌, length, map, get_or, set, get_or-set_other, ◌≢◌, inl, inr, sym, ap, subst, ◌∙◌, arith, refl, Some, None, true, false, cond, add_assoc, zero-add, add-zero, add-one}
use Rattle.std.specs.Prelude.{nat_lt}
use Rattle.std.specs.Option.{option_and_then}
use Rattle.std.specs.List.{range_with_len, sum_by, slice_get}
use Rattle.std.proofs.lemmas.Bool.{cases_Bool, cases_lt}
use Rattle.std.proofs.lemmas.Bool.Decides.{nat_tests}
use Rattle.std.proofs.lemmas.Option.{slice_get-get_or, slice_get_past}
use Rattle.std.proofs.lemmas.Grind.{get_or-set_at}
use Rattle.std.proofs.Math.Nat.{mul-le-mul_right}
use Rattle.std.proofs.lemmas.List.Sums.{sum_by_push}
use Rattle.std.proofs.lemmas.List.FromFn.{get_or-map-range_with_len, length-map-range_with_len}
use Rattle.metadata_tables.specs.declared.layout.Layout.{Layout}
use Rattle.metadata_tables.specs.declared.place.TablePlace.{TablePlace}
use Rattle.metadata_tables.specs.Tables.{table_count}
use Rattle.metadata_tables.specs.Columns.{columns_of}
use Rattle.metadata_tables.specs.Places.{IsPlaced}
use Rattle.metadata_tables.specs.Layout.{count_of, row_size_of, table_size_of, table_at, row_at, rows_end, value_of, has_row, row_of, number_in_row}

-- a number that never falls from one step to the next
module _ (f : ℕ → ℕ) (next : (n : ℕ) → f n ≤ f (n + 1)) where
  climbs : (a k : ℕ) → f a ≤ f (a + k)
  climbs a zero = rw add-zero (omega arith)
  climbs a (suc k) =
      let up = climbs a k in
      let step = next (a + k) in
      let same : a + k + 1 ≡ a + suc k = omega arith in
      subst (λ n. f a ≤ f n) same (omega arith)

  pub rises : (a b : ℕ) → a ≤ b → f a ≤ f b
  rises a b h =
      let same : a + (b - a) ≡ b = omega arith in
      subst (λ n. f a ≤ f n) same (climbs a (b - a))

range_from : (a n : ℕ) → range_with_len a (suc n) ≡ range_with_len a n ++ (a + n) ∷ []
range_from a zero = ap (λ x. x ∷ []) (omega arith)
range_from a (suc n) =
    let same : a + 1 + n ≡ a + suc n = omega arith in
    ap (λ xs. a ∷ xs) (range_from (a + 1) n ∙ ap (λ x. range_with_len (a + 1) n ++ x ∷ []) same)

pub range_next : (n : ℕ) → range_with_len 0 (n + 1) ≡ range_with_len 0 n ++ n ∷ []
range_next n =
    let same : 0 + n ≡ n = omega arith in
    ap (range_with_len 0) (add-one n)
    ∙ range_from 0 n
    ∙ ap (λ x. range_with_len 0 n ++ x ∷ []) same

pub table_next : (layout : Layout) (t : ℕ)
    → table_at layout (t + 1) ≡ table_at layout t + table_size_of layout t
unfolding table_at
table_next layout t =
    ap (λ ts. layout.rows_at + sum_by (table_size_of layout) ts) (range_next t)
    ∙ ap (λ n. layout.rows_at + n) (sum_by_push (table_size_of layout) (range_with_len 0 t) t)
    ∙ sym (add_assoc layout.rows_at (sum_by (table_size_of layout) (range_with_len 0 t))
    (table_size_of layout t))

pub table_rises : (layout : Layout) (a b : ℕ) → a ≤ b → table_at layout a ≤ table_at layout b
table_rises layout = rises (table_at layout) (λ n. let e = table_next layout n in omega arith)

-- a row lies before the end of the rows
pub row_room : (layout : Layout) (t n : ℕ) → t < table_count → 1 ≤ n
    → n ≤ count_of layout t → row_at layout t n + row_size_of layout t ≤ rows_end layout
row_room layout t n known first last =
    let next = table_next layout t in
    let end = table_rises layout (t + 1) table_count (omega arith) in
    let rows : (n - 1 + 1) * row_size_of layout t ≤ table_size_of layout t =
    mul-le-mul_right (row_size_of layout t) (omega arith) in
    omega arith

-- the same of the place that was worked out
pub row_lies : (layout : Layout) (t n : ℕ) (place : TablePlace) → t < table_count → 1 ≤ n
    → n ≤ count_of layout t → IsPlaced layout t place
    → place.start + (n - 1) * place.row_size + row_size_of layout t ≤ rows_end layout
row_lies layout t n place known first last placed =
    let room = row_room layout t n known first last in
    let size : (n - 1) * place.row_size ≡ (n - 1) * row_size_of layout t =
    ap (λ x. (n - 1) * x) placed.row_size in
    omega (arith, placed.start)

-- one more element of a list of which each element has a property
pub holds_next : {A : Type 0} (P : ℕ → A → Type 0) (xs : List A) (t j : ℕ) (v d : A)
    → ((k : ℕ) → k < t → P k (get_or xs k d)) → j ≡ t → j < length xs → P t v
    → (k : ℕ) → k < t + 1 → P k (get_or (set xs j v) k d)
holds_next P xs t j v d each place room here k h =
    elim (cases_lt k j) [
      | inl below ↦
          let apart : k ≢ j = omega arith in
          subst (P k) (sym (get_or-set_other xs j k v d apart)) (each k (omega arith))
      | inr above ↦
          let same : k ≡ j = omega arith in
          let last : t ≡ k = omega arith in
          subst (P k) (sym (get_or-set_at xs j k v d same room)) (subst (λ n. P n v) last here)
    ]

-- the same where the elements are the values of f
pub filled_next : (f : ℕ → ℕ) (xs : List ℕ) (t j v : ℕ) → ((k : ℕ) → k < t → get_or xs k 0 ≡ f k)
    → j ≡ t → j < length xs → v ≡ f t → (k : ℕ) → k < t + 1 → get_or (set xs j v) k 0 ≡ f k
filled_next f xs t j v = holds_next (λ k x. x ≡ f k) xs t j v 0

-- the place of table 00
pub table_first : (layout : Layout) → table_at layout 0 ≡ layout.rows_at
unfolding table_at
table_first layout = add-zero layout.rows_at

-- a function's value at k, where k is below a bound
value_below : (f : ℕ → ℕ) (m k : ℕ)
    → cond (nat_lt k m) (Some (f k)) None ≡ slice_get (map f (range_with_len 0 m)) k
value_below f m k =
    let long = length-map-range_with_len f 0 m in
    elim (cases_lt k m) [
      | inl within ↦
          let test : nat_lt k m ≡ true = grind (arith, nat_tests) in
          let there = slice_get-get_or (map f (range_with_len 0 m)) k 0 (omega arith) in
          let here = get_or-map-range_with_len f 0 m k k 0 within (zero-add k) in
          rw test (sym (there ∙ ap Some here))
      | inr past ↦
          let test : nat_lt k m ≡ false = grind (arith, nat_tests) in
          rw test (sym (slice_get_past (map f (range_with_len 0 m)) k (omega arith)))
    ]

-- the number in a column of a row is that of the row's column
pub number_of_row : (bytes : List ℕ) (layout : Layout) (t n k : ℕ) → number_in_row bytes layout t n k
    ≡ option_and_then (λ row. slice_get row k) (row_of bytes layout t n)
number_of_row bytes layout t n k =
    elim (cases_Bool (has_row layout t n)) [
      | inl there ↦
          let value = value_of bytes layout t (row_at layout t n) in
          rw there (value_below value (length (columns_of t)) k)
      | inr absent ↦ rw absent refl
    ]
