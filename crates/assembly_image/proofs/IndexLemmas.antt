-- The index of rows by what stands in a column, and the way along its chains.
use Rattle.std.proofs.Common.{◌≡◌, ℕ, zero, suc, ◌+◌, ◌-◌, ◌<◌, ◌≤◌, ◌==◌, ◌&&◌, nat_lt, true, false, List, [], ◌∷◌, ◌++◌, length, slice_index, replicate, refl, sym, ap, subst, ◌∙◌, arith, inl, inr, append-nil, append_assoc, if◌then◌else◌}
use Rattle.std.proofs.lemmas.Bool.{cases_Bool, cases_lt, eqb-true}
use Rattle.std.proofs.lemmas.Bool.Decides.{nat_tests}
use Rattle.std.proofs.lemmas.List.{get_or-replicate}
use Rattle.std.specs.List.{filter, range_with_len}
use Rattle.metadata_tables.specs.Columns.{columns_of, column_of}
use Rattle.assembly_image.specs.declared.index.Belongs.{Belongs}
use Rattle.assembly_image.specs.declared.index.Belongs.TheVariants.{Interface, Implementation, Parameter}
use Rattle.assembly_image.specs.Cells.{holds_number}
use Rattle.assembly_image.specs.Index.{table_by, column_by, value_by, first_at, IsIndex, IsLinked}
use Rattle.assembly_image.proofs.EncloserLemmas.{rows_next}

-- a row at which the number stands, and one at which another does, in front of others
module _ (at : ℕ → ℕ) (value row : ℕ) (rest : List ℕ) where
  first_hit : (at row == value) ≡ true → first_at at value (row ∷ rest) ≡ row
  first_hit h = rw h refl

  first_miss : (at row == value) ≡ false → first_at at value (row ∷ rest) ≡ first_at at value rest
  first_miss h = rw h refl

  filter_hit : (at row == value) ≡ true → filter (λ n. at n == value) (row ∷ rest) ≡ row ∷ filter (λ n. at n == value) rest
  filter_hit h = rw h refl

  filter_miss : (at row == value) ≡ false → filter (λ n. at n == value) (row ∷ rest) ≡ filter (λ n. at n == value) rest
  filter_miss h = rw h refl

  first_step : (old o : ℕ) → old ≡ first_at at value rest → o ≡ (if at row == value then row else old)
      → o ≡ first_at at value (row ∷ rest)
  first_step old o before e =
      elim (cases_Bool (at row == value)) [
        | inl h ↦ (let here : o ≡ row = rw h at e in here ∙ sym (first_hit h))
        | inr h ↦ (let here : o ≡ old = rw h at e in here ∙ before ∙ sym (first_miss h))
      ]

module _ (at : ℕ → ℕ) (limit rows : ℕ) where
  -- no row yet
  pub index_first : (first next : List ℕ) → first ≡ replicate limit 0 → length first ≡ limit → length next ≡ rows
      → IsIndex at limit rows 0 first next
  index_first first next zeros values long = record {
    values = values;
    long = long;
    firsts = λ v h. ap (λ (xs : List ℕ). slice_index xs v) zeros ∙ get_or-replicate limit v 0 0 h;
    nexts = λ n low high small. absurd (omega (arith, low, high));
  }

  -- one more row
  module _ (after value : ℕ) (first first' next next' : List ℕ) (h : after < rows) (is : value ≡ at (rows - after))
      (before : IsIndex at limit rows after first next) (step : IsLinked first first' next next' (rows - after) value) where
    abbrev row : ℕ
    row = rows - after

    more_firsts : (v : ℕ) → v < limit → slice_index first' v ≡ first_at at v (range_with_len (rows - (after + 1) + 1) (after + 1))
    more_firsts v small =
        let within : v < length first = subst (λ (l : ℕ). v < l) (sym before.values) small in
        let now : slice_index first' v ≡ (if at row == v then row else slice_index first v) =
        step.firsts v within ∙ ap (λ (x : ℕ). if x == v then row else slice_index first v) is in
        first_step at v row (range_with_len (row + 1) after) (slice_index first v) _ (before.firsts v small) now
        ∙ ap (first_at at v) (sym (rows_next rows after h))

    more_nexts : (n : ℕ) → rows - (after + 1) < n → n ≤ rows → at n < limit
        → slice_index next' (n - 1) ≡ first_at at (at n) (range_with_len (n + 1) (rows - n))
    more_nexts n low high small =
        let within : n - 1 < length next = subst (λ (l : ℕ). n - 1 < l) (sym before.long) (omega (arith, low, high)) in
        let told = step.nexts (n - 1) within in
        elim (cases_lt row n) [
          | inl later ↦ (
              let other : ((n - 1 + 1 == row) && nat_lt value (length first)) ≡ false =
              (let apart : (n - 1 + 1 == row) ≡ false = grind (arith, nat_tests) in rw apart refl) in
              let kept : slice_index next' (n - 1) ≡ slice_index next (n - 1) = rw other at told in
              kept ∙ before.nexts n later high small)
          | inr here ↦ (
              let same : n ≡ row = omega (arith, low, here) in
              let known : value < length first =
              subst (λ (l : ℕ). value < l) (sym before.values)
              (subst (λ (x : ℕ). x < limit) (sym is) (subst (λ (k : ℕ). at k < limit) same small)) in
              let hit : ((n - 1 + 1 == row) && nat_lt value (length first)) ≡ true =
              (let this : (n - 1 + 1 == row) ≡ true = grind (arith, nat_tests) in
              let low : nat_lt value (length first) ≡ true = grind (arith, nat_tests) in rw (this, low) refl) in
              let put : slice_index next' (n - 1) ≡ slice_index first value = rw hit at told in
              let long : after ≡ rows - n = omega (arith, same, h) in
              put ∙ before.firsts value (subst (λ (l : ℕ). value < l) before.values known)
              ∙ ap (λ (x : ℕ). first_at at x (range_with_len (row + 1) after)) (is ∙ ap at (sym same))
              ∙ ap (λ (k : ℕ). first_at at (at n) (range_with_len (k + 1) after)) (sym same)
              ∙ ap (λ (k : ℕ). first_at at (at n) (range_with_len (n + 1) k)) long)
        ]

    pub index_next : IsIndex at limit rows (after + 1) first' next'
    index_next = record {
      values = step.values ∙ before.values;
      long = step.long ∙ before.long;
      firsts = more_firsts;
      nexts = more_nexts;
    }

-- along a chain: the row that is reached, and the rows after it at which the same number stands
module _ (at : ℕ → ℕ) (value rows : ℕ) where
  abbrev pub left_of : ℕ → List ℕ
  left_of n = if n == 0 then [] else n ∷ filter (λ j. at j == value) (range_with_len (n + 1) (rows - n))

  pub record IsReached (first : ℕ) (found : List ℕ) (n : ℕ) : Type 0 where
    pub left : left_of n ≡ found
    pub most : n ≤ rows
    pub same : 0 < n → at n ≡ value
    pub later : 0 < n → first ≤ n

  pub reached : (first len : ℕ) → 1 ≤ first → first + len ≡ rows + 1
      → IsReached first (filter (λ j. at j == value) (range_with_len first len)) (first_at at value (range_with_len first len))
  reached first zero some e = record {
    left = refl;
    most = omega arith;
    same = λ h. absurd (omega (arith, h));
    later = λ h. absurd (omega (arith, h));
  }
  reached first (suc len) some e =
      let rest = range_with_len (first + 1) len in
      elim (cases_Bool (at first == value)) as (λ _. IsReached first (filter (λ j. at j == value) (first ∷ rest)) (first_at at value (first ∷ rest))) [
        | inl h ↦ (
            let more : (first == 0) ≡ false = grind (arith, nat_tests) in
            let long : rows - first ≡ len = omega (arith, e) in
            let here : IsReached first (filter (λ j. at j == value) (first ∷ rest)) first = record {
              left = (rw more refl) ∙ ap (λ (k : ℕ). first ∷ filter (λ j. at j == value) (range_with_len (first + 1) k)) long
                  ∙ sym (filter_hit at value first rest h);
              most = omega (arith, e);
              same = λ _. eqb-true (at first) value h;
              later = λ _. omega arith;
            } in
            subst (λ (n : ℕ). IsReached first (filter (λ j. at j == value) (first ∷ rest)) n) (sym (first_hit at value first rest h)) here)
        | inr h ↦ (
            let on = reached (first + 1) len (omega arith) (omega (arith, e)) in
            let n = first_at at value rest in
            let here : IsReached first (filter (λ j. at j == value) (first ∷ rest)) n = record {
              left = on.left ∙ sym (filter_miss at value first rest h);
              most = on.most;
              same = on.same;
              later = λ some'. (let up = on.later some' in omega (arith, up));
            } in
            subst (λ (n : ℕ). IsReached first (filter (λ j. at j == value) (first ∷ rest)) n) (sym (first_miss at value first rest h)) here)
      ]

  -- the rows so far, and the row that is reached
  pub record IsWalked (walked : List ℕ) (n : ℕ) : Type 0 where
    pub all : walked ++ left_of n ≡ filter (λ j. at j == value) (range_with_len 1 rows)
    pub most : n ≤ rows
    pub same : 0 < n → at n ≡ value

  pub walk_first : (n : ℕ) → n ≡ first_at at value (range_with_len (rows - rows + 1) rows) → IsWalked [] n
  walk_first n e =
      let one : rows - rows + 1 ≡ 1 = omega arith in
      let there = reached 1 rows (omega arith) (omega arith) in
      let is : n ≡ first_at at value (range_with_len 1 rows) = e ∙ ap (λ (k : ℕ). first_at at value (range_with_len k rows)) one in
      subst (IsWalked []) (sym is) (record { all = there.left; most = there.most; same = there.same })

  pub walk_next : (walked : List ℕ) (n next : ℕ) → 0 < n → IsWalked walked n
      → next ≡ first_at at (at n) (range_with_len (n + 1) (rows - n))
      → IsWalked (walked ++ n ∷ []) next × (0 < next → n < next)
  walk_next walked n next some now e =
      let most = now.most in
      let there = reached (n + 1) (rows - n) (omega arith) (omega (arith, most)) in
      let is : next ≡ first_at at value (range_with_len (n + 1) (rows - n)) =
      e ∙ ap (λ (v : ℕ). first_at at v (range_with_len (n + 1) (rows - n))) (now.same some) in
      let more : (n == 0) ≡ false = grind (arith, nat_tests) in
      let front : left_of n ≡ n ∷ filter (λ j. at j == value) (range_with_len (n + 1) (rows - n)) = rw more refl in
      let found = first_at at value (range_with_len (n + 1) (rows - n)) in
      let here : IsWalked (walked ++ n ∷ []) found × (0 < found → n < found) = (
        record {
          all = append_assoc walked (n ∷ []) (left_of found)
              ∙ ap (λ (xs : List ℕ). walked ++ (n ∷ xs)) there.left ∙ ap (λ (xs : List ℕ). walked ++ xs) (sym front) ∙ now.all;
          most = there.most;
          same = there.same;
        },
        λ h. (let up = there.later h in omega (arith, up)),
      ) in
      subst (λ (k : ℕ). IsWalked (walked ++ n ∷ []) k × (0 < k → n < k)) (sym is) here

  pub walk_end : (walked : List ℕ) (n : ℕ) → n ≡ 0 → IsWalked walked n → walked ≡ filter (λ j. at j == value) (range_with_len 1 rows)
  walk_end walked n none now =
      let end : left_of n ≡ [] = ap left_of none in
      sym (append-nil walked) ∙ ap (λ (xs : List ℕ). walked ++ xs) (sym end) ∙ now.all

-- the tables are known, and their columns hold numbers
pub table_known : (by : Belongs) → table_by by < 45
table_known Interface = omega arith
table_known Implementation = omega arith
table_known Parameter = omega arith

pub column_known : (by : Belongs) → (column_by by < length (columns_of (table_by by))) × (holds_number (column_of (table_by by) (column_by by)) ≡ true)
unfolding columns_of
column_known Interface = (omega arith, refl)
column_known Implementation = (omega arith, refl)
column_known Parameter = (omega arith, refl)

-- a type's own value is below the limit
pub value_small : (by : Belongs) (row types : ℕ) → row ≤ types → value_by by row < value_by by types + 1
value_small Interface row types h = omega (arith, h)
value_small Implementation row types h = omega (arith, h)
value_small Parameter row types h = omega (arith, h)

-- each step along a chain leaves less of it
pub walk_shorter : (next n rows : ℕ) → 0 < n → n ≤ rows → (0 < next → n < next) → next ≤ rows
    → (if next == 0 then 0 else rows + 1 - next) < (if n == 0 then 0 else rows + 1 - n)
walk_shorter next n rows some most up far =
    let more : (n == 0) ≡ false = grind (arith, nat_tests) in
    let goal : (if next == 0 then 0 else rows + 1 - next) < rows + 1 - n =
    elim (cases_Bool (next == 0)) as (λ _. (if next == 0 then 0 else rows + 1 - next) < rows + 1 - n) [
      | inl h ↦ rw h (omega (arith, most))
      | inr h ↦ (let above : 0 < next = grind (arith, nat_tests) in let later = up above in rw h (omega (arith, later, far)))
    ] in
    rw more goal
