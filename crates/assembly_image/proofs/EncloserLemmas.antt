-- The rows of NestedClass, from the last to the first.
use Rattle.std.proofs.Common.{◌≡◌, ℕ, ◌+◌, ◌-◌, ◌<◌, ◌==◌, true, false, List, ◌∷◌, length, replicate, Some, cond, refl, sym, ap, subst, ◌∙◌, add-one, arith, inl, inr}
use Rattle.std.proofs.lemmas.Bool.{cases_Bool}
use Rattle.std.proofs.lemmas.Bool.Decides.{nat_tests}
use Rattle.std.proofs.lemmas.List.{get_or-replicate}
use Rattle.std.proofs.lemmas.Option.{slice_get-get_or}
use Rattle.std.specs.List.{range_with_len, slice_index, slice_get}
use Rattle.std.specs.Option.{unwrap_or}
use Rattle.metadata_tables.specs.Columns.{columns_of, column_of}
use Rattle.assembly_image.specs.Cells.{holds_number}
use Rattle.assembly_image.specs.Module.{Module, count, number}
use Rattle.assembly_image.specs.Names.{encloser, encloser_before, has_type}
use Rattle.assembly_image.specs.Image.{outer_among, AreOuter, IsEnclosed}

-- the two columns of NestedClass
pub nested_columns : (0 < length (columns_of 0x29)) × (holds_number (column_of 0x29 0) ≡ true)
    × (1 < length (columns_of 0x29)) × (holds_number (column_of 0x29 1) ≡ true)
unfolding columns_of
nested_columns = (omega arith, refl, omega arith, refl)

-- so many rows after the first of the last ones
pub rows_next : (rows after : ℕ) → after < rows
    → range_with_len (rows - (after + 1) + 1) (after + 1) ≡ (rows - after) ∷ range_with_len (rows - after + 1) after
rows_next rows after h =
    let first : rows - (after + 1) + 1 ≡ rows - after = omega arith in
    ap (range_with_len (rows - (after + 1) + 1)) (add-one after)
    ∙ ap (λ (a : ℕ). a ∷ range_with_len (a + 1) after) first

rows_all : (rows after : ℕ) → after ≡ rows → range_with_len (rows - after + 1) after ≡ range_with_len 1 rows
rows_all rows after e =
    let first : rows - after + 1 ≡ 1 = omega arith in
    ap (λ (a : ℕ). range_with_len a after) first ∙ ap (range_with_len 1) e

module _ (m : Module) where
  -- one more row before those that count
  outer_next : (row n : ℕ) (ns : List ℕ) (nested enclosing : ℕ) → nested ≡ number m 0x29 n 0 → enclosing ≡ number m 0x29 n 1
      → (o : ℕ) → o ≡ cond (nested == row) (unwrap_or (encloser_before row enclosing) 0) (outer_among m row ns)
      → o ≡ outer_among m row (n ∷ ns)
  outer_next row n ns nested enclosing a b o e =
      elim (cases_Bool (number m 0x29 n 0 == row)) as (λ _. o ≡ outer_among m row (n ∷ ns)) [
        | inl h ↦
            let here : (nested == row) ≡ true = ap (λ (x : ℕ). x == row) a ∙ h in
            let step : o ≡ unwrap_or (encloser_before row enclosing) 0 = rw here at e in
            rw h (step ∙ ap (λ (x : ℕ). unwrap_or (encloser_before row x) 0) b)
        | inr h ↦
            let here : (nested == row) ≡ false = ap (λ (x : ℕ). x == row) a ∙ h in
            let step : o ≡ outer_among m row ns = rw here at e in
            rw h step
      ]

  pub are_outer_next : (n : ℕ) (ns old new : List ℕ) (nested enclosing : ℕ) → nested ≡ number m 0x29 n 0 → enclosing ≡ number m 0x29 n 1
      → AreOuter m ns old → IsEnclosed old new nested enclosing → AreOuter m (n ∷ ns) new
  are_outer_next n ns old new nested enclosing a b before step = record {
    long = step.long ∙ before.long;
    each = λ row h.
        let within : row < length old = subst (λ (l : ℕ). row < l) (sym before.long) h in
        outer_next (row + 1) n ns nested enclosing a b _
        (step.each row within ∙ ap (λ (x : ℕ). cond (nested == row + 1) (unwrap_or (encloser_before (row + 1) enclosing) 0) x) (before.each row h));
  }

  -- none yet
  pub are_outer_first : (types rows : ℕ) → types ≡ count m 0x02 → (outer : List ℕ) → outer ≡ replicate types 0 → length outer ≡ types
      → AreOuter m (range_with_len (rows - 0 + 1) 0) outer
  are_outer_first types rows t outer zeros long = record {
    long = long ∙ t;
    each = λ row h.
        let within : row < types = subst (λ (l : ℕ). row < l) (sym t) h in
        ap (λ (xs : List ℕ). slice_index xs row) zeros ∙ get_or-replicate types row 0 0 within;
  }

  -- all of them
  pub are_all : (rows after : ℕ) (outer : List ℕ) → after ≡ rows → rows ≡ count m 0x29 → AreOuter m (range_with_len (rows - after + 1) after) outer
      → (row : ℕ) → row < count m 0x02 → slice_get outer row ≡ Some (unwrap_or (encloser m (row + 1)) 0)
  are_all rows after outer e r told row h =
      let there : has_type m (row + 1) ≡ true = grind (arith, nat_tests) in
      let all = rows_all rows after e ∙ ap (range_with_len 1) r in
      let here : unwrap_or (encloser m (row + 1)) 0 ≡ outer_among m (row + 1) (range_with_len 1 (count m 0x29)) = rw there refl in
      let within : row < length outer = subst (λ (l : ℕ). row < l) (sym told.long) h in
      slice_get-get_or outer row 0 within
      ∙ ap Some (told.each row h ∙ ap (outer_among m (row + 1)) all ∙ sym here)
