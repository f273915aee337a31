-- How many rows the tables of a module have.
use Rattle.std.proofs.Common.{◌≡◌, ℕ, suc, ◌+◌, ◌<◌, ◌==◌, Bool, true, false, List, [], ◌∷◌, length, if◌then◌else◌, refl, sym, ap, ◌∙◌, ◌≤◌, map, get_or, None, zero-add, subst, inl, inr}
use Rattle.std.specs.List.{sum_by, range_with_len}
use Rattle.std.proofs.lemmas.List.{length-map, get_or_past}
use Rattle.std.proofs.lemmas.List.Concat.{length-flat_map}
use Rattle.std.specs.Prelude.{min, nat_lt}
use Rattle.std.proofs.lemmas.Bool.{cases_lt, ltb-false}
use Rattle.std.proofs.lemmas.List.FromFn.{length-map-range_with_len}
use Rattle.metadata_tables.specs.Layout.{count_of}
use Rattle.image_maker.specs.declared.module.Module.{Module}
use Rattle.image_maker.specs.declared.module.TypeRow.{TypeRow}
use Rattle.image_maker.specs.declared.module.MethodRow.{MethodRow}
use Rattle.image_maker.specs.declared.module.Cell.{Cell}
use Rattle.image_maker.specs.Rows.{field_row, type_rows, method_rows, rows_of, all_fields, all_methods}
use Rattle.image_maker.specs.Sound.{count}
use Rattle.image_maker.specs.Tally.{layout_of, most_rows}
use Rattle.image_maker.specs.Size.{long_table, row_limit}
use Rattle.image_maker.proofs.RangeLemmas.{get_or-map-range, none_passes}

-- methods and types have a row each
pub length_methods : (rva : ℕ → ℕ) (n param : ℕ) (methods : List MethodRow)
    → length (method_rows rva n param methods) ≡ length methods
length_methods rva n param [] = refl
length_methods rva n param (m ∷ methods) = ap suc (length_methods rva (n + 1) (param + m.params) methods)

pub length_types : (field method : ℕ) (types : List TypeRow) → length (type_rows field method types) ≡ length types
length_types field method [] = refl
length_types field method (t ∷ types) = ap suc
    (length_types (field + length t.fields) (method + length t.methods) types)

-- the same number of rows on each side of a test
same_if : (b : Bool) (xs xs' ys ys' : List (List Cell)) → length xs ≡ length xs' → length ys ≡ length ys'
    → length (if b then xs else ys) ≡ length (if b then xs' else ys')
same_if true xs xs' ys ys' x y = x
same_if false xs xs' ys ys' x y = y

module _ (m : Module) where
  same_methods : (rva rva' : ℕ → ℕ)
      → length (method_rows rva 1 1 (all_methods m)) ≡ length (method_rows rva' 1 1 (all_methods m))
  same_methods rva rva' = length_methods rva 1 1 (all_methods m) ∙ sym (length_methods rva' 1 1 (all_methods m))

  -- how many rows a table has does not depend on the RVAs
  pub same_count : (rva : ℕ → ℕ) (t : ℕ) → length (rows_of m rva t) ≡ count m t
  same_count rva t =
      same_if (t == 0x00) _ _ _ _ refl
      (same_if (t == 0x01) _ _ _ _ refl
      (same_if (t == 0x02) _ _ _ _ refl
      (same_if (t == 0x04) _ _ _ _ refl
      (same_if (t == 0x06) _ _ _ _ (same_methods rva (λ n. 0)) refl))))

  pub count_types : count m 0x02 ≡ length m.types
  count_types = length_types 1 1 m.types

  pub count_fields : count m 0x04 ≡ sum_by (λ t. length t.fields) m.types
  count_fields = length-map (all_fields m) field_row ∙ length-flat_map (λ (t : TypeRow). t.fields) m.types

  pub count_methods : count m 0x06 ≡ sum_by (λ t. length t.methods) m.types
  count_methods = length_methods (λ n. 0) 1 1 (all_methods m) ∙ length-flat_map (λ (t : TypeRow). t.methods) m.types

  -- the counts that are written in the layout
  pub counted : (t : ℕ) → t < 45 → count_of (layout_of m) t ≡ count m t
  unfolding layout_of
  counted t within = get_or-map-range (count m) 45 t within

  past : (t : ℕ) → 45 ≤ t → get_or (layout_of m).counts t 0 ≡ 0
  unfolding layout_of
  past t far = get_or_past (map (count m) (range_with_len 0 45)) t 0
      (rw (length-map-range_with_len (count m) 0 45) far)

  pub told : (counts : List ℕ) → length counts ≡ 45 → ((t : ℕ) → t < 45 → get_or counts t 0 ≡ min (count m t) most_rows)
      → (t : ℕ) → get_or counts t 0 ≡ min (get_or (layout_of m).counts t 0) most_rows
  told counts long each t =
      elim (cases_lt t 45) [
        | inl within ↦ each t within ∙ ap (λ n. min n most_rows) (sym (counted t within))
        | inr far ↦ get_or_past counts t 0 (rw long far) ∙ ap (λ n. min n most_rows) (sym (past t far))
      ]

  -- no table has too many rows
  pub not_long : long_table m ≡ None → (t : ℕ) → t < 45 → count m t ≤ 65534
  not_long none t within =
      let e : nat_lt row_limit (count m (0 + t))
      ≡ false = none_passes (λ table. nat_lt row_limit (count m table)) 0 45 t none within in
      subst (λ n. count m n ≤ 65534) (zero-add t) (ltb-false row_limit (count m (0 + t)) e)
