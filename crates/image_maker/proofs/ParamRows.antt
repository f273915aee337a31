-- The rows of Param that methods have, one method after the other.
use Rattle.std.proofs.Common.{◌≡◌, ℕ, ◌+◌, ◌<◌, Bool, true, false, ◌&&◌, List, [], ◌∷◌, ◌++◌, length, get_or, drop, Option, sym, ap, ◌∙◌, add_assoc, add-zero}
use Rattle.std.specs.Prelude.{nat_le}
use Rattle.std.specs.List.{flat_map, sum_by}
use Rattle.std.proofs.Math.Bool.{and_assoc}
use Rattle.std.proofs.lemmas.List.Sums.{sum_by-cons}
use Rattle.image_maker.specs.declared.module.MethodRow.{MethodRow}
use Rattle.image_maker.specs.declared.module.TypeRow.{TypeRow}
use Rattle.image_maker.specs.Params.{are_within, left_of}
use Rattle.image_maker.proofs.ListSteps.{drop_next}

-- how many rows methods have
abbrev pub params_of : List MethodRow → ℕ
params_of methods = sum_by (λ m. m.params) methods

pub params_cons : (m : MethodRow) (methods : List MethodRow) → params_of (m ∷ methods) ≡ m.params + params_of methods
params_cons m methods = sum_by-cons (λ (x : MethodRow). x.params) m methods

abbrev methods_in : List TypeRow → List MethodRow
methods_in types = flat_map (λ t. t.methods) types

-- so many rows are left before the rest of the methods, and the rest passes where all methods do
pub record Within (rows start : ℕ) (methods : List MethodRow) (left : Option ℕ) (rest : List MethodRow) : Type 0 where
  pub before : ℕ
  pub left_is : left ≡ left_of rows before
  pub kept : are_within rows before rest ≡ are_within rows start methods

-- so many rows are left before the rest of the types, and the rest passes where all types do
pub record TypesWithin (rows : ℕ) (types : List TypeRow) (left : Option ℕ) (rest : List TypeRow) : Type 0 where
  pub before : ℕ
  pub left_is : left ≡ left_of rows before
  pub kept : are_within rows before (methods_in rest) ≡ are_within rows 0 (methods_in types)

pub both_within : (rows before : ℕ) (xs ys : List MethodRow)
    → are_within rows before (xs ++ ys) ≡ (are_within rows before xs && are_within rows (before + params_of xs) ys)
both_within rows before [] ys = ap (λ n. are_within rows n ys) (sym (add-zero before))
both_within rows before (m ∷ xs) ys =
    let total : before + m.params + params_of xs
    ≡ before + params_of (m ∷ xs) = rw (params_cons m xs)
    (add_assoc before m.params (params_of xs)) in
    ap (λ b. nat_le before rows && b) (both_within rows (before + m.params) xs ys
    ∙ ap (λ n. are_within rows (before + m.params) xs && are_within rows n ys) total)
    ∙ sym (and_assoc (nat_le before rows) (are_within rows (before + m.params) xs)
    (are_within rows (before + params_of (m ∷ xs)) ys))

module _ (rows : ℕ) (types : List TypeRow) (left : Option ℕ) (i : ℕ) (item : TypeRow) (within : i < length types)
    (is : item ≡ get_or types i item)
    (told : TypesWithin rows types left (drop i types)) where
  parted : (are_within rows told.before item.methods
      && are_within rows (told.before + params_of item.methods) (methods_in (drop (i + 1) types)))
      ≡ are_within rows 0 (methods_in types)
  parted =
      sym (both_within rows told.before item.methods (methods_in (drop (i + 1) types)))
      ∙ sym (ap (λ ts. are_within rows told.before (methods_in ts)) (drop_next types i item within is))
      ∙ told.kept

  pub types_stop : (result : Bool) → result ≡ are_within rows told.before item.methods → result ≡ false
      → false ≡ are_within rows 0 (methods_in types)
  types_stop result e bad =
      sym (ap (λ b. b && are_within rows (told.before + params_of item.methods) (methods_in (drop (i + 1) types)))
      (sym e ∙ bad)) ∙ parted

  pub types_go_on : (result : Bool) (next : Option ℕ) → result ≡ are_within rows told.before item.methods
      → result ≡ true
      → next ≡ left_of rows (told.before + params_of item.methods) → TypesWithin rows types next (drop (i + 1) types)
  types_go_on result next e good after = record {
    before = told.before + params_of item.methods;
    left_is = after;
    kept =
        sym (ap (λ b. b && are_within rows (told.before + params_of item.methods) (methods_in (drop (i + 1) types)))
        (sym e ∙ good)) ∙ parted;
  }
