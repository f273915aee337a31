-- The table of columns.
use Rattle.std.proofs.Common.{ℕ, ◌≤◌, [], length, inl, inr, arith, lit≤, ltb-true}
use Rattle.std.specs.Prelude.{nat_lt}
use Rattle.std.proofs.lemmas.Bool.{cases_Bool, cases_lt}
use Rattle.std.proofs.lemmas.List.{get_or_past}
use Rattle.std.proofs.lemmas.List.Folds.{list_all_at}
use Rattle.metadata_tables.specs.Columns.{tables, columns_of}

-- no table has more than nine columns
pub short : (t : ℕ) → length (columns_of t) ≤ 9
unfolding columns_of
short t =
    elim (cases_lt t (length tables)) [
      | inl h ↦ elim (cases_Bool (nat_lt (length (columns_of t)) 10)) [
        | inl e ↦ omega (arith, ltb-true (length (columns_of t)) 10 e)
        | inr e ↦ let f = list_all_at (λ cs. nat_lt (length cs) 10) tables t [] h e in cc
      ]
      | inr h ↦ rw (get_or_past tables t [] h) (lit≤ tt)
    ]
