-- Where counts stand.
use Rattle.std.proofs.Common.{◌≡◌, ℕ, zero, suc, ◌+◌, ◌*◌, ◌<◌, ◌≤◌, Bool, true, false, cond, List, [], ◌∷◌, Some, length, map, get_or, refl, sym, ap, subst, ◌∙◌, arith, add-one, length-append}
use Rattle.std.specs.List.{range_with_len, filter, list_all}
use Rattle.std.proofs.lemmas.Bool.{lt-leb}
use Rattle.std.proofs.lemmas.List.FromFn.{fill_by_all, get_or-range_with_len, length-range_with_len}
use Rattle.std.proofs.lemmas.List.Folds.{list_all_at, list_all-append}
use Rattle.cli_words.specs.declared.span.Span.{Span}
use Rattle.std.proofs.lemmas.List.Elements.{filter-append}
use Rattle.metadata_tables.specs.Tables.{table_count}
use Rattle.metadata_tables.specs.Layout.{is_set}
use Rattle.metadata_tables.specs.Reading.{present_below, count_at, count_in, counts_of, valid_of, is_allowed, are_allowed, layout_of, lies_whole, checks}
use Rattle.metadata_tables.specs.Layout.{rows_end}
use Rattle.cli_words.specs.Check.{check, first_fault}
use Rattle.cli_words.specs.declared.check.CheckCode.TheVariants as code
use Rattle.metadata_tables.proofs.LayoutLemmas.{range_next, rises, table_first, table_rises}

one : (b : Bool) (t : ℕ) → length (cond b (t ∷ []) []) ≡ cond b 1 0
one true t = refl
one false t = refl

pub present_next : (valid t : ℕ)
    → present_below valid (t + 1) ≡ present_below valid t + cond (is_set valid t) 1 0
unfolding present_below
present_next valid t =
    ap (λ ts. length (filter (is_set valid) ts)) (range_next t)
    ∙ ap length (filter-append (is_set valid) (range_with_len 0 t) (t ∷ []))
    ∙ length-append (filter (is_set valid) (range_with_len 0 t)) _
    ∙ ap (λ n. present_below valid t + n) (one (is_set valid t) t)

pub at_most_one : (b : Bool) → cond b 1 0 ≤ 1
at_most_one true = omega arith
at_most_one false = omega arith

pub present_rises : (valid a b : ℕ) → a ≤ b → present_below valid a ≤ present_below valid b
present_rises valid = rises (present_below valid) (λ n. let e = present_next valid n in omega arith)

pub present_none : (valid : ℕ) → present_below valid 0 ≤ 0
unfolding present_below
present_none valid = omega arith

pub present_few : (valid t : ℕ) → present_below valid t ≤ t
present_few valid zero = present_none valid
present_few valid (suc t) =
    let e : present_below valid (t + 1) ≤ t + 1 =
    let next = present_next valid t in
    let one = at_most_one (is_set valid t) in
    let few = present_few valid t in omega arith in
    subst (λ n. present_below valid n ≤ n) (add-one t) e

-- a count that is there ends before what follows the counts
pub count_room : (bytes : List ℕ) (at t : ℕ) → t < 64 → is_set (valid_of bytes at) t ≡ true
    → count_at bytes at t + 4 ≤ count_at bytes at 64
count_room bytes at t below set =
    let next = present_next (valid_of bytes at) t in
    let up = present_rises (valid_of bytes at) (t + 1) 64 (omega arith) in
    let one : cond (is_set (valid_of bytes at) t) 1 0 ≡ 1 =
    ap (λ b. let n : ℕ = cond b 1 0 in n) set in
    omega (arith, next, one)

pub count_near : (bytes : List ℕ) (at t : ℕ) → t < 65 → count_at bytes at t ≤ at + 280
count_near bytes at t below =
    let few = present_few (valid_of bytes at) t in
    omega arith

-- all counts are read
pub counted : (bytes : List ℕ) (at : ℕ) (counts : List ℕ) (n : ℕ) → length counts ≡ n → n ≡ table_count
    → ((k : ℕ) → k < n → get_or counts k 0 ≡ count_in bytes at k) → counts ≡ counts_of bytes at
unfolding counts_of
counted bytes at counts n long all each =
    fill_by_all (count_in bytes at) counts n 0 long each
    ∙ ap (λ m. map (count_in bytes at) (range_with_len 0 m)) all

-- which tables are allowed
module _ (bytes : List ℕ) (stream : Span) where
  abbrev allowed_below : ℕ → Bool
  allowed_below n = list_all (is_allowed bytes stream) (range_with_len 0 n)

  pub refused : (t : ℕ) → t < 64 → is_allowed bytes stream t ≡ false
      → are_allowed bytes stream ≡ false
  unfolding are_allowed
  refused t below bad =
      list_all_at (is_allowed bytes stream) (range_with_len 0 64) t 0
      (rw length-range_with_len below)
      (rw (get_or-range_with_len 0 64 t 0 below) (ap (is_allowed bytes stream) (omega arith) ∙ bad))

  pub allowed_next : (t : ℕ) → allowed_below t ≡ true → is_allowed bytes stream t ≡ true
      → allowed_below (t + 1) ≡ true
  allowed_next t before here =
      ap (list_all (is_allowed bytes stream)) (range_next t)
      ∙ list_all-append (is_allowed bytes stream) (range_with_len 0 t) (t ∷ [])
      ∙ rw (before, here) refl

  pub allowed_all : (n : ℕ) → n ≡ 64 → allowed_below n ≡ true → are_allowed bytes stream ≡ true
  unfolding are_allowed
  allowed_all n all each = ap allowed_below (sym all) ∙ each

-- the fault of a stream whose rows do not lie in it
pub first_bounds : (bytes : List ℕ) (stream : Span) → are_allowed bytes stream ≡ true
    → stream.at + stream.len < rows_end (layout_of bytes stream.at)
    → first_fault (checks bytes stream) ≡ Some (record { code = code.Bounds; at = stream.at })
first_bounds bytes stream fine past =
    let bad : lies_whole bytes stream ≡ false = lt-leb _ _ past in
    rw fine (ap (λ b. first_fault (check b code.Bounds stream.at ∷ [])) bad)

-- the rows stand behind the counts
pub rows_behind : (bytes : List ℕ) (at : ℕ) → count_at bytes at 64 ≤ rows_end (layout_of bytes at)
rows_behind bytes at =
    let first = table_first (layout_of bytes at) in
    let up = table_rises (layout_of bytes at) 0 table_count (omega arith) in
    omega arith

-- the places of counts, one after the other
pub count_first : (bytes : List ℕ) (at : ℕ) → count_at bytes at 0 ≡ at + 24
count_first bytes at = let none = present_none (valid_of bytes at) in omega arith

pub count_next : (bytes : List ℕ) (at t : ℕ)
    → count_at bytes at (t + 1) ≡ count_at bytes at t + 4 * cond (is_set (valid_of bytes at) t) 1 0
count_next bytes at t = let next = present_next (valid_of bytes at) t in omega arith
