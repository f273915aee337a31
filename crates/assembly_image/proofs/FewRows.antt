-- An image that is read has fewer than 2^24 rows in each table.
use Rattle.std.proofs.Common.{◌≡◌, ℕ, ◌+◌, ◌^◌, ◌<◌, ◌≤◌, ◌⊎◌, inl, inr, slice_index, Bool, not, ◌&&◌, ◌||◌, true, false, cond, List, [], ◌∷◌, None, refl, sym, ap, subst, ◌∙◌, arith}
use Rattle.std.specs.Int.{w32}
use Rattle.std.proofs.lemmas.Bool.{le-leb, ltb-true, leb-true, cases_lt, true_from_ne_false, false≢true}
use Rattle.std.proofs.lemmas.List.{get_or_past}
use Rattle.std.proofs.lemmas.List.FromFn.{get_or-map-range_with_len, length-map-range_with_len}
use Rattle.cli_words.specs.Check.{check, first_fault}
use Rattle.cli_words.specs.Number.{number_at}
use Rattle.cli_words.specs.declared.check.CheckCode.TheVariants as code
use Rattle.cli_words.specs.declared.span.Span.{Span}
use Rattle.metadata_tables.specs.Tables.{table_count}
use Rattle.metadata_tables.specs.Layout.{count_of, is_set, rows_end}
use Rattle.metadata_tables.specs.Reading.{valid_of, count_at, count_in, counts_of, is_known, has_count, is_allowed, are_allowed, layout_of, lies_whole, checks}
use Rattle.metadata_tables.proofs.ReadingLemmas.{count_room, refused, rows_behind}

-- counts that are allowed and lie whole are below 2^24
module _ (bytes : List ℕ) (stream : Span)
    (all : are_allowed bytes stream ≡ true)
    (whole : count_at bytes stream.at 64 ≤ stream.at + stream.len) where
  abbrev valid : ℕ
  valid = valid_of bytes stream.at

  last : (a b c d : Bool) → a ≡ true → c ≡ true → (not a || (b && (not c || d))) ≡ true → d ≡ true
  last true true true d set there e = e
  last true false true d set there e = absurd (false≢true e)
  last false b c d set there e = absurd (false≢true set)
  last true b false d set there e = absurd (false≢true there)

  allowed : (t : ℕ) → t < 64 → is_allowed bytes stream t ≡ true
  allowed t below = true_from_ne_false (is_allowed bytes stream t)
      (λ bad. false≢true (sym (refused bytes stream t below bad) ∙ all))

  few_if : (t : ℕ) → t < 64 → (b : Bool) → is_set valid t ≡ b → count_in bytes stream.at t < 2 ^ 24
  few_if t below true set =
      let room = count_room bytes stream.at t below set in
      ltb-true _ _ (last (is_set valid t) (is_known t) (has_count bytes stream t) _ set
      (le-leb _ _ (omega arith)) (allowed t below))
  few_if t below false unset = subst (λ n. n < 2 ^ 24) (sym (ap (λ b. let n : ℕ = cond b (number_at w32 bytes (count_at bytes stream.at t)) 0 in n) unset)) (omega arith)

  few_at : (table : ℕ) → (table < table_count) ⊎ (table_count ≤ table)
      → slice_index (counts_of bytes stream.at) table < 2 ^ 24
  unfolding counts_of
  few_at table (inl below) =
      subst (λ n. n < 2 ^ 24)
      (sym (get_or-map-range_with_len (count_in bytes stream.at) 0 table_count table table 0 below (omega arith)))
      (few_if table (omega arith) (is_set valid table) refl)
  few_at table (inr past) =
      subst (λ n. n < 2 ^ 24)
      (sym (get_or_past (counts_of bytes stream.at) table 0
      (rw (length-map-range_with_len (count_in bytes stream.at) 0 table_count) past)))
      (omega arith)

  few_rows : (table : ℕ) → count_of (layout_of bytes stream.at) table < 2 ^ 24
  few_rows table = few_at table (cases_lt table table_count)

both_pass : (a b : Bool) (at : ℕ) → first_fault (check a code.Table at ∷ check b code.Bounds at ∷ []) ≡ None
    → (a ≡ true) × (b ≡ true)
both_pass true true at e = (refl, refl)
both_pass true false at e = absurd (cc)
both_pass false b at e = absurd (cc)

pub few_if_pass : (bytes : List ℕ) (stream : Span) → first_fault (checks bytes stream) ≡ None
    → (table : ℕ) → count_of (layout_of bytes stream.at) table < 2 ^ 24
few_if_pass bytes stream pass =
    let parts = both_pass (are_allowed bytes stream) (lies_whole bytes stream) stream.at pass in
    let end : rows_end (layout_of bytes stream.at) ≤ stream.at + stream.len = leb-true _ _ parts.1 in
    let behind = rows_behind bytes stream.at in
    few_rows bytes stream parts.0 (omega arith)
