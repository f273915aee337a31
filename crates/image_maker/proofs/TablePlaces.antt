-- What a reader finds in a stream of tables that was written: its layout, and the rows.
use Rattle.std.proofs.Common.{◌≡◌, ℕ, zero, suc, ◌+◌, ◌*◌, ◌^◌, ◌<◌, ◌≤◌, Bool, true, false, not, cond, ◌&&◌, ◌||◌, nat_lt, ⊎_elim, List, [], ◌∷◌, ◌++◌, length, take, drop, map, get_or, None, refl, sym, ap, subst, ◌∙◌, arith, append_assoc, length-take, length-drop, drop_at, take_at, drop-drop, take-append-drop, get_or-drop, w32, w64}
use Rattle.std.specs.Int.{from_le_bytes}
use Rattle.std.specs.List.{list_all, flat_map, range_with_len}
use Rattle.std.proofs.lemmas.Bool.{cases_lt, ltb-false, lt-ltb, le-leb}
use Rattle.std.proofs.lemmas.Nat.{from_le_bytes-to_le_bytes_4, from_le_bytes-to_le_bytes_8}
use Rattle.cli_words.specs.declared.check.CheckCode.TheVariants as code
use Rattle.cli_words.specs.Number.{number_at}
use Rattle.cli_words.specs.Check.{first_fault}
use Rattle.cli_words.specs.declared.span.Span.{Span}
use Rattle.cli_words.specs.Span.{LiesIn, cut}
use Rattle.metadata_tables.specs.declared.layout.Layout.{Layout}
use Rattle.metadata_tables.specs.Layout.{is_set, rows_end}
use Rattle.metadata_tables.specs.Reading.{valid_of, present_below, count_at, count_in, counts_of, layout_of, is_known, has_count, is_allowed, are_allowed, lies_whole, checks}
use Rattle.metadata_tables.proofs.ReadingLemmas.{allowed_next, allowed_all}
use Rattle.image_maker.specs.File.{long, present, bits_of, tables_bytes}
use Rattle.image_maker.proofs.TableBits.{chosen, bits_small, set_below, unset_from, stands_there, counted_to, counted_past}
use Rattle.image_maker.proofs.LengthFile.{counts_length, tables_length}
use Rattle.image_maker.proofs.RangeLemmas.{same_on_range}
use Rattle.image_maker.proofs.PassedChecks.{pass}

-- a table has rows
abbrev pub has_rows : (ℕ → ℕ) → ℕ → Bool
has_rows counts t = nat_lt 0 (counts t)

-- how far behind the begin of the stream its rows are
abbrev pub rows_start : (ℕ → ℕ) → ℕ
rows_start counts = 24 + 4 * length (present counts)

no_rows : (count : ℕ) → nat_lt 0 count ≡ false → count ≡ 0
no_rows count none = let most = ltb-false 0 count none in omega arith

module _ (counts : ℕ → ℕ) where
  abbrev counts_bytes : List ℕ → List ℕ
  counts_bytes tables = flat_map (λ t. long (counts t)) tables

  count_there : (tables rest : List ℕ) (k : ℕ) → k < length tables → counts (get_or tables k 0) < 2 ^ 32
      → from_le_bytes w32 (drop (4 * k) (counts_bytes tables ++ rest)) ≡ counts (get_or tables k 0)
  count_there [] rest k within small = absurd (omega arith)
  count_there (t ∷ tables) rest zero within small = from_le_bytes-to_le_bytes_4 (counts t) small
  count_there (t ∷ tables) rest (suc k) within small =
      let next : 4 * suc k ≡ 4 + 4 * k = omega arith in
      let all = counts_bytes (t ∷ tables) ++ rest in
      ap (λ n. from_le_bytes w32 (drop n all)) next
      ∙ ap (from_le_bytes w32) (sym (drop-drop (4 * k) 4 all))
      ∙ count_there tables rest k (omega arith) small

-- what the stream says of its tables
abbrev pub written_layout : ℕ → (ℕ → ℕ) → Layout
written_layout at counts = record {
  rows_at = at + rows_start counts;
  heap_sizes = 7;
  counts = map counts (range_with_len 0 45);
}

module _ (bytes rows : List ℕ) (span : Span) (counts : ℕ → ℕ) (lies : LiesIn (length bytes) span)
    (written : cut bytes span ≡ tables_bytes counts rows) (small : (t : ℕ) → counts t < 2 ^ 24)
    (known : (t : ℕ) → t < 45 → is_known t ≡ false → counts t ≡ 0) where
  abbrev behind : List ℕ
  behind = drop span.len (drop span.at bytes)

  abbrev all : List ℕ
  all = tables_bytes counts rows ++ behind

  abbrev bits : ℕ
  bits = bits_of (present counts)

  from : (k : ℕ) → drop (span.at + k) bytes ≡ drop k all
  from k =
      sym (drop-drop k span.at bytes)
      ∙ ap (drop k) (sym (take-append-drop span.len (drop span.at bytes)) ∙ ap (λ xs. xs ++ behind) written)

  valid_read : valid_of bytes span.at ≡ bits
  unfolding valid_of
  valid_read =
      let room : bits < 2 ^ 64 = omega (arith, bits_small (has_rows counts) 45) in
      ap (from_le_bytes w64) (from 8) ∙ from_le_bytes-to_le_bytes_8 bits room

  sizes_read : get_or bytes (span.at + 6) 0 ≡ 7
  sizes_read =
      ap (λ n. get_or bytes n 0) (omega arith)
      ∙ sym (get_or-drop (span.at + 6) bytes 0 0)
      ∙ ap (λ xs. get_or xs 0 0) (from 6)

  counts_there : (n : ℕ) → drop (span.at + 24 + n) bytes
      ≡ drop n (counts_bytes counts (present counts) ++ (rows ++ behind))
  counts_there n =
      let place : span.at + 24 + n ≡ span.at + (24 + n) = omega arith in
      ap (λ k. drop k bytes) place
      ∙ from (24 + n)
      ∙ sym (drop-drop n 24 all)
      ∙ ap (drop n) (append_assoc (counts_bytes counts (present counts)) rows behind)

  -- the count of a table that has rows
  count_read : (t : ℕ) → t < 45 → has_rows counts t ≡ true
      → number_at w32 bytes (span.at + 24 + 4 * present_below bits t) ≡ counts t
  count_read t below rowed =
      let k = length (chosen (has_rows counts) t) in
      let stands = stands_there (has_rows counts) 45 t below rowed in
      let fits : counts (get_or (present counts) k 0) < 2 ^ 32 =
      let low = small (get_or (present counts) k 0) in omega arith in
      ap (λ n. number_at w32 bytes (span.at + 24 + 4 * n)) (counted_to (has_rows counts) 45 t (omega arith))
      ∙ ap (from_le_bytes w32) (counts_there (4 * k))
      ∙ count_there counts (present counts) (rows ++ behind) k stands.0 fits
      ∙ ap counts stands.1

  count_is : (t : ℕ) → t < 45 → count_in bytes span.at t ≡ counts t
  count_is t below =
      let here : ℕ → ℕ = λ valid. number_at w32 bytes (span.at + 24 + 4 * present_below valid t) in
      ap (λ valid. cond (is_set valid t) (here valid) 0) valid_read
      ∙ ap (λ b. cond b (here bits) 0) (set_below (has_rows counts) 45 t below)
      ∙ by_test (has_rows counts t) refl
    where
      by_test : (b : Bool) → has_rows counts t ≡ b
          → cond b (number_at w32 bytes (span.at + 24 + 4 * present_below bits t)) 0 ≡ counts t
      by_test true rowed = count_read t below rowed
      by_test false none = sym (no_rows (counts t) none)

  counts_are : counts_of bytes span.at ≡ map counts (range_with_len 0 45)
  unfolding counts_of
  counts_are =
      same_on_range (count_in bytes span.at) counts 0 45 (λ i below. count_is (0 + i) (omega arith))

  rows_place : count_at bytes span.at 64 ≡ span.at + rows_start counts
  rows_place =
      let place : count_at bytes span.at 64 ≡ span.at + 24 + 4 * present_below bits 64 =
      ap (λ valid. span.at + 24 + 4 * present_below valid 64) valid_read in
      omega (arith, place, counted_past (has_rows counts) 45 19)

  pub layout_read : layout_of bytes span.at ≡ written_layout span.at counts
  layout_read =
      let place = rows_place in
      let sizes = sizes_read in
      let counted = counts_are in
      cc

  pub rows_read : take (length rows) (drop (span.at + rows_start counts) bytes) ≡ rows
  rows_read =
      let n = 4 * length (present counts) in
      let place : span.at + rows_start counts ≡ span.at + 24 + n = omega arith in
      let counted = counts_length counts (present counts) in
      ap (λ k. take (length rows) (drop k bytes)) place
      ∙ ap (take (length rows)) (counts_there n
      ∙ drop_at (counts_bytes counts (present counts)) (rows ++ behind) n counted)
      ∙ take_at rows behind (length rows) refl

  -- each table is allowed
  allowed : (t : ℕ) → t < 64 → is_allowed bytes span t ≡ true
  allowed t below = ⊎_elim in_tables past (cases_lt t 45)
    where
      set_is : (b : Bool) → is_set bits t ≡ b → is_set (valid_of bytes span.at) t ≡ b
      set_is b set = ap (λ valid. is_set valid t) valid_read ∙ set

      by_test : (rowed known has fits : Bool) → (rowed ≡ true → known ≡ true) → fits ≡ true
          → (not rowed || (known && (not has || fits))) ≡ true
      by_test false known has fits kept is = refl
      by_test true false has fits kept is = let bad = kept refl in absurd (cc)
      by_test true true false fits kept is = refl
      by_test true true true fits kept is = is

      past : 45 ≤ t → is_allowed bytes span t ≡ true
      past from =
          let fits = nat_lt (count_in bytes span.at t) (2 ^ 24) in
          ap (λ b. not b || (is_known t && (not (has_count bytes span t) || fits)))
          (set_is false (unset_from (has_rows counts) 45 t from))

      kept_known : t < 45 → (b : Bool) → is_known t ≡ b → has_rows counts t ≡ true → b ≡ true
      kept_known less true is rowed = refl
      kept_known less false is rowed =
          let none : has_rows counts t ≡ false = ap (λ n. nat_lt 0 n) (known t less is) in
          absurd (cc)

      in_tables : t < 45 → is_allowed bytes span t ≡ true
      in_tables less =
          let low : count_in bytes span.at t < 2 ^ 24 = subst (λ n. n < 2 ^ 24) (sym (count_is t less)) (small t) in
          let fits = nat_lt (count_in bytes span.at t) (2 ^ 24) in
          let has = has_count bytes span t in
          ap (λ b. not b || (is_known t && (not has || fits))) (set_is _ (set_below (has_rows counts) 45 t less))
          ∙ by_test (has_rows counts t) (is_known t) has fits (kept_known less (is_known t) refl) (lt-ltb _ _ low)

  allowed_to : (n : ℕ) → n ≤ 64 → list_all (is_allowed bytes span) (range_with_len 0 n) ≡ true
  allowed_to zero room = refl
  allowed_to (suc n) room =
      let next : n + 1 ≡ suc n = omega arith in
      ap (λ m. list_all (is_allowed bytes span) (range_with_len 0 m)) (sym next)
      ∙ allowed_next bytes span n (allowed_to n (omega arith)) (allowed n (omega arith))

  pub accepted : rows_end (written_layout span.at counts) ≤ span.at + rows_start counts + length rows
      → first_fault (checks bytes span) ≡ None
  accepted end =
      let fine : are_allowed bytes span ≡ true = allowed_all bytes span 64 refl (allowed_to 64 (omega arith)) in
      let long : span.len ≡ rows_start counts + length rows =
      let part : length (cut bytes span) ≡ span.len =
      omega (arith, length-take span.len (drop span.at bytes), length-drop span.at bytes) in
      omega (arith, ap length written, tables_length counts rows) in
      let ends : rows_end (layout_of bytes span.at) ≡ rows_end (written_layout span.at counts) =
      ap rows_end layout_read in
      let whole : lies_whole bytes span ≡ true = le-leb _ _ (omega arith) in
      pass (are_allowed bytes span) code.Table span.at _ fine (pass (lies_whole bytes span) code.Bounds span.at [] whole refl)
