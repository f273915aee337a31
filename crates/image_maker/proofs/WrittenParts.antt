-- The parts that are written of a module are those of its image.
use Rattle.std.proofs.Common.{◌≡◌, ℕ, zero, suc, ◌+◌, ◌<◌, Bool, true, false, List, [], ◌∷◌, ◌++◌, length, map, filter, slice_index, nat_lt, cond, refl, sym, ap, ◌∙◌, arith, append_assoc}
use Rattle.std.specs.List.{flat_map, range_with_len}
use Rattle.std.specs.Int.{w64, to_le_bytes}
use Rattle.std.proofs.lemmas.Grind.{same_number_lists}
use Rattle.std.proofs.lemmas.List.FromFn.{length-map-range_with_len}
use Rattle.metadata_tables.specs.declared.layout.Layout.{Layout}
use Rattle.image_maker.specs.declared.module.Module.{Module}
use Rattle.image_maker.specs.declared.writer.Writer.{Writer}
use Rattle.image_maker.specs.Sound.{count}
use Rattle.image_maker.specs.Written.{strings_of}
use Rattle.image_maker.specs.File.{known_parts, padded, tables_bytes, long, present, bits_of}
use Rattle.image_maker.specs.Whole.{IsReady, cells_in, tables_in, streams_of}
use Rattle.image_maker.proofs.RangeLemmas.{get_or-map-range}

-- a list of 45 numbers, each of which a function gives
pub same_counts : (counts : List ℕ) (g : ℕ → ℕ) → length counts ≡ 45
    → ((t : ℕ) → t < 45 → slice_index counts t ≡ g t) → counts ≡ map g (range_with_len 0 45)
same_counts counts g whole each =
    same_number_lists counts (map g (range_with_len 0 45)) (whole ∙ sym (length-map-range_with_len g 0 45))
    (λ k within.
    let below : k < 45 = omega (arith, within, whole) in
    each k below ∙ sym (get_or-map-range g 45 k below))

-- functions that agree on some numbers give the same bytes for those of them that pass a test
same_filtered : (p : ℕ → Bool) (f g : ℕ → List ℕ) (first n : ℕ)
    → ((t : ℕ) → t < first + n → f t ≡ g t)
    → flat_map f (filter p (range_with_len first n)) ≡ flat_map g (filter p (range_with_len first n))
same_filtered p f g first zero each = refl
same_filtered p f g first (suc n) each =
    let later = same_filtered p f g (first + 1) n (λ t below. each t (omega arith)) in
    by_test (p first) refl later (each first (omega arith))
  where
    by_test : (b : Bool) → p first ≡ b
        → flat_map f (filter p (range_with_len (first + 1) n)) ≡ flat_map g (filter p (range_with_len (first + 1) n))
        → f first ≡ g first
        → flat_map f (filter p (range_with_len first (suc n))) ≡ flat_map g (filter p (range_with_len first (suc n)))
    by_test true e later here = rw e (cc)
    by_test false e later here = rw e later

-- and pass the same numbers, where they are tested for rows
same_present : (f g : ℕ → ℕ) (first n : ℕ) → ((t : ℕ) → t < first + n → f t ≡ g t)
    → filter (λ t. nat_lt 0 (f t)) (range_with_len first n) ≡ filter (λ t. nat_lt 0 (g t)) (range_with_len first n)
same_present f g first zero each = refl
same_present f g first (suc n) each =
    let later = same_present f g (first + 1) n (λ t below. each t (omega arith)) in
    let here : f first ≡ g first = each first (omega arith) in
    let rest : List ℕ = filter (λ t. nat_lt 0 (f t)) (range_with_len (first + 1) n) in
    ap (λ (k : ℕ). cond (nat_lt 0 k) (first ∷ rest) rest) here
    ∙ ap (λ (ts : List ℕ). cond (nat_lt 0 (g first)) (first ∷ ts) ts) later

-- the stream of tables, where these tables have rows, up to the counts of rows
abbrev before_counts : (tables rest : List ℕ) → List ℕ
before_counts tables rest =
    long 0 ++ ((2 ∷ 0 ∷ 7 ∷ 1 ∷ []) ++ (to_le_bytes w64 (bits_of tables) ++ (to_le_bytes w64 0 ++ rest)))

-- functions that agree on the tables give the same stream
pub same_tables : (f g : ℕ → ℕ) (rows : List ℕ) → ((t : ℕ) → t < 45 → f t ≡ g t)
    → tables_bytes f rows ≡ tables_bytes g rows
same_tables f g rows each =
    ap (λ (tables : List ℕ). before_counts tables (flat_map (λ t. long (f t)) tables ++ rows))
    (same_present f g 0 45 each)
    ∙ ap (λ (counts : List ℕ). before_counts (present g) (counts ++ rows))
    (same_filtered (λ t. nat_lt 0 (g t)) (λ t. long (f t)) (λ t. long (g t)) 0 45 (λ t below. ap long (each t below)))

-- bytes after the stream are bytes after its rows
pub tables_more : (counts : ℕ → ℕ) (rows after : List ℕ)
    → tables_bytes counts rows ++ after ≡ tables_bytes counts (rows ++ after)
tables_more counts rows after =
    ap (before_counts (present counts)) (append_assoc (flat_map (λ t. long (counts t)) (present counts)) rows after)

-- the streams of a module, by what a writer holds and the module gives
module _ (m : Module) (writer : Writer) (ready : IsReady m writer) where
  abbrev pub tables_with : List ℕ → List ℕ
  tables_with rows = padded 4 (tables_bytes (λ t. slice_index writer.layout.counts t) rows)

  count_is : (t : ℕ) → t < 45 → slice_index writer.layout.counts t ≡ count m t
  count_is t below =
      ap (λ (l : Layout). slice_index l.counts t) ready.layout ∙ get_or-map-range (count m) 45 t below

  ready_tables : tables_with writer.rows.items ≡ padded 4 (tables_in m)
  ready_tables =
      ap (padded 4)
      (same_tables (λ t. slice_index writer.layout.counts t) (count m) writer.rows.items count_is
      ∙ ap (tables_bytes (count m)) ready.rows)

  pub same_streams : (rows tables : List ℕ) → rows ≡ writer.rows.items → tables ≡ tables_with rows
      → known_parts tables writer.strings.items m.user_strings m.guids writer.blobs.items ++ m.streams ≡ streams_of m
  same_streams rows tables r a =
      let texts = padded 4 (strings_of (cells_in m)) in
      ap (λ (x : List ℕ). known_parts x writer.strings.items m.user_strings m.guids writer.blobs.items ++ m.streams)
      (a ∙ ap tables_with r ∙ ready_tables)
      ∙ ap (λ (x : List ℕ). known_parts (padded 4 (tables_in m)) x m.user_strings m.guids writer.blobs.items
      ++ m.streams) ready.strings
      ∙ ap (λ (x : List ℕ). known_parts (padded 4 (tables_in m)) texts m.user_strings m.guids x ++ m.streams)
      ready.blobs
