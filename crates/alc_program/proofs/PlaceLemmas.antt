-- A failed check of an image speaks of a byte of its file, or of the file's end.
use Rattle.std.proofs.Common.{◌≡◌, ◌∙◌, ℕ, zero, suc, ◌+◌, ◌*◌, ◌<◌, ◌≤◌, ◌^◌, Bool, true, false, not, cond, List, [], ◌∷◌, ◌++◌, length, drop, min, Option, Some, None, refl, sym, ap, subst, arith}
use Rattle.std.specs.Prelude.{codes, nat_eq, nat_le, nat_lt}
use Rattle.std.specs.List.{find, starts_with, flat_map, range_with_len}
use Rattle.std.specs.Option.{option_map_or}
use Rattle.std.proofs.lemmas.Bool.{and_parts, leb-true, ltb-false}
use Rattle.std.proofs.lemmas.Bool.Decides.{nat_tests}
use Rattle.std.proofs.lemmas.List.{length-take}
use Rattle.std.proofs.lemmas.List.Sums.{sum_by-take-le}
use Rattle.cli_words.specs.Check.{check, first_fault}
use Rattle.cli_words.specs.declared.check.CheckCode.{CheckCode}
use Rattle.cli_words.specs.declared.check.CheckCode.TheVariants as code
use Rattle.cli_words.specs.declared.check.FailedCheck.{FailedCheck}
use Rattle.cli_words.specs.declared.span.Span.{Span}
use Rattle.cli_words.specs.Span.{cut, lies_in}
use Rattle.cli_words.proofs.FirstFault.{Checks, first_fault-none, first_fault-some}
use Rattle.pe_image.specs.Checks.{cli_checks, goes_to, header_checks, metadata_checks, optional_checks, pe_checks}
use Rattle.pe_image.specs.Layout.{directory_place, optional_length, signature_place}
use Rattle.meta_heaps.specs.Reading.{fault_at, root_checks, root_of}
use Rattle.meta_heaps.specs.Streams.{fits, header_end, headers_at, headers_from, named, stream_count, stream_of}
use Rattle.meta_heaps.specs.declared.heap.Root.{Root}
use Rattle.metadata_tables.specs.declared.layout.Layout.{Layout}
use Rattle.metadata_tables.specs.Columns.{columns_of}
use Rattle.metadata_tables.specs.Layout.{column_at, count_of, rows_end, size_of}
use Rattle.metadata_tables.specs.Reading.{are_allowed, layout_of, lies_whole, checks as stream_checks}
use Rattle.metadata_tables.proofs.LayoutLemmas.{row_room}
use Rattle.assembly_image.specs.Checks.{column_checks, content_checks, row_checks, table_checks, all_rows_checks}
use Rattle.assembly_image.specs.Reading.{file_reading, heaps_of, image_checks, image_limit, metadata_of, reading_by, tables_of}
use Rattle.assembly_image.specs.Reading.FileReading.{TooLong, Refused as NoImage}

-- the first check that fails speaks of no place past this one
record Bounded (top : ℕ) (checks : Checks) : Type 0 where
  each : (failed : FailedCheck) → first_fault checks ≡ Some failed → failed.at ≤ top

-- no check fails
record Pass (checks : Checks) : Type 0 where
  none : first_fault checks ≡ None

bounded-nil : (top : ℕ) → Bounded top []
bounded-nil top = record { each = λ failed is. cc is }

of_some : {X : Type 0} {x y : X} → Some x ≡ Some y → x ≡ y
of_some is = cc

bounded-check : (top : ℕ) (passes : Bool) (failing : CheckCode) (at : ℕ) (rest : Checks) → at ≤ top → (passes ≡ true → Bounded top rest) →
    Bounded top (check passes failing at ∷ rest)
bounded-check top true failing at rest within later = record { each = (later refl).each }
bounded-check top false failing at rest within later = record { each = λ failed is. subst (λ (f : FailedCheck). f.at ≤ top) (of_some is) within }

bounded-append : (top : ℕ) (xs ys : Checks) → Bounded top xs → (Pass xs → Bounded top ys) → Bounded top (xs ++ ys)
bounded-append top xs ys first later = record { each = λ failed is. at failed is (first_fault xs) refl }
  where
    at : (failed : FailedCheck) → first_fault (xs ++ ys) ≡ Some failed → (o : Option FailedCheck) → first_fault xs ≡ o → failed.at ≤ top
    at failed is None none = (later (record { none = none })).each failed (sym (first_fault-none xs ys none) ∙ is)
    at failed is (Some fault) some =
        let same : fault ≡ failed = of_some (sym (first_fault-some xs ys fault some) ∙ is) in
        first.each failed (some ∙ ap (λ f. Some f) same)

-- what is told of a check that passes, in front of others
passes : (b : Bool) (failing : CheckCode) (at : ℕ) (rest : Checks) → Pass (check b failing at ∷ rest) → (b ≡ true) × Pass rest
passes true failing at rest pass = (refl, record { none = pass.none })
passes false failing at rest pass = let is = pass.none in cc is

module _ (bytes : List ℕ) where
  bounded-goes : (end : ℕ) (rest : Checks) → (end ≤ length bytes → Bounded (length bytes) rest) → Bounded (length bytes) (goes_to bytes end ∷ rest)
  bounded-goes end rest later =
      bounded-check (length bytes) (nat_le end (length bytes)) code.Cut (length bytes) rest (omega arith) (λ is. later (leb-true end (length bytes) is))

  goes : (end : ℕ) (rest : Checks) → Pass (goes_to bytes end ∷ rest) → (end ≤ length bytes) × Pass rest
  goes end rest is = let parts = passes (nat_le end (length bytes)) code.Cut (length bytes) rest is in (leb-true end (length bytes) parts.0, parts.1)

  header_bounded : Bounded (length bytes) (header_checks bytes)
  unfolding header_checks
  header_bounded =
      bounded-goes 2 _ (λ some. bounded-check (length bytes) (starts_with nat_eq bytes (codes "MZ")) code.NoMz 0 _ (omega arith)
      (λ is. bounded-goes 0x40 _ (λ more. bounded-goes (signature_place bytes + 24) _
      (λ there. bounded-check (length bytes) (starts_with nat_eq (drop (signature_place bytes) bytes) (0x50 ∷ 0x45 ∷ 0 ∷ 0 ∷ [])) code.NoPe (signature_place bytes) [] (omega (arith, there)) (λ is. bounded-nil (length bytes))))))

  header_fits : Pass (header_checks bytes) → signature_place bytes + 24 ≤ length bytes
  unfolding header_checks
  header_fits none =
      let first = goes 2 _ none in
      let second = passes (starts_with nat_eq bytes (codes "MZ")) code.NoMz 0 _ first.1 in
      let third = goes 0x40 _ second.1 in
      (goes (signature_place bytes + 24) _ third.1).0

  optional_bounded : (signature : ℕ) → signature + 24 ≤ length bytes → Bounded (length bytes) (optional_checks bytes signature)
  unfolding optional_checks directory_place
  optional_bounded signature there =
      bounded-goes (signature + 24 + 2) _ (λ some. bounded-check (length bytes) _ code.Magic (signature + 24) _ (omega (arith, there))
      (λ is. bounded-check (length bytes) _ code.NoCli (signature + 20) _ (omega (arith, there))
      (λ is. bounded-goes (signature + 24 + optional_length bytes signature) _
      (λ whole. bounded-check (length bytes) _ code.NoCli _ _ (omega (arith, whole))
      (λ is. bounded-check (length bytes) _ code.NoCli _ [] (omega (arith, whole)) (λ is. bounded-nil (length bytes)))))))

  optional_fits : (signature : ℕ) → Pass (optional_checks bytes signature) → directory_place bytes signature ≤ length bytes
  unfolding optional_checks directory_place
  optional_fits signature none =
      let first = goes (signature + 24 + 2) _ none in
      let second = passes _ code.Magic (signature + 24) _ first.1 in
      let third = passes _ code.NoCli (signature + 20) _ second.1 in
      let fourth = (goes (signature + 24 + optional_length bytes signature) _ third.1).0 in
      omega (arith, fourth)

  cli_bounded : (first count directory : ℕ) → directory ≤ length bytes → Bounded (length bytes) (cli_checks bytes first count directory)
  unfolding cli_checks
  cli_bounded first count directory there =
      bounded-goes (first + 40 * count) _ (λ some. bounded-check (length bytes) _ code.Outside directory [] there (λ is. bounded-nil (length bytes)))

  metadata_bounded : (first count cli : ℕ) → Bounded (length bytes) (metadata_checks bytes first count cli)
  unfolding metadata_checks
  metadata_bounded first count cli =
      bounded-goes (cli + 24) _ (λ there. bounded-check (length bytes) _ code.NotIlOnly (cli + 16) _ (omega (arith, there))
      (λ is. bounded-check (length bytes) _ code.Outside (cli + 8) [] (omega (arith, there)) (λ is. bounded-nil (length bytes))))

  pe_bounded : Bounded (length bytes) (pe_checks bytes)
  pe_bounded =
      bounded-append (length bytes) (header_checks bytes) _ header_bounded
      (λ headers. bounded-append (length bytes) (optional_checks bytes (signature_place bytes)) _
      (optional_bounded (signature_place bytes) (header_fits headers))
      (λ optional. bounded-append (length bytes) (cli_checks bytes _ _ _) _
      (cli_bounded _ _ (directory_place bytes (signature_place bytes)) (optional_fits (signature_place bytes) optional))
      (λ cli. metadata_bounded _ _ _)))

min-le : (a b : ℕ) → min a b ≤ a
min-le a b = grind (arith, nat_tests)

-- where a header that fits ends, and its stream
fit_within : (metadata : List ℕ) (at : ℕ) → fits metadata at ≡ true →
    (header_end metadata at ≤ length metadata) × ((stream_of metadata at).at + (stream_of metadata at).len ≤ length metadata)
fit_within metadata at is =
    let parts = and_parts _ _ (and_parts _ _ is).1 in (leb-true _ _ parts.0, leb-true _ _ parts.1)

-- the first header that does not fit begins within the metadata
unfit_within : (metadata : List ℕ) (at n x : ℕ) → at ≤ length metadata → find (λ at. not (fits metadata at)) (headers_from metadata at n) ≡ Some x → x ≤ length metadata
unfit_within metadata at zero x within is = cc is
unfit_within metadata at (suc n) x within is =
    by_fit (fits metadata at) (λ fit more. unfit_within metadata (header_end metadata at) n x (fit_within metadata at fit).0 more) refl is
  where
    by_fit : (b : Bool) →
        (fits metadata at ≡ true → find (λ at. not (fits metadata at)) (headers_from metadata (header_end metadata at) n) ≡ Some x → x ≤ length metadata) →
        fits metadata at ≡ b → cond (not b) (Some at) (find (λ at. not (fits metadata at)) (headers_from metadata (header_end metadata at) n)) ≡ Some x → x ≤ length metadata
    by_fit false later unfit is = subst (λ (y : ℕ). y ≤ length metadata) (of_some is) within
    by_fit true later fit is = later fit is

-- where all headers fit, the one of a name does
named_fits : (metadata : List ℕ) (p : ℕ → Bool) (at n x : ℕ) → find (λ at. not (fits metadata at)) (headers_from metadata at n) ≡ None →
    find p (headers_from metadata at n) ≡ Some x → fits metadata x ≡ true
named_fits metadata p at zero x none is = cc is
named_fits metadata p at (suc n) x none is =
    by_fit (fits metadata at) (p at) (λ rest more. named_fits metadata p (header_end metadata at) n x rest more) refl none is
  where
    by_fit : (b c : Bool) →
        (find (λ at. not (fits metadata at)) (headers_from metadata (header_end metadata at) n) ≡ None → find p (headers_from metadata (header_end metadata at) n) ≡ Some x →
        fits metadata x ≡ true) → fits metadata at ≡ b →
        cond (not b) (Some at) (find (λ at. not (fits metadata at)) (headers_from metadata (header_end metadata at) n)) ≡ None →
        cond c (Some at) (find p (headers_from metadata (header_end metadata at) n)) ≡ Some x → fits metadata x ≡ true
    by_fit false c later fit none is = cc none
    by_fit true true later fit none is = subst (λ (y : ℕ). fits metadata y ≡ true) (of_some is) fit
    by_fit true false later fit none is = later none is

bounded-fault : (top : ℕ) (failing : CheckCode) (root : Span) (place : Option ℕ) (rest : Checks) → ((at : ℕ) → place ≡ Some at → root.at + at ≤ top) →
    (place ≡ None → Bounded top rest) → Bounded top (fault_at failing root place ∷ rest)
bounded-fault top failing root None rest within later = record { each = (later refl).each }
bounded-fault top failing root (Some at) rest within later = record { each = λ failed is. subst (λ (f : FailedCheck). f.at ≤ top) (of_some is) (within at refl) }

no_fault : (failing : CheckCode) (root : Span) (place : Option ℕ) (rest : Checks) → Pass (fault_at failing root place ∷ rest) → place ≡ None
no_fault failing root None rest pass = refl
no_fault failing root (Some at) rest pass = let is = pass.none in cc is

module _ (bytes : List ℕ) (root : Span) where
  abbrev metadata : List ℕ
  metadata = cut bytes root

  cut_within : root.at + root.len ≤ length bytes → root.at + length metadata ≤ length bytes
  cut_within lies = omega (arith, lies, length-take root.len (drop root.at bytes), min-le root.len (length (drop root.at bytes)))

  root_bounded : Bounded (length bytes) (root_checks bytes root)
  root_bounded =
      bounded-check (length bytes) (lies_in (length bytes) root) code.Cut (length bytes) _ (omega arith)
      (λ is.
      let lies = leb-true _ _ is in
      let whole = cut_within lies in
      bounded-check (length bytes) _ code.RootSignature root.at _ (omega (arith, lies))
      (λ signed. bounded-check (length bytes) _ code.Bounds root.at _ (omega (arith, lies))
      (λ begins. bounded-fault (length bytes) code.Bounds root _ _
      (λ at found. omega (arith, whole, unfit_within metadata (headers_at metadata) (stream_count metadata) at (leb-true _ _ begins) found))
      (λ all. bounded-fault (length bytes) code.EditStream root _ _
      (λ at found. let there = (fit_within metadata at (named_fits metadata _ (headers_at metadata) (stream_count metadata) at all found)).0 in omega (arith, whole, there))
      (λ none. bounded-check (length bytes) _ code.NoTables root.at [] (omega (arith, lies)) (λ is. bounded-nil (length bytes)))))))

  -- the stream of the tables lies in the file
  tables_fit : Pass (root_checks bytes root) → (root_of bytes root).tables.at + (root_of bytes root).tables.len ≤ length bytes
  tables_fit none =
      let first = passes (lies_in (length bytes) root) code.Cut (length bytes) _ none in
      let second = passes _ code.RootSignature root.at _ first.1 in
      let third = passes _ code.Bounds root.at _ second.1 in
      let all = no_fault code.Bounds root _ _ third.1 in
      by_name (named metadata (codes "#~")) refl (leb-true _ _ first.0) all
    where
      by_name : (o : Option ℕ) → named metadata (codes "#~") ≡ o → root.at + root.len ≤ length bytes →
          find (λ at. not (fits metadata at)) (headers_from metadata (headers_at metadata) (stream_count metadata)) ≡ None →
          (option_map_or (λ at. let span : Span = record { at = root.at + (stream_of metadata at).at; len = (stream_of metadata at).len } in span) o (record { at = root.at; len = 0 })).at
          + (option_map_or (λ at. let span : Span = record { at = root.at + (stream_of metadata at).at; len = (stream_of metadata at).len } in span) o (record { at = root.at; len = 0 })).len
          ≤ length bytes
      by_name None is lies all = omega (arith, lies)
      by_name (Some at) is lies all =
          let there = (fit_within metadata at (named_fits metadata _ (headers_at metadata) (stream_count metadata) at all is)).1 in
          omega (arith, there, cut_within lies)

bounded-range : (top : ℕ) (checks : ℕ → Checks) (first n : ℕ) → ((i : ℕ) → first ≤ i → i < first + n → Bounded top (checks i)) →
    Bounded top (flat_map checks (range_with_len first n))
bounded-range top checks first zero each = bounded-nil top
bounded-range top checks first (suc n) each =
    bounded-append top (checks first) (flat_map checks (range_with_len (first + 1) n)) (each first (omega arith) (omega arith))
    (λ pass. bounded-range top checks (first + 1) n (λ i low high. each i (omega (arith, low)) (omega (arith, high))))

-- the checks of the rows, where the rows lie in the file
content_bounded : (bytes : List ℕ) (root : Root) (layout : Layout) (top : ℕ) → rows_end layout ≤ top → root.tables.at ≤ top →
    Bounded top (content_checks bytes root layout)
content_bounded bytes root layout top rows there =
    bounded-append top (all_rows_checks bytes root layout) _
    (bounded-range top (table_checks bytes root layout) 0 45
    (λ table low known. bounded-range top (row_checks bytes root layout table) 1 (count_of layout table)
    (λ n first last. bounded-range top (column_checks bytes root layout table n) 0 (length (columns_of table))
    (λ k least most.
    let room = row_room layout table n (omega (arith, known)) first (omega (arith, last)) in
    let inside = sum_by-take-le (size_of layout) (columns_of table) k in
    let within : column_at layout table n k ≤ top = omega (arith, room, inside, rows) in
    bounded-check top _ code.Index _ _ within (λ is. bounded-check top _ code.List _ _ within (λ is. bounded-check top _ code.Text _ [] within (λ is. bounded-nil top)))))))
    (λ none. bounded-check top _ code.NoAssembly root.tables.at [] there (λ is. bounded-nil top))

image_bounded : (bytes : List ℕ) → Bounded (length bytes) (image_checks bytes)
unfolding heaps_of tables_of
image_bounded bytes =
    bounded-append (length bytes) (pe_checks bytes) _ (pe_bounded bytes)
    (λ headers. bounded-append (length bytes) (root_checks bytes (metadata_of bytes)) _ (root_bounded bytes (metadata_of bytes))
    (λ roots.
    let stream = (root_of bytes (metadata_of bytes)).tables in
    let lies = tables_fit bytes (metadata_of bytes) roots in
    let there : stream.at ≤ length bytes = omega (arith, lies) in
    bounded-append (length bytes) (stream_checks bytes stream) _
    (bounded-check (length bytes) _ code.Table stream.at _ there (λ is. bounded-check (length bytes) _ code.Bounds stream.at [] there (λ is. bounded-nil (length bytes))))
    (λ streams.
    let whole = (passes (lies_whole bytes stream) code.Bounds stream.at [] (passes (are_allowed bytes stream) code.Table stream.at _ streams).1).0 in
    let rows = leb-true _ _ whole in
    content_bounded bytes (root_of bytes (metadata_of bytes)) (layout_of bytes stream.at) (length bytes) (omega (arith, rows, lies)) there)))

-- The place of which a failed check of a file speaks is a number of 32 bits.
pub place_told : (content : Option (List ℕ)) (failed : FailedCheck) → NoImage failed ≡ file_reading content → failed.at < 2 ^ 32
place_told None failed is = cc is
place_told (Some bytes) failed is = at (nat_lt image_limit (length bytes)) refl is
  where
    by_fault : length bytes ≤ image_limit → (o : Option FailedCheck) → first_fault (image_checks bytes) ≡ o → NoImage failed ≡ reading_by bytes o → failed.at < 2 ^ 32
    by_fault short None found is = cc is
    by_fault short (Some fault) found is =
        let same : failed ≡ fault = cc is in
        let below = (image_bounded bytes).each fault found in
        omega (arith, below, short, ap (λ (f : FailedCheck). f.at) same)

    at : (long : Bool) → nat_lt image_limit (length bytes) ≡ long → NoImage failed ≡ cond long TooLong (reading_by bytes (first_fault (image_checks bytes))) → failed.at < 2 ^ 32
    at true long is = cc is
    at false short is = by_fault (ltb-false image_limit (length bytes) short) (first_fault (image_checks bytes)) refl is
