-- What a reader finds in the image of a module: headers, heaps, rows, bodies and sections.
use Rattle.std.proofs.Common.{◌≡◌, ℕ, ◌+◌, ◌-◌, ◌^◌, ◌<◌, ◌≤◌, true, false, List, ◌++◌, length, take, drop, Some, None, refl, sym, ap, subst, ◌∙◌, arith}
use Rattle.std.proofs.lemmas.List.{length-append, take-take}
use Rattle.std.proofs.Math.Seq.{take-append_seam}
use Rattle.cli_words.specs.Check.{first_fault}
use Rattle.cli_words.specs.declared.span.Span.{Span}
use Rattle.pe_image.specs.Section.{span_of}
use Rattle.pe_image.specs.Checks.{pe_checks}
use Rattle.pe_image.specs.Reading.{pe_of}
use Rattle.meta_heaps.specs.declared.heap.Root.{Root}
use Rattle.cli_words.specs.Span.{LiesIn, cut}
use Rattle.meta_heaps.specs.Reading.{root_checks, root_of}
use Rattle.metadata_tables.specs.declared.layout.Layout.{Layout}
use Rattle.metadata_tables.specs.Layout.{rows_end}
use Rattle.metadata_tables.specs.Reading.{is_known, checks as stream_checks}
use Rattle.assembly_image.specs.Reading.{metadata_of, heaps_of, tables_of}
use Rattle.image_maker.specs.declared.module.Module.{Module}
use Rattle.image_maker.specs.Rows.{all_methods}
use Rattle.image_maker.specs.Sound.{count, layout_at}
use Rattle.image_maker.specs.Written.{rows_bytes, strings_of, blobs_of}
use Rattle.image_maker.specs.File.{known_parts, root_bytes, bodies_address, tables_bytes, padded, zeros, round_up}
use Rattle.image_maker.specs.Whole.{cells_in, tables_in, streams_of, bodies_in, image_bytes, rva_in}
use Rattle.image_maker.specs.Made.{AreAligned, HasStreams, HasSections, ArePlaced}
use Rattle.image_maker.proofs.FilePlaces as file
use Rattle.image_maker.proofs.LengthFile.{padded-ge, tables_length}
use Rattle.image_maker.proofs.RootPlacesNamed.{IsRootOf, IsPart, root_found, are_further}
use Rattle.image_maker.proofs.TablePlaces as tables
use Rattle.image_maker.proofs.BodyPlaces.{are_placed, are_aligned}
use Rattle.image_maker.proofs.LayoutMoves.{same_bytes}
use Rattle.image_maker.proofs.WrittenParts.{tables_more}

module _ (m : Module)
    (short : 72 + length (bodies_in m) + length (root_bytes (streams_of m)) < 2 ^ 31)
    (few : length (streams_of m) < 2 ^ 16)
    (further : are_further m.streams ≡ true)
    (small : (t : ℕ) → count m t < 2 ^ 24)
    (unknown : (t : ℕ) → t < 45 → is_known t ≡ false → count m t ≡ 0)
  where
    abbrev made : List ℕ
    made = image_bytes m

    abbrev metadata : List ℕ
    metadata = root_bytes (streams_of m)

    lies : LiesIn (length made) (metadata_of made)
    lies = file.metadata_inside (bodies_in m) metadata short

    abbrev strings : List ℕ
    strings = padded 4 (strings_of (cells_in m))

    abbrev blobs : List ℕ
    blobs = padded 4 (blobs_of (cells_in m))

    has_head : 24 ≤ length (padded 4 (tables_in m))
    has_head =
        let long = tables_length (count m) (rows_bytes (layout_at m 0) (cells_in m)) in
        let more = padded-ge (tables_in m) in
        omega (arith, long, more)

    root : IsRootOf made (metadata_of made) (padded 4 (tables_in m)) strings m.user_strings m.guids blobs m.streams
    root =
        root_found made (metadata_of made) (padded 4 (tables_in m)) strings m.user_strings m.guids blobs m.streams
        lies (file.metadata_cut (bodies_in m) metadata short) further few (omega (arith, short)) has_head

    same_heaps : heaps_of made ≡ root_of made (metadata_of made)
    unfolding heaps_of
    same_heaps = refl

    abbrev Part : (Root → Span) → List ℕ → Type 0
    Part of part = IsPart made (of (heaps_of made)) part

    part : (of : Root → Span) (bytes : List ℕ) → IsPart made (of (root_of made (metadata_of made))) bytes → Part of bytes
    part of bytes is = subst (λ (r : Root). IsPart made (of r) bytes) (sym same_heaps) is

    tables_part : IsPart made (heaps_of made).tables (padded 4 (tables_in m))
    tables_part = part (λ r. r.tables) (padded 4 (tables_in m)) root.tables_part

    pub strings_part : IsPart made (heaps_of made).strings strings
    strings_part = part (λ r. r.strings) strings root.strings_part

    pub user_strings_part : IsPart made (heaps_of made).user_strings m.user_strings
    user_strings_part = part (λ r. r.user_strings) m.user_strings root.user_strings_part

    pub guids_part : IsPart made (heaps_of made).guids m.guids
    guids_part = part (λ r. r.guids) m.guids root.guids_part

    pub blobs_part : IsPart made (heaps_of made).blobs blobs
    blobs_part = part (λ r. r.blobs) blobs root.blobs_part

    pub headers_pass : first_fault (pe_checks made) ≡ None
    headers_pass = file.passes (bodies_in m) metadata short

    pub root_passes : first_fault (root_checks made (metadata_of made)) ≡ None
    root_passes = root.accepted

    abbrev pub stream : Span
    stream = (heaps_of made).tables

    abbrev rows : List ℕ
    rows = rows_bytes (layout_at m 0) (cells_in m)

    -- the rows, and the zeros after them
    abbrev after : List ℕ
    after = zeros (round_up 4 (length (tables_in m)) - length (tables_in m))

    abbrev pub start : ℕ
    start = stream.at + tables.rows_start (count m)

    padded_is : padded 4 (tables_in m) ≡ tables_bytes (count m) (rows ++ after)
    padded_is = tables_more (count m) rows after

    stream_is : cut made stream ≡ tables_bytes (count m) (rows ++ after)
    stream_is = tables_part.is ∙ padded_is

    -- the tables are laid out by the counts of the module
    pub layout_is : tables_of made ≡ layout_at m start
    unfolding tables_of
    layout_is = tables.layout_read made (rows ++ after) stream (count m) tables_part.lies stream_is small unknown

    rows_there : take (length rows) (drop start made) ≡ rows
    rows_there =
        let whole : take (length (rows ++ after)) (drop start made) ≡ rows ++ after =
        tables.rows_read made (rows ++ after) stream (count m) tables_part.lies stream_is small unknown in
        let within : length rows ≤ length (rows ++ after) = let long = length-append rows after in omega (arith, long) in
        sym (take-take (length rows) (length (rows ++ after)) (drop start made) within)
        ∙ ap (take (length rows)) whole
        ∙ take-append_seam rows after

    -- the rows stand where a layout says
    abbrev RowsStand : Layout → Type 0
    RowsStand l = take (length (rows_bytes l (cells_in m))) (drop l.rows_at made) ≡ rows_bytes l (cells_in m)

    pub rows_stand : RowsStand (tables_of made)
    rows_stand =
        subst RowsStand (sym layout_is)
        (subst (λ (r : List ℕ). take (length r) (drop start made) ≡ r) (same_bytes m 0 start (cells_in m)) rows_there)

    -- the tables end with the rows
    abbrev RowsEnd : Layout → Type 0
    RowsEnd l = rows_end l ≡ l.rows_at + length (rows_bytes l (cells_in m))

    pub stream_passes : RowsEnd (tables_of made) → first_fault (stream_checks made stream) ≡ None
    stream_passes end =
        let there : RowsEnd (layout_at m start) = subst RowsEnd layout_is end in
        let same : length (rows_bytes (layout_at m start) (cells_in m)) ≡ length rows =
        ap length (same_bytes m start 0 (cells_in m)) in
        let ends : rows_end (layout_at m start) ≡ start + length rows = there ∙ ap (λ (n : ℕ). start + n) same in
        let more = length-append rows after in
        let within : rows_end (layout_at m start) ≤ start + length (rows ++ after) = omega (arith, ends, more) in
        tables.accepted made (rows ++ after) stream (count m) tables_part.lies stream_is small unknown within

    pub streams_are : HasStreams (cut made (metadata_of made)) m.streams
    streams_are =
        (known_parts (padded 4 (tables_in m)) strings m.user_strings m.guids blobs, refl, root.streams_are)

    body_found : (k len : ℕ) → k + len ≤ length (bodies_in m)
        → (span : Span)
        × (span_of made (pe_of made).sections_at (pe_of made).sections (bodies_address + k) len ≡ Some span)
        × LiesIn (length made) span × (cut made span ≡ take len (drop k (bodies_in m))) × (span.at ≡ 0x248 + k)
    body_found k len within = (
      record { at = 0x248 + k; len = len },
      file.body_span (bodies_in m) metadata short k len within,
      file.body_inside (bodies_in m) metadata short k len within,
      file.body_cut (bodies_in m) metadata short k len within,
      refl,
    )

    pub bodies_placed : ArePlaced made (rva_in m) (all_methods m)
    bodies_placed = are_placed made (all_methods m) body_found

    pub bodies_aligned : AreAligned made (rva_in m) (all_methods m)
    bodies_aligned = are_aligned made (all_methods m) body_found

    pub sections_are : HasSections made
    sections_are = file.sections (bodies_in m) metadata short
