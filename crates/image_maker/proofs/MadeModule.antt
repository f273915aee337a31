-- What is made of a sound module within its limits is an image of the module.
use Rattle.std.proofs.Common.{◌≡◌, ℕ, ◌+◌, ◌-◌, ◌^◌, ◌<◌, ◌≤◌, ◌==◌, ◌&&◌, true, false, not, nat_le, nat_lt, List, [], length, map, get_or, None, refl, sym, ap, subst, ◌∙◌, inl, inr, arith}
use Rattle.std.specs.List.{list_all, range_with_len}
use Rattle.std.proofs.lemmas.Bool.{cases_lt}
use Rattle.std.proofs.lemmas.Bool.Decides.{nat_tests}
use Rattle.std.proofs.lemmas.List.{get_or_past}
use Rattle.metadata_tables.specs.declared.layout.Layout.{Layout}
use Rattle.metadata_tables.specs.declared.schema.Column.{Column}
use Rattle.metadata_tables.specs.Columns.{columns_of, tables}
use Rattle.metadata_tables.specs.Layout.{count_of, rows_end}
use Rattle.metadata_tables.specs.Reading.{is_known}
use Rattle.assembly_image.specs.Checks.{has_assembly, name_bytes}
use Rattle.assembly_image.specs.Reading.{heaps_of, tables_of}
use Rattle.image_maker.specs.declared.module.Module.{Module}
use Rattle.image_maker.specs.declared.module.Cell.{Cell}
use Rattle.image_maker.specs.Rows.{rows_of}
use Rattle.image_maker.specs.Sound.{count, layout_at, is_sound, is_stream_name, are_rows_sound}
use Rattle.image_maker.specs.Size.{limit_of}
use Rattle.image_maker.specs.File.{root_bytes, zeros, round_up}
use Rattle.image_maker.specs.Written.{is_kept, rows_bytes, strings_of, blobs_of}
use Rattle.image_maker.specs.Whole.{cells_in, bodies_in, streams_of, image_bytes, rva_in}
use Rattle.image_maker.specs.Made.{IsMade}
use Rattle.image_maker.proofs.Reading.{reads_as}
use Rattle.image_maker.proofs.CellReads.{Carries, rows_end_there, rows_read, no_row_fails, name_reads}
use Rattle.image_maker.proofs.RowCounts.{same_count}
use Rattle.image_maker.proofs.LengthBounds.{file-le, strings_small, blobs_small, streams_few, text_small}
use Rattle.image_maker.proofs.SoundModule as facts
use Rattle.image_maker.proofs.MadeParts as parts
use Rattle.image_maker.proofs.LengthFile.{padded-ge}
use Rattle.image_maker.proofs.RangeLemmas.{same_on_range, get_or-map-range}

-- no table past the last can be read
past_unknown : (t : ℕ) → 45 ≤ t → is_known t ≡ false
unfolding columns_of
past_unknown t past =
    let none : columns_of t ≡ [] = get_or_past tables t [] past in
    ap (λ (columns : List Column). nat_lt 0 (length columns)) none

module _ (m : Module) (sound : is_sound m ≡ true) (limit : limit_of m ≡ None)
    (kept : list_all is_kept (cells_in m) ≡ true) where
  abbrev made : List ℕ
  made = image_bytes m

  abbrev rows : ℕ → List (List Cell)
  rows = rows_of m (rva_in m)

  few : (t : ℕ) → count m t < 2 ^ 24
  few t =
      elim (cases_lt t 45) [
        | inl below ↦ let most = facts.few_rows m sound limit t below in omega arith
        | inr past ↦ let none = facts.unknown_rows m sound limit t (past_unknown t past) in omega arith
      ]

  short : 72 + length (bodies_in m) + length (root_bytes (streams_of m)) < 2 ^ 31
  short = text_small m limit sound

  streams : length (streams_of m) < 2 ^ 16
  streams = streams_few m limit

  names : list_all (λ s. is_stream_name s.0) m.streams ≡ true
  names = (facts.parts m sound limit).streams

  unknown : (t : ℕ) → t < 45 → is_known t ≡ false → count m t ≡ 0
  unknown t below none = facts.unknown_rows m sound limit t none

  -- where the rows begin
  abbrev start : ℕ
  start = parts.start m short streams names few unknown

  layout_is : tables_of made ≡ layout_at m start
  layout_is = parts.layout_is m short streams names few unknown

  abbrev Fits : Layout → Type 0
  Fits l = (t : ℕ) → t < 45 → are_rows_sound l (heaps_of made).guids.len t [] (rows t) ≡ true

  fits : Fits (tables_of made)
  fits =
      let guids = (parts.guids_part m short streams names few unknown).len_is in
      subst Fits (sym layout_is)
      (λ t below.
      subst (λ (n : ℕ). are_rows_sound (layout_at m start) n t [] (rows t) ≡ true) (sym guids)
      (facts.rows_sound m sound limit (rva_in m) start t below))

  counted : (tables_of made).counts ≡ map (λ t. length (rows t)) (range_with_len 0 45)
  counted =
      ap (λ (l : Layout). l.counts) layout_is
      ∙ same_on_range (count m) (λ t. length (rows t)) 0 45 (λ i below. sym (same_count m (rva_in m) (0 + i)))

  carries : Carries made (heaps_of made) (tables_of made) rows
  unfolding cells_in
  carries = record {
    heaps = ap (λ (l : Layout). l.heap_sizes) layout_is;
    counts = counted;
    few = λ t below.
        let same = same_count m (rva_in m) t in
        let most = facts.few_rows m sound limit t below in
        omega arith;
    sound = fits;
    kept = kept;
    named = facts.named m sound limit (rva_in m);
    rows_stand = parts.rows_stand m short streams names few unknown;
    strings_rest = zeros (round_up 4 (length (strings_of (cells_in m))) - length (strings_of (cells_in m)));
    blobs_rest = zeros (round_up 4 (length (blobs_of (cells_in m))) - length (blobs_of (cells_in m)));
    strings = (parts.strings_part m short streams names few unknown).is;
    blobs = (parts.blobs_part m short streams names few unknown).is;
    strings_len = (parts.strings_part m short streams names few unknown).len_is;
    blobs_len = (parts.blobs_part m short streams names few unknown).len_is;
    strings_small = let less = padded-ge (strings_of (cells_in m)) in let small = strings_small m limit in omega arith;
    blobs_small = let less = padded-ge (blobs_of (cells_in m)) in let small = blobs_small m limit in omega arith;
  }

  ends : rows_end (tables_of made) ≡ (tables_of made).rows_at + length (rows_bytes (tables_of made) (cells_in m))
  unfolding cells_in
  ends = rows_end_there made (heaps_of made) (tables_of made) rows carries

  -- there is one assembly, with a name
  rows_count : (t : ℕ) → t < 45 → count_of (tables_of made) t ≡ count m t
  rows_count t below =
      ap (λ (ns : List ℕ). get_or ns t 0) counted
      ∙ get_or-map-range (λ n. length (rows n)) 45 t below
      ∙ same_count m (rva_in m) t

  name_is : name_bytes made (heaps_of made) (tables_of made) ≡ m.name
  name_is = name_reads made (heaps_of made) (tables_of made) rows carries m.name (omega arith) refl

  assembly : has_assembly made (heaps_of made) (tables_of made) ≡ true
  assembly =
      let one = rows_count 0x20 (omega arith) ∙ facts.one_assembly m sound limit in
      let modules = rows_count 0x00 (omega arith) ∙ facts.one_module m sound limit in
      let types = rows_count 0x02 (omega arith) in
      let some = facts.some_types m sound limit in
      let named = facts.some_name m sound limit in
      let name = ap length name_is in
      let long : 0 < length (name_bytes made (heaps_of made) (tables_of made)) = omega (arith, name, named) in
      let module_there : 1 ≤ count_of (tables_of made) 0x00 = omega (arith, modules) in
      let type_there : 1 ≤ count_of (tables_of made) 0x02 = omega (arith, types, some) in
      by_numbers _ _ _ _ one long module_there type_there
    where
      by_numbers : (a n b c : ℕ) → a ≡ 1 → 0 < n → 1 ≤ b → 1 ≤ c
          → ((a == 1) && (not (n == 0) && (nat_le 1 b && nat_le 1 c))) ≡ true
      by_numbers a n b c ea en eb ec = grind (arith, nat_tests)

  -- the image is one of the module
  pub is_made : IsMade m made
  is_made = record {
    rva = rva_in m;
    reads = reads_as m (rva_in m) made
        (parts.headers_pass m short streams names few unknown)
        (parts.root_passes m short streams names few unknown)
        (parts.stream_passes m short streams names few unknown ends)
        (no_row_fails made (heaps_of made) (tables_of made) rows carries)
        assembly
        (rows_read made (heaps_of made) (tables_of made) rows carries)
        (parts.user_strings_part m short streams names few unknown).is
        (parts.guids_part m short streams names few unknown).is;
    bodies = parts.bodies_placed m short streams names few unknown;
    aligned = parts.bodies_aligned m short streams names few unknown;
    streams = parts.streams_are m short streams names few unknown;
    sections = parts.sections_are m short streams names few unknown;
    short = file-le m limit sound;
  }
