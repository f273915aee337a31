-- What is true of each module that is sound and passes no limit.
use Rattle.std.proofs.Common.{◌≡◌, ℕ, zero, suc, ◌+◌, ◌<◌, ◌≤◌, Bool, true, false, not, ◌&&◌, ◌==◌, List, [], ◌∷◌, ◌++◌, length, map, take, None, lit<, lit≤, refl, sym, ap, subst, inl, inr, ◌∙◌, arith}
use Rattle.std.specs.Prelude.{filter, nat_le, if◌then◌else◌}
use Rattle.std.specs.List.{flat_map, list_all, range_with_len, sum_by, zip}
use Rattle.std.proofs.lemmas.Bool.{and_from, and_parts, both_ways, cases_Bool, eqb-true, leb-true, ltb-true}
use Rattle.std.proofs.lemmas.List.{length-map}
use Rattle.std.proofs.lemmas.List.Folds.{list_all-append}
use Rattle.metadata_tables.specs.declared.schema.Column.{Column}
use Rattle.metadata_tables.specs.Columns.{columns_of}
use Rattle.metadata_tables.specs.Reading.{is_known}
use Rattle.cli_words.specs.Text.{bytes_of}
use Rattle.assembly_name.specs.declared.version.AssemblyRef.{AssemblyRef}
use Rattle.image_maker.specs.declared.module.Module.{Module}
use Rattle.image_maker.specs.declared.module.TypeRefRow.{TypeRefRow}
use Rattle.image_maker.specs.declared.module.TypeRow.{TypeRow}
use Rattle.image_maker.specs.declared.module.MethodRow.{MethodRow}
use Rattle.image_maker.specs.declared.module.Cell.{Cell}
use Rattle.image_maker.specs.declared.module.Cell.TheVariants.{Number, Text, Bytes}
use Rattle.image_maker.specs.Rows.{rows_of, given_rows, all_fields, all_methods, type_ref_row, type_rows, field_row, method_rows, member_row, spec_row, reference_row}
use Rattle.image_maker.specs.Sound.{is_sound, is_table_sound, are_rising, is_given, is_own, has_no_zero, all_texts, texts_in, count, layout_at, are_rows_sound}
use Rattle.image_maker.specs.Size.{limit_of}
use Rattle.image_maker.specs.Written.{row_cells, table_cells, cells_below, is_named}
use Rattle.image_maker.specs.Tally.{is_short, given_count}
use Rattle.image_maker.specs.Params.{are_within}
use Rattle.image_maker.proofs.RangeLemmas.{all_at}
use Rattle.image_maker.proofs.TablesSound.{rows_given, methods_sound, is_06}
use Rattle.image_maker.proofs.RowCounts.{not_long}
use Rattle.image_maker.proofs.SoundParts.{Sound, sound_parts, Limited, limit_parts}
use Rattle.image_maker.proofs.RowCounts.{count_types, length_methods}
use Rattle.image_maker.proofs.ParamRows.{params_of, params_cons}
use Rattle.image_maker.proofs.LayoutMoves.{same_rows}

-- a module has no fields for the rows of the table
pub record NotOwn (t : ℕ) : Type 0 where
  pub n00 : (t == 0x00) ≡ false
  pub n01 : (t == 0x01) ≡ false
  pub n02 : (t == 0x02) ≡ false
  pub n04 : (t == 0x04) ≡ false
  pub n06 : (t == 0x06) ≡ false
  pub n0A : (t == 0x0A) ≡ false
  pub n1B : (t == 0x1B) ≡ false
  pub n20 : (t == 0x20) ≡ false
  pub n23 : (t == 0x23) ≡ false

-- what is true of each of the tables with fields, and of the others
pub table_cases : (P : ℕ → Type 0) → P 0x00 → P 0x01 → P 0x02 → P 0x04 → P 0x06 → P 0x0A → P 0x1B → P 0x20 → P 0x23
    → ((t : ℕ) → NotOwn t → P t) → (t : ℕ) → P t
table_cases P p00 p01 p02 p04 p06 p0A p1B p20 p23 others t =
    elim (cases_Bool (t == 0x00)) [
      | inl e ↦ subst P (sym (eqb-true t 0x00 e)) p00
      | inr n00 ↦ elim (cases_Bool (t == 0x01)) [
        | inl e ↦ subst P (sym (eqb-true t 0x01 e)) p01
        | inr n01 ↦ elim (cases_Bool (t == 0x02)) [
          | inl e ↦ subst P (sym (eqb-true t 0x02 e)) p02
          | inr n02 ↦ elim (cases_Bool (t == 0x04)) [
            | inl e ↦ subst P (sym (eqb-true t 0x04 e)) p04
            | inr n04 ↦ elim (cases_Bool (t == 0x06)) [
              | inl e ↦ subst P (sym (eqb-true t 0x06 e)) p06
              | inr n06 ↦ elim (cases_Bool (t == 0x0A)) [
                | inl e ↦ subst P (sym (eqb-true t 0x0A e)) p0A
                | inr n0A ↦ elim (cases_Bool (t == 0x1B)) [
                  | inl e ↦ subst P (sym (eqb-true t 0x1B e)) p1B
                  | inr n1B ↦ elim (cases_Bool (t == 0x20)) [
                    | inl e ↦ subst P (sym (eqb-true t 0x20 e)) p20
                    | inr n20 ↦ elim (cases_Bool (t == 0x23)) [
                      | inl e ↦ subst P (sym (eqb-true t 0x23 e)) p23
                      | inr n23 ↦ others t (record {
                        n00 = n00;
                        n01 = n01;
                        n02 = n02;
                        n04 = n04;
                        n06 = n06;
                        n0A = n0A;
                        n1B = n1B;
                        n20 = n20;
                        n23 = n23;
                      })
                    ]
                  ]
                ]
              ]
            ]
          ]
        ]
      ]
    ]

-- the rows of a table that a module gives as cells
pub given_are : (m : Module) (rva : ℕ → ℕ) (t : ℕ) → NotOwn t → rows_of m rva t ≡ given_rows t m.rows
given_are m rva t n = rows_given m rva t n.n00 n.n01 n.n02 n.n04 n.n06 n.n0A n.n1B n.n20 n.n23

-- no row is given of a table that is not read
none_given : (t least : ℕ) (rows : List (ℕ × List Cell)) → is_known t ≡ false → are_rising least rows ≡ true
    → given_rows t rows ≡ []
none_given t least [] unknown rising = refl
none_given t least (row ∷ rows) unknown rising =
    let first = and_parts (is_given row.0) (nat_le least row.0 && are_rising row.0 rows) rising in
    let rest = and_parts (nat_le least row.0) (are_rising row.0 rows) first.1 in
    let known = and_parts (is_known row.0) (not (is_own row.0)) first.0 in
    elim (cases_Bool (row.0 == t)) [
      | inl e ↦ absurd (both_ways (is_known t) unknown (sym (ap is_known (eqb-true row.0 t e)) ∙ known.0))
      | inr e ↦
          ap (λ b. map (λ (r : ℕ × List Cell). r.1)
          (if b then row ∷ filter (λ r. r.0 == t) rows else filter (λ r. r.0 == t) rows)) e
          ∙ none_given t row.0 rows unknown rest.1
    ]

-- the rows of Param that come before a method
params_within : (rows before : ℕ) (methods : List MethodRow) (n : ℕ) → are_within rows before methods ≡ true
    → n < length methods
    → before + params_of (take n methods) ≤ rows
params_within rows before [] n e within = absurd (omega arith)
params_within rows before (m ∷ methods) zero e within =
    let first = and_parts (nat_le before rows) (are_within rows (before + m.params) methods) e in
    let here = leb-true before rows first.0 in
    omega arith
params_within rows before (m ∷ methods) (suc n) e within =
    let first = and_parts (nat_le before rows) (are_within rows (before + m.params) methods) e in
    let rest = params_within rows (before + m.params) methods n first.1 (omega arith) in
    let total = params_cons m (take n methods) in
    omega arith

-- a text that is written
abbrev is_good : List ℕ → Bool
is_good text = has_no_zero text && is_short text

both_good : (texts : List (List ℕ)) → list_all has_no_zero texts ≡ true → list_all is_short texts ≡ true
    → list_all is_good texts ≡ true
both_good [] e f = refl
both_good (text ∷ texts) e f =
    let some = and_parts (has_no_zero text) (list_all has_no_zero texts) e in
    let few = and_parts (is_short text) (list_all is_short texts) f in
    and_from (is_good text) (list_all is_good texts) (and_from (has_no_zero text) (is_short text) some.0 few.0)
    (both_good texts some.1 few.1)

both_lists : (xs ys : List (List ℕ)) → list_all is_good (xs ++ ys) ≡ true
    → (list_all is_good xs ≡ true) × (list_all is_good ys ≡ true)
both_lists xs ys e = and_parts (list_all is_good xs) (list_all is_good ys) (sym (list_all-append is_good xs ys) ∙ e)

-- all texts of a row are written
abbrev is_good_row : List Cell → Bool
is_good_row row = list_all is_good (texts_in row)

named_cells : (columns : List Column) (row : List Cell) → is_good_row row ≡ true
    → list_all is_named (zip columns row) ≡ true
named_cells [] row e = refl
named_cells (column ∷ columns) [] e = refl
named_cells (column ∷ columns) (Number value ∷ row) e = named_cells columns row e
named_cells (column ∷ columns) (Bytes bytes ∷ row) e = named_cells columns row e
named_cells (column ∷ columns) (Text bytes ∷ row) e =
    let parts = and_parts (is_good bytes) (is_good_row row) e in
    and_from (is_good bytes) (list_all is_named (zip columns row)) parts.0 (named_cells columns row parts.1)

named_rows : (table : ℕ) (rows : List (List Cell)) → list_all is_good_row rows ≡ true
    → list_all is_named (table_cells table rows) ≡ true
named_rows table [] e = refl
named_rows table (row ∷ rows) e =
    let parts = and_parts (is_good_row row) (list_all is_good_row rows) e in
    list_all-append is_named (row_cells table row) (table_cells table rows)
    ∙ and_from (list_all is_named (row_cells table row)) (list_all is_named (table_cells table rows))
    (named_cells (columns_of table) row parts.0) (named_rows table rows parts.1)

named_tables : (rows : ℕ → List (List Cell)) (tables : List ℕ) → ((t : ℕ) → list_all is_good_row (rows t) ≡ true)
    → list_all is_named (flat_map (λ table. table_cells table (rows table)) tables) ≡ true
named_tables rows [] good = refl
named_tables rows (t ∷ tables) good =
    list_all-append is_named (table_cells t (rows t)) (flat_map (λ table. table_cells table (rows table)) tables)
    ∙ and_from (list_all is_named (table_cells t (rows t)))
    (list_all is_named (flat_map (λ table. table_cells table (rows table)) tables)) (named_rows t (rows t) (good t))
    (named_tables rows tables good)

-- rows whose names are written
good_names : {X : Type 0} (row : X → List Cell) (name : X → List ℕ) (xs : List X)
    → ((x : X) → texts_in (row x) ≡ name x ∷ [])
    → list_all is_good (map name xs) ≡ true → list_all is_good_row (map row xs) ≡ true
good_names row name [] e good = refl
good_names row name (x ∷ xs) e good =
    let parts = and_parts (is_good (name x)) (list_all is_good (map name xs)) good in
    and_from (is_good_row (row x)) (list_all is_good_row (map row xs))
    (ap (list_all is_good) (e x) ∙ and_from (is_good (name x)) true parts.0 refl)
    (good_names row name xs e parts.1)

good_methods : (rva : ℕ → ℕ) (n param : ℕ) (methods : List MethodRow)
    → list_all is_good (map (λ m. m.name) methods) ≡ true
    → list_all is_good_row (method_rows rva n param methods) ≡ true
good_methods rva n param [] good = refl
good_methods rva n param (m ∷ methods) good =
    let parts = and_parts (is_good m.name) (list_all is_good (map (λ m. m.name) methods)) good in
    and_from (is_good m.name && true) (list_all is_good_row (method_rows rva (n + 1) (param + m.params) methods))
    (and_from (is_good m.name) true parts.0 refl)
    (good_methods rva (n + 1) (param + m.params) methods parts.1)

good_type_refs : (refs : List TypeRefRow) → list_all is_good (flat_map (λ t. t.name ∷ t.space ∷ []) refs) ≡ true
    → list_all is_good_row (map type_ref_row refs) ≡ true
good_type_refs [] good = refl
good_type_refs (t ∷ refs) good =
    let parts = both_lists (t.name ∷ t.space ∷ []) (flat_map (λ t. t.name ∷ t.space ∷ []) refs) good in
    and_from (list_all is_good (t.name ∷ t.space ∷ [])) (list_all is_good_row (map type_ref_row refs)) parts.0
    (good_type_refs refs parts.1)

good_types : (field method : ℕ) (types : List TypeRow)
    → list_all is_good (flat_map (λ t. t.name ∷ t.space ∷ []) types) ≡ true
    → list_all is_good_row (type_rows field method types) ≡ true
good_types field method [] good = refl
good_types field method (t ∷ types) good =
    let parts = both_lists (t.name ∷ t.space ∷ []) (flat_map (λ t. t.name ∷ t.space ∷ []) types) good in
    and_from (list_all is_good (t.name ∷ t.space ∷ []))
    (list_all is_good_row (type_rows (field + length t.fields) (method + length t.methods) types)) parts.0
    (good_types (field + length t.fields) (method + length t.methods) types parts.1)

good_specs : (specs : List (List ℕ)) → list_all is_good_row (map spec_row specs) ≡ true
good_specs [] = refl
good_specs (s ∷ specs) = good_specs specs

good_references : (refs : List AssemblyRef) → list_all is_good (map (λ r. bytes_of r.name) refs) ≡ true
    → list_all is_good_row (map reference_row refs) ≡ true
good_references [] good = refl
good_references (r ∷ refs) good =
    let parts = and_parts (is_good (bytes_of r.name)) (list_all is_good (map (λ r. bytes_of r.name) refs)) good in
    and_from (is_good (bytes_of r.name) && true) (list_all is_good_row (map reference_row refs))
    (and_from (is_good (bytes_of r.name)) true parts.0 refl)
    (good_references refs parts.1)

good_given : (t : ℕ) (rows : List (ℕ × List Cell)) → list_all is_good (flat_map (λ r. texts_in r.1) rows) ≡ true
    → list_all is_good_row (given_rows t rows) ≡ true
good_given t [] good = refl
good_given t (row ∷ rows) good =
    let parts = both_lists (texts_in row.1) (flat_map (λ r. texts_in r.1) rows) good in
    let rest = good_given t rows parts.1 in
    elim (cases_Bool (row.0 == t)) [
      | inl e ↦
          ap (λ b. list_all is_good_row (map (λ (r : ℕ × List Cell). r.1)
          (if b then row ∷ filter (λ r. r.0 == t) rows else filter (λ r. r.0 == t) rows))) e
          ∙ and_from (is_good_row row.1) (list_all is_good_row (given_rows t rows)) parts.0 rest
      | inr e ↦
          ap (λ b. list_all is_good_row (map (λ (r : ℕ × List Cell). r.1)
          (if b then row ∷ filter (λ r. r.0 == t) rows else filter (λ r. r.0 == t) rows))) e
          ∙ rest
    ]

module _ (m : Module) (sound : is_sound m ≡ true) (limit : limit_of m ≡ None) where
  pub parts : Sound m
  parts = sound_parts m sound

  limits : Limited m
  limits = limit_parts m limit

  pub few_rows : (t : ℕ) → t < 45 → count m t ≤ 65534
  few_rows = not_long m limits.long

  pub few_fields : length (all_fields m) ≤ 65534
  few_fields =
      let few : count m 0x04 ≤ 65534 = few_rows 0x04 (lit< tt) in
      let same : count m 0x04 ≡ length (all_fields m) = length-map (all_fields m) field_row in
      omega (arith, few, same)

  pub few_methods : length (all_methods m) ≤ 65534
  few_methods =
      let few : count m 0x06 ≤ 65534 = few_rows 0x06 (lit< tt) in
      let same : count m 0x06 ≡ length (all_methods m) = length_methods (λ n. 0) 1 1 (all_methods m) in
      omega (arith, few, same)

  pub unknown_rows : (t : ℕ) → is_known t ≡ false → count m t ≡ 0
  unfolding columns_of
  unknown_rows =
      table_cases (λ t. is_known t ≡ false → count m t ≡ 0)
      (λ e. absurd (cc)) (λ e. absurd (cc)) (λ e. absurd (cc)) (λ e. absurd (cc)) (λ e. absurd (cc))
      (λ e. absurd (cc)) (λ e. absurd (cc)) (λ e. absurd (cc)) (λ e. absurd (cc))
      (λ t n e. ap length (given_are m (λ n. 0) t n ∙ none_given t 0 m.rows e parts.rising))

  -- neither the RVAs nor the place of the rows matter
  sound_there : (rva : ℕ → ℕ) (t : ℕ) → is_table_sound m t ≡ true
      → are_rows_sound (layout_at m 0) (length m.guids) t [] (rows_of m rva t) ≡ true
  sound_there rva =
      table_cases (λ t. is_table_sound m t ≡ true
      → are_rows_sound (layout_at m 0) (length m.guids) t [] (rows_of m rva t) ≡ true)
      (λ e. e) (λ e. e) (λ e. e) (λ e. e)
      (λ e. methods_sound (layout_at m 0) (length m.guids) [] rva 1 0 1 (all_methods m) refl (lit≤ tt)
      ∙ sym (methods_sound (layout_at m 0) (length m.guids) [] (λ n. 0) 1 0 1 (all_methods m) refl (lit≤ tt)) ∙ e)
      (λ e. e) (λ e. e) (λ e. e) (λ e. e)
      (λ t n e. ap (are_rows_sound (layout_at m 0) (length m.guids) t [])
      (given_are m rva t n ∙ sym (given_are m (λ n. 0) t n)) ∙ e)

  pub rows_sound : (rva : ℕ → ℕ) (place t : ℕ) → t < 45
      → are_rows_sound (layout_at m place) (length m.guids) t [] (rows_of m rva t) ≡ true
  rows_sound rva place t within =
      same_rows (layout_at m place) (layout_at m 0) (length m.guids) refl t [] (rows_of m rva t)
      ∙ sound_there rva t (all_at (is_table_sound m) 45 t parts.tables within)

  pub few_params : (n : ℕ) → n < length (all_methods m) → sum_by (λ x. x.params) (take n (all_methods m)) ≤ 65534
  few_params n within =
      let rows : are_within (given_count 8 m.rows) 0 (all_methods m) ≡ true = sym (is_06 m)
      ∙ all_at (is_table_sound m) 45 0x06 parts.tables (lit< tt) in
      let here = params_within (given_count 8 m.rows) 0 (all_methods m) n rows within in
      let long : count m 0x08 ≡ given_count 8 m.rows = length-map (filter (λ r. r.0 == 8) m.rows) (λ r. r.1) in
      let few = few_rows 0x08 (lit< tt) in
      omega arith

  all_good : list_all is_good (all_texts m) ≡ true
  all_good = both_good (all_texts m) parts.no_zero limits.names

  good_rows : (rva : ℕ → ℕ) (t : ℕ) → list_all is_good_row (rows_of m rva t) ≡ true
  good_rows rva =
      let name = and_parts (is_good m.name) _ all_good in
      let refs = both_lists (map (λ r. bytes_of r.name) m.refs) _ name.1 in
      let type_refs = both_lists (flat_map (λ t. t.name ∷ t.space ∷ []) m.type_refs) _ refs.1 in
      let types = both_lists (flat_map (λ t. t.name ∷ t.space ∷ []) m.types) _ type_refs.1 in
      let fields = both_lists (map (λ f. f.name) (all_fields m)) _ types.1 in
      let methods = both_lists (map (λ f. f.name) (all_methods m)) _ fields.1 in
      let members = both_lists (map (λ r. r.name) m.members) _ methods.1 in
      let named : (is_good m.name && true) && true ≡ true = rw name.0 refl in
      table_cases (λ t. list_all is_good_row (rows_of m rva t) ≡ true)
      named
      (good_type_refs m.type_refs type_refs.0)
      (good_types 1 1 m.types types.0)
      (good_names field_row (λ f. f.name) (all_fields m) (λ f. refl) fields.0)
      (good_methods rva 1 1 (all_methods m) methods.0)
      (good_names member_row (λ r. r.name) m.members (λ r. refl) members.0)
      (good_specs m.specs)
      named
      (good_references m.refs refs.0)
      (λ t n. ap (list_all is_good_row) (given_are m rva t n) ∙ good_given t m.rows members.1)

  pub named : (rva : ℕ → ℕ) → list_all is_named (cells_below (rows_of m rva) 45) ≡ true
  named rva = named_tables (rows_of m rva) (range_with_len 0 45) (good_rows rva)

  pub one_assembly : count m 0x20 ≡ 1
  one_assembly = refl

  pub one_module : count m 0x00 ≡ 1
  one_module = refl

  pub some_types : 1 ≤ count m 0x02
  some_types =
      let some = ltb-true 0 (length m.types) parts.types in
      let long = count_types m in
      omega arith

  pub some_name : 0 < length m.name
  some_name = ltb-true 0 (length m.name) parts.name
