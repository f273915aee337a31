-- What is counted of a module.
use Rattle.std.proofs.Common.{◌≡◌, ℕ, ◌+◌, ◌<◌, ◌&&◌, List, [], ◌∷◌, ◌++◌, length, map, get_or, take, refl, sym, ap, subst, ◌∙◌, arith}
use Rattle.std.specs.List.{flat_map, list_all, sum_by}
use Rattle.std.proofs.Math.Bool.{and_assoc}
use Rattle.std.proofs.lemmas.List.{append-nil, map-append}
use Rattle.std.proofs.lemmas.List.Concat.{flat_map-append, flat_map_single}
use Rattle.std.proofs.lemmas.List.Folds.{list_all-append}
use Rattle.std.proofs.lemmas.List.Sums.{sum_by-append, sum_by-cons}
use Rattle.assembly_name.specs.declared.version.AssemblyRef.{AssemblyRef}
use Rattle.cli_words.specs.Text.{bytes_of}
use Rattle.image_maker.specs.declared.module.Module.{Module}
use Rattle.image_maker.specs.declared.module.TypeRow.{TypeRow}
use Rattle.image_maker.specs.declared.module.FieldRow.{FieldRow}
use Rattle.image_maker.specs.declared.module.MethodRow.{MethodRow}
use Rattle.image_maker.specs.declared.module.MemberRow.{MemberRow}
use Rattle.image_maker.specs.declared.module.Cell.{Cell}
use Rattle.image_maker.specs.declared.module.Cell.TheVariants.{Number, Text, Bytes}
use Rattle.image_maker.specs.declared.tally.Tally.{Tally}
use Rattle.image_maker.specs.Rows.{all_fields, all_methods}
use Rattle.image_maker.specs.Sound.{all_texts, texts_in, has_no_zero}
use Rattle.image_maker.specs.Size.{blobs_in, all_blobs, body_size}
use Rattle.image_maker.specs.Tally.{Adds, is_short, text_size, cell_texts, cell_bytes, method_bytes, module_bytes}
use Rattle.image_maker.proofs.LengthRows.{blobs_split}
use Rattle.image_maker.proofs.ListSums.{sum_by-map, sum_by-flat_map, sum_by-add, sum_by-same, flat_map-same, sum_of_none}
use Rattle.image_maker.proofs.ListSteps.{take_next}

no_texts : {X : Type 0} (xs : List X) → flat_map {A = List ℕ} (λ x. []) xs ≡ []
no_texts [] = refl
no_texts (x ∷ xs) = no_texts xs

-- one after the other
pub adds : (texts more : List (List ℕ)) (bytes others : ℕ) (old between new : Tally) → Adds texts bytes old between
    → Adds more others between new
    → Adds (texts ++ more) (bytes + others) old new
adds texts more bytes others old between new first second = record {
  no_zero = second.no_zero ∙ ap (λ b. b && list_all has_no_zero more) first.no_zero
      ∙ and_assoc old.has_no_zero (list_all has_no_zero texts) (list_all has_no_zero more)
      ∙ ap (λ b. old.has_no_zero && b) (sym (list_all-append has_no_zero texts more));
  short = second.short ∙ ap (λ b. b && list_all is_short more) first.short
      ∙ and_assoc old.is_short (list_all is_short texts) (list_all is_short more)
      ∙ ap (λ b. old.is_short && b) (sym (list_all-append is_short texts more));
  size =
      let total = sum_by-append text_size texts more in
      let one = first.size in
      let two = second.size in
      omega arith;
}

pub same_adds : (texts more : List (List ℕ)) (bytes others : ℕ) (old new : Tally) → Adds texts bytes old new
    → texts ≡ more → bytes ≡ others → Adds more others old new
same_adds texts more bytes others old new first e f =
    subst (λ n. Adds more n old new) f (subst (λ ts. Adds ts bytes old new) e first)

module _ (types : List TypeRow) (i : ℕ) (item : TypeRow) (within : i < length types) (is : item ≡ get_or types i item)
    (old between new : Tally) where
  one_more : {Y : Type 0} (part : TypeRow → List Y)
      → flat_map part (take (i + 1) types) ≡ flat_map part (take i types) ++ part item
  one_more part =
      ap (flat_map part) (take_next types i item within is) ∙ flat_map-append part (take i types) (item ∷ [])
      ∙ ap (λ ys. flat_map part (take i types) ++ ys) (append-nil (part item))

  module _ {Y : Type 0} (part : TypeRow → List Y) (name : Y → List ℕ) (bytes : Y → ℕ) where
    pub part_next : Adds (map name (flat_map part (take i types)))
        (sum_by bytes (flat_map part (take i types))) old between
        → Adds (flat_map (λ y. name y ∷ []) (part item)) (sum_by bytes (part item)) between new
        → Adds (map name (flat_map part (take (i + 1) types)))
        (sum_by bytes (flat_map part (take (i + 1) types))) old new
    part_next first second =
        same_adds _ _ _ _ old new (adds _ _ _ _ old between new first second)
        (ap (λ ns. map name (flat_map part (take i types)) ++ ns) (flat_map_single name (part item))
        ∙ sym (map-append name (flat_map part (take i types)) (part item)) ∙ ap (map name) (sym (one_more part)))
        (sym (sum_by-append bytes (flat_map part (take i types)) (part item))
        ∙ ap (sum_by bytes) (sym (one_more part)))

cells_texts : (cells : List Cell) → flat_map cell_texts cells ≡ texts_in cells
cells_texts [] = refl
cells_texts (Number value ∷ cells) = cells_texts cells
cells_texts (Text bytes ∷ cells) = ap (λ ts. bytes ∷ ts) (cells_texts cells)
cells_texts (Bytes bytes ∷ cells) = cells_texts cells

abbrev blob_size : List ℕ → ℕ
blob_size blob = length blob + 4

cells_bytes : (cells : List Cell) → sum_by cell_bytes cells ≡ sum_by blob_size (blobs_in cells)
cells_bytes [] = refl
cells_bytes (Number value ∷ cells) = cells_bytes cells
cells_bytes (Text bytes ∷ cells) = cells_bytes cells
cells_bytes (Bytes bytes ∷ cells) =
    let first = sum_by-cons cell_bytes (Bytes bytes) cells in
    let second = sum_by-cons blob_size bytes (blobs_in cells) in
    let rest = cells_bytes cells in
    omega arith

-- all of a module's texts and bytes
module _ (m : Module) where
  rows_texts : flat_map (λ r. flat_map cell_texts r.1) m.rows ≡ flat_map (λ r. texts_in r.1) m.rows
  rows_texts = flat_map-same (λ (r : ℕ × List Cell). flat_map cell_texts r.1) (λ r. texts_in r.1) m.rows
      (λ r. cells_texts r.1)

  rows_bytes : sum_by (λ r. sum_by cell_bytes r.1) m.rows ≡ sum_by blob_size (flat_map (λ r. blobs_in r.1) m.rows)
  rows_bytes =
      sum_by-same (λ (r : ℕ × List Cell). sum_by cell_bytes r.1) (λ r. sum_by blob_size (blobs_in r.1)) m.rows
      (λ r. cells_bytes r.1)
      ∙ sym (sum_by-flat_map blob_size (λ (r : ℕ × List Cell). blobs_in r.1) m.rows)

  blobs_total : sum_by blob_size (all_blobs m)
      ≡ sum_by (λ f. length f.sig + 4) (all_fields m) + (sum_by (λ f. length f.sig + 4) (all_methods m)
      + (sum_by (λ r. length r.sig + 4) m.members +
      (sum_by blob_size m.specs + sum_by (λ r. sum_by cell_bytes r.1) m.rows)))
  blobs_total =
      let parts = blobs_split m in
      let fields = sum_by-map blob_size (λ (f : FieldRow). f.sig) (all_fields m) in
      let methods = sum_by-map blob_size (λ (f : MethodRow). f.sig) (all_methods m) in
      let members = sum_by-map blob_size (λ (r : MemberRow). r.sig) m.members in
      let rows = rows_bytes in
      omega arith

  methods_total : sum_by method_bytes (all_methods m)
      ≡ sum_by (λ f. length f.sig + 4) (all_methods m) + sum_by body_size (all_methods m)
  methods_total = sum_by-add (λ (f : MethodRow). length f.sig + 4) body_size (all_methods m)

  module _ (t0 t1 t2 t3 t4 t5 t6 t7 t8 t9 t10 t11 t12 : Tally)
      (name : Adds (m.name ∷ []) 0 t0 t1)
      (refs : Adds (flat_map (λ r. bytes_of r.name ∷ []) m.refs) (sum_by (λ r. 0) m.refs) t1 t2)
      (type_refs : Adds (flat_map (λ t. t.name ∷ t.space ∷ []) m.type_refs) (sum_by (λ t. 0) m.type_refs) t2 t3)
      (types : Adds (flat_map (λ t. t.name ∷ t.space ∷ []) m.types) (sum_by (λ t. 0) m.types) t3 t4)
      (fields : Adds (map (λ f. f.name) (all_fields m)) (sum_by (λ f. length f.sig + 4) (all_fields m)) t4 t5)
      (methods : Adds (map (λ f. f.name) (all_methods m)) (sum_by method_bytes (all_methods m)) t5 t6)
      (members : Adds (flat_map (λ r. r.name ∷ []) m.members) (sum_by (λ r. length r.sig + 4) m.members) t6 t7)
      (rows : Adds (flat_map (λ r. flat_map cell_texts r.1) m.rows) (sum_by (λ r. sum_by cell_bytes r.1) m.rows) t7 t8)
      (specs : Adds (flat_map (λ s. []) m.specs) (sum_by blob_size m.specs) t8 t9)
      (streams : Adds (flat_map (λ s. []) m.streams) (sum_by (λ s. length s.1 + 64) m.streams) t9 t10)
      (user_strings : Adds [] (length m.user_strings + 0) t10 t11)
      (guids : Adds [] (length m.guids + 0) t11 t12) where
    -- no texts come last
    last : Adds (flat_map (λ r. texts_in r.1) m.rows)
        (sum_by (λ r. sum_by cell_bytes r.1) m.rows +
        (sum_by blob_size m.specs + (sum_by (λ s. length s.1 + 64) m.streams +
        (length m.user_strings + length m.guids)))) t7 t12
    last =
        let ends = adds [] [] (length m.user_strings + 0) (length m.guids + 0) t10 t11 t12 user_strings guids in
        let both = adds (flat_map (λ s. []) m.streams) [] _ _ t9 t10 t12 streams ends in
        let blobs = adds (flat_map (λ s. []) m.specs) _ _ _ t8 t9 t12 specs both in
        let all = adds (flat_map (λ r. flat_map cell_texts r.1) m.rows) _ _ _ t7 t8 t12 rows blobs in
        same_adds _ _ _ _ t7 t12 all
        (ap (λ ts. flat_map (λ r. flat_map cell_texts r.1) m.rows ++ (ts ++ (flat_map (λ s. []) m.streams ++ [])))
        (no_texts m.specs)
        ∙ ap (λ ts. flat_map (λ r. flat_map cell_texts r.1) m.rows ++ (ts ++ [])) (no_texts m.streams)
        ∙ append-nil (flat_map (λ r. flat_map cell_texts r.1) m.rows) ∙ rows_texts)
        (omega arith)

    pub tally_is : Adds (all_texts m) (module_bytes m) t0 t12
    tally_is =
        let named = same_adds _ (map (λ r. r.name) m.members) _ _ t6 t7 members
        (flat_map_single (λ (r : MemberRow). r.name) m.members) refl in
        let referenced = same_adds _ (map (λ r. bytes_of r.name) m.refs) _ _ t1 t2 refs
        (flat_map_single (λ (r : AssemblyRef). bytes_of r.name) m.refs) refl in
        let a = adds _ _ _ _ t6 t7 t12 named last in
        let b = adds _ _ _ _ t5 t6 t12 methods a in
        let d = adds _ _ _ _ t4 t5 t12 fields b in
        let e = adds _ _ _ _ t3 t4 t12 types d in
        let f = adds _ _ _ _ t2 t3 t12 type_refs e in
        let g = adds _ _ _ _ t1 t2 t12 referenced f in
        let h = adds (m.name ∷ []) _ _ _ t0 t1 t12 name g in
        same_adds _ (all_texts m) _ (module_bytes m) t0 t12 h refl
        (let i = sum_of_none m.refs in
        let j = sum_of_none m.type_refs in
        let k = sum_of_none m.types in
        let l = methods_total in
        let n = blobs_total in
        omega arith)
