-- What the rows of a module add to the heaps is bounded by the lengths of its texts and its blobs.
use Rattle.std.proofs.Common.{◌≡◌, ℕ, ◌+◌, ◌≤◌, ◌==◌, Bool, true, false, List, [], ◌∷◌, ◌++◌, map, length, refl, sym, subst, ◌∙◌, arith, inl, inr, if◌then◌else◌, le_of_eq, le_trans, subst₂}
use Rattle.std.specs.List.{flat_map, filter, range_with_len, sum_by}
use Rattle.std.proofs.lemmas.Bool.{cases_eq}
use Rattle.std.proofs.lemmas.Bool.Decides.{nat_tests}
use Rattle.std.proofs.lemmas.List.Sums.{sum_by-cons, sum_by-append, sum_by-le-sum_by}
use Rattle.std.proofs.lemmas.List.{length-map}
use Rattle.cli_words.specs.Text.{bytes_of}
use Rattle.assembly_name.specs.declared.version.AssemblyRef.{AssemblyRef}
use Rattle.image_maker.specs.declared.module.Module.{Module}
use Rattle.image_maker.specs.declared.module.TypeRefRow.{TypeRefRow}
use Rattle.image_maker.specs.declared.module.TypeRow.{TypeRow}
use Rattle.image_maker.specs.declared.module.FieldRow.{FieldRow}
use Rattle.image_maker.specs.declared.module.MethodRow.{MethodRow}
use Rattle.image_maker.specs.declared.module.MemberRow.{MemberRow}
use Rattle.image_maker.specs.declared.module.Cell.{Cell}
use Rattle.image_maker.specs.declared.module.Cell.TheVariants.{Number, Text, Bytes}
use Rattle.image_maker.specs.Rows.{module_row, type_ref_row, type_row, type_rows, field_row, method_row, method_rows, member_row, spec_row, assembly_row, reference_row, all_fields, all_methods, given_rows, rows_of}
use Rattle.image_maker.specs.Sound.{count, texts_in, all_texts}
use Rattle.image_maker.specs.Size.{blobs_in, all_blobs, row_count}
use Rattle.image_maker.proofs.ListSums.{sum_by-flat_map, sum_by-map, sum_by-add, if_at, at_this, once, of_number, parts-le}
use Rattle.image_maker.proofs.RowCounts.{length_types, length_methods}
use Rattle.image_maker.proofs.LengthHeaps.{heap_part, row_part, text_part, bytes_part}

-- what the rows of texts, and of blobs, count for
abbrev pub texts_len : List (List ℕ) → ℕ
texts_len texts = sum_by (λ text. length text + 1) texts

abbrev pub blobs_len : List (List ℕ) → ℕ
blobs_len blobs = sum_by (λ blob. length blob + 4) blobs

-- rows that have a name and a signature each
named-le : {X : Type 0} (row : X → List Cell) (name sig : X → List ℕ)
    → ((x : X) → row_part (row x) ≤ length (name x) + 1 + (length (sig x) + 4)) → (xs : List X)
    → sum_by row_part (map row xs) ≤ texts_len (map name xs) + blobs_len (map sig xs)
named-le row name sig each xs =
    let rows = sum_by-map row_part row xs in
    let names = sum_by-map (λ text. length text + 1) name xs in
    let sigs = sum_by-map (λ blob. length blob + 4) sig xs in
    let all = sum_by-le-sum_by (λ x. row_part (row x)) (λ x. length (name x) + 1 + (length (sig x) + 4)) xs each in
    let apart = sum_by-add (λ x. length (name x) + 1) (λ x. length (sig x) + 4) xs in
    omega arith

type_refs-le : (rows : List TypeRefRow) → sum_by row_part (map type_ref_row rows)
    ≤ texts_len (flat_map (λ t. t.name ∷ t.space ∷ []) rows)
type_refs-le rows =
    let texts = sum_by-flat_map (λ text. length text + 1) (λ t. t.name ∷ t.space ∷ []) rows in
    let all = sum_by-map row_part type_ref_row rows in
    let each = sum_by-le-sum_by (λ t. row_part (type_ref_row t))
    (λ t. texts_len (t.name ∷ t.space ∷ [])) rows
    (λ t. let name = text_part t.name in let space = text_part t.space in omega arith) in
    omega arith

types-le : (field method : ℕ) (types : List TypeRow) → sum_by row_part (type_rows field method types)
    ≤ texts_len (flat_map (λ t. t.name ∷ t.space ∷ []) types)
types-le field method [] = omega arith
types-le field method (t ∷ types) =
    let row = type_row t field method in
    let rest = types-le (field + length t.fields) (method + length t.methods) types in
    let first = sum_by-cons row_part row
    (type_rows (field + length t.fields) (method + length t.methods) types) in
    let name = text_part t.name in
    let space = text_part t.space in
    let texts = sum_by-append (λ text. length text + 1) (t.name ∷ t.space ∷ [])
    (flat_map (λ t. t.name ∷ t.space ∷ []) types) in
    omega arith

fields-le : (fields : List FieldRow) → sum_by row_part (map field_row fields)
    ≤ texts_len (map (λ f. f.name) fields) + blobs_len (map (λ f. f.sig) fields)
fields-le fields =
    named-le field_row (λ f. f.name) (λ f. f.sig)
    (λ f. let name = text_part f.name in let sig = bytes_part f.sig in omega arith) fields

methods-le : (rva : ℕ → ℕ) (n param : ℕ) (methods : List MethodRow)
    → sum_by row_part (method_rows rva n param methods)
    ≤ texts_len (map (λ f. f.name) methods) + blobs_len (map (λ f. f.sig) methods)
methods-le rva n param [] = omega arith
methods-le rva n param (m ∷ methods) =
    let rest = methods-le rva (n + 1) (param + m.params) methods in
    let first = sum_by-cons row_part (method_row m (rva n) param)
    (method_rows rva (n + 1) (param + m.params) methods) in
    let name = text_part m.name in
    let sig = bytes_part m.sig in
    let texts = sum_by-cons (λ text. length text + 1) m.name (map (λ f. f.name) methods) in
    let blobs = sum_by-cons (λ blob. length blob + 4) m.sig (map (λ f. f.sig) methods) in
    omega arith

members-le : (members : List MemberRow) → sum_by row_part (map member_row members)
    ≤ texts_len (map (λ f. f.name) members) + blobs_len (map (λ f. f.sig) members)
members-le members =
    named-le member_row (λ r. r.name) (λ r. r.sig)
    (λ r. let name = text_part r.name in let sig = bytes_part r.sig in omega arith) members

specs-le : (specs : List (List ℕ)) → sum_by row_part (map spec_row specs) ≤ blobs_len specs
specs-le specs =
    let rows = sum_by-map row_part spec_row specs in
    let all = sum_by-le-sum_by (λ x. row_part (spec_row x)) (λ blob. length blob + 4) specs
    (λ x. let sig = bytes_part x in omega arith) in
    omega arith

refs-le : (refs : List AssemblyRef) → sum_by row_part (map reference_row refs)
    ≤ texts_len (map (λ r. bytes_of r.name) refs)
refs-le refs =
    let names = sum_by-map (λ text. length text + 1) (λ r. bytes_of r.name) refs in
    let rows = sum_by-map row_part reference_row refs in
    let all = sum_by-le-sum_by (λ r. row_part (reference_row r)) (λ r. length (bytes_of r.name) + 1) refs
    (λ r. let name = text_part (bytes_of r.name) in omega arith) in
    omega arith

-- a row that is given
cells-le : (row : List Cell) → row_part row ≤ texts_len (texts_in row) + blobs_len (blobs_in row)
cells-le [] = omega arith
cells-le (Number value ∷ cells) =
    let rest = cells-le cells in
    let first = sum_by-cons heap_part (Number value) cells in
    omega arith
cells-le (Text bytes ∷ cells) =
    let rest = cells-le cells in
    let first = sum_by-cons heap_part (Text bytes) cells in
    let part = text_part bytes in
    let texts = sum_by-cons (λ text. length text + 1) bytes (texts_in cells) in
    omega arith
cells-le (Bytes bytes ∷ cells) =
    let rest = cells-le cells in
    let first = sum_by-cons heap_part (Bytes bytes) cells in
    let part = bytes_part bytes in
    let blobs = sum_by-cons (λ blob. length blob + 4) bytes (blobs_in cells) in
    omega arith

given-le : (rows : List (ℕ × List Cell)) → sum_by (λ r. row_part r.1) rows
    ≤ texts_len (flat_map (λ r. texts_in r.1) rows) + blobs_len (flat_map (λ r. blobs_in r.1) rows)
given-le rows =
    let texts = sum_by-flat_map (λ text. length text + 1) (λ r. texts_in r.1) rows in
    let blobs = sum_by-flat_map (λ blob. length blob + 4) (λ r. blobs_in r.1) rows in
    let each = sum_by-le-sum_by (λ r. row_part r.1) (λ r. texts_len (texts_in r.1) + blobs_len (blobs_in r.1)) rows
    (λ r. cells-le r.1) in
    let apart = sum_by-add (λ r. texts_len (texts_in r.1)) (λ r. blobs_len (blobs_in r.1)) rows in
    omega arith

-- what each row of a table adds, table by table: of those of a module, and of those that are given
module _ (part : List Cell → ℕ) where
  step-le : (t n : ℕ) (xs ys : List (List Cell)) (most : ℕ) → sum_by part ys ≤ most
      → sum_by part (if t == n then xs else ys) ≤ if_at n (sum_by part xs) t + most
  step-le t n xs ys most rest =
      let most_of : Bool → Type 0 =
      λ b. sum_by part (if b then xs else ys) ≤ if_at n (sum_by part xs) t + most in
      elim (cases_eq t n) [
        | inl here ↦
            let value = at_this n (sum_by part xs) t (sym here) in
            let test : (t == n) ≡ true = grind (arith, nat_tests) in
            subst most_of (sym test) (omega arith)
        | inr elsewhere ↦
            let test : (t == n) ≡ false = grind (arith, nat_tests) in
            subst most_of (sym test) (omega arith)
      ]

  -- what a table adds at most
  abbrev table_part : Module → (ℕ → ℕ) → ℕ → ℕ
  table_part m rva t =
      if_at 0x00 (sum_by part (module_row m ∷ [])) t
      + (if_at 0x01 (sum_by part (map type_ref_row m.type_refs)) t
      + (if_at 0x02 (sum_by part (type_rows 1 1 m.types)) t
      + (if_at 0x04 (sum_by part (map field_row (all_fields m))) t
      + (if_at 0x06 (sum_by part (method_rows rva 1 1 (all_methods m))) t
      + (if_at 0x0A (sum_by part (map member_row m.members)) t
      + (if_at 0x1B (sum_by part (map spec_row m.specs)) t
      + (if_at 0x20 (sum_by part (assembly_row m ∷ [])) t
      + (if_at 0x23 (sum_by part (map reference_row m.refs)) t
      + of_number (λ r. part r.1) m.rows t))))))))

  table-le : (m : Module) (rva : ℕ → ℕ) (t : ℕ) → sum_by part (rows_of m rva t) ≤ table_part m rva t
  table-le m rva t =
      step-le t 0x00 (module_row m ∷ []) _ _
      (step-le t 0x01 (map type_ref_row m.type_refs) _ _
      (step-le t 0x02 (type_rows 1 1 m.types) _ _
      (step-le t 0x04 (map field_row (all_fields m)) _ _
      (step-le t 0x06 (method_rows rva 1 1 (all_methods m)) _ _
      (step-le t 0x0A (map member_row m.members) _ _
      (step-le t 0x1B (map spec_row m.specs) _ _
      (step-le t 0x20 (assembly_row m ∷ []) _ _
      (step-le t 0x23 (map reference_row m.refs) (given_rows t m.rows) (of_number (λ r. part r.1) m.rows t)
      (le_of_eq (sum_by-map part (λ r. r.1) (filter (λ r. r.0 == t) m.rows)))))))))))

  -- and all tables together
  add-le : (len n v : ℕ) (rest : ℕ → ℕ) (most : ℕ) → sum_by rest (range_with_len 0 len) ≤ most
      → sum_by (λ t. if_at n v t + rest t) (range_with_len 0 len) ≤ v + most
  add-le len n v rest most h =
      let apart = sum_by-add (if_at n v) rest (range_with_len 0 len) in
      let one = once n v 0 len in
      omega arith

  -- what the tables add at most
  abbrev all_parts : Module → (ℕ → ℕ) → ℕ
  all_parts m rva =
      sum_by part (module_row m ∷ [])
      + (sum_by part (map type_ref_row m.type_refs)
      + (sum_by part (type_rows 1 1 m.types)
      + (sum_by part (map field_row (all_fields m))
      + (sum_by part (method_rows rva 1 1 (all_methods m))
      + (sum_by part (map member_row m.members)
      + (sum_by part (map spec_row m.specs)
      + (sum_by part (assembly_row m ∷ [])
      + (sum_by part (map reference_row m.refs)
      + sum_by (λ r. part r.1) m.rows))))))))

  tables-le : (m : Module) (rva : ℕ → ℕ) (len : ℕ)
      → sum_by (table_part m rva) (range_with_len 0 len) ≤ all_parts m rva
  tables-le m rva len =
      add-le len _ _ _ _ (add-le len _ _ _ _ (add-le len _ _ _ _ (add-le len _ _ _ _ (add-le len _ _ _ _
      (add-le len _ _ _ _ (add-le len _ _ _ _ (add-le len _ _ _ _ (add-le len _ _ _ _
      (parts-le (λ r. part r.1) m.rows 0 len)))))))))

  -- the rows of the tables below one
  own-le : (m : Module) (rva : ℕ → ℕ) (end : ℕ)
      → sum_by (λ table. sum_by part (rows_of m rva table)) (range_with_len 0 end) ≤ all_parts m rva
  own-le m rva end =
      le_trans (sum_by-le-sum_by (λ table. sum_by part (rows_of m rva table)) (table_part m rva)
      (range_with_len 0 end) (table-le m rva)) (tables-le m rva end)

module _ {X : Type 0} (f : X → ℕ) where
  five : (a b c d e : List X) → sum_by f (a ++ (b ++ (c ++ (d ++ e))))
      ≡ sum_by f a + (sum_by f b + (sum_by f c + (sum_by f d + sum_by f e)))
  five a b c d e =
      let first = sum_by-append f a (b ++ (c ++ (d ++ e))) in
      let second = sum_by-append f b (c ++ (d ++ e)) in
      let third = sum_by-append f c (d ++ e) in
      let fourth = sum_by-append f d e in
      omega arith

  eight : (x : X) (a b c d e g h : List X) → sum_by f (x ∷ a ++ (b ++ (c ++ (d ++ (e ++ (g ++ h))))))
      ≡ f x + (sum_by f a + (sum_by f b + (sum_by f c + (sum_by f d + (sum_by f e + (sum_by f g + sum_by f h))))))
  eight x a b c d e g h =
      let rest = c ++ (d ++ (e ++ (g ++ h))) in
      let one = sum_by-cons f x (a ++ (b ++ rest)) in
      let first = sum_by-append f a (b ++ rest) in
      let second = sum_by-append f b rest in
      let others = five c d e g h in
      one ∙ omega arith

texts_split : (m : Module) → texts_len (all_texts m) ≡ length m.name + 1
    + (texts_len (map (λ r. bytes_of r.name) m.refs)
    + (texts_len (flat_map (λ t. t.name ∷ t.space ∷ []) m.type_refs)
    + (texts_len (flat_map (λ t. t.name ∷ t.space ∷ []) m.types)
    + (texts_len (map (λ f. f.name) (all_fields m))
    + (texts_len (map (λ f. f.name) (all_methods m))
    + (texts_len (map (λ r. r.name) m.members)
    + texts_len (flat_map (λ r. texts_in r.1) m.rows)))))))
texts_split m =
    eight (λ text. length text + 1) m.name (map (λ r. bytes_of r.name) m.refs)
    (flat_map (λ t. t.name ∷ t.space ∷ []) m.type_refs) (flat_map (λ t. t.name ∷ t.space ∷ []) m.types)
    (map (λ f. f.name) (all_fields m)) (map (λ f. f.name) (all_methods m)) (map (λ r. r.name) m.members)
    (flat_map (λ r. texts_in r.1) m.rows)

pub blobs_split : (m : Module) → blobs_len (all_blobs m) ≡ blobs_len (map (λ f. f.sig) (all_fields m))
    + (blobs_len (map (λ f. f.sig) (all_methods m))
    + (blobs_len (map (λ r. r.sig) m.members)
    + (blobs_len m.specs
    + blobs_len (flat_map (λ r. blobs_in r.1) m.rows))))
blobs_split m =
    five (λ blob. length blob + 4) (map (λ f. f.sig) (all_fields m)) (map (λ f. f.sig) (all_methods m))
    (map (λ r. r.sig) m.members) m.specs (flat_map (λ r. blobs_in r.1) m.rows)

-- a module's name stands in two rows
parts-le-lens : (m : Module) (rva : ℕ → ℕ) → all_parts row_part m rva
    ≤ length m.name + 1 + texts_len (all_texts m) + blobs_len (all_blobs m)
parts-le-lens m rva =
    let name = text_part m.name in
    let refs = refs-le m.refs in
    let type_refs = type_refs-le m.type_refs in
    let types = types-le 1 1 m.types in
    let fields = fields-le (all_fields m) in
    let methods = methods-le rva 1 1 (all_methods m) in
    let members = members-le m.members in
    let specs = specs-le m.specs in
    let given = given-le m.rows in
    subst₂ (λ t b. all_parts row_part m rva ≤ length m.name + 1 + t + b) (sym (texts_split m)) (sym (blobs_split m))
    (omega arith)

-- what the rows of a module's tables below one add to the heaps
pub rows-le : (m : Module) (rva : ℕ → ℕ) (end : ℕ)
    → sum_by (λ table. sum_by row_part (rows_of m rva table)) (range_with_len 0 end)
    ≤ length m.name + 1 + texts_len (all_texts m) + blobs_len (all_blobs m)
rows-le m rva end = le_trans (own-le row_part m rva end) (parts-le-lens m rva)

-- each row counts for one
module _ {X : Type 0} where
  abbrev one : X → ℕ
  one x = 1

  ones : (xs : List X) → sum_by one xs ≡ length xs
  ones [] = refl
  ones (x ∷ xs) =
      let more = sum_by-cons one x xs in
      let rest = ones xs in
      omega arith

pub counts-le : (m : Module) → sum_by (count m) (range_with_len 0 45) ≤ row_count m
counts-le m =
    let rva : ℕ → ℕ = λ n. 0 in
    let given = ones m.rows in
    let each = sum_by-le-sum_by (count m) (λ table. sum_by one (rows_of m rva table)) (range_with_len 0 45)
    (λ table. le_of_eq (sym (ones (rows_of m rva table)))) in
    let own = own-le one m rva 45 in
    let type_refs = ones (map type_ref_row m.type_refs) ∙ length-map m.type_refs type_ref_row in
    let types = ones (type_rows 1 1 m.types) ∙ length_types 1 1 m.types in
    let fields = ones (map field_row (all_fields m)) ∙ length-map (all_fields m) field_row in
    let methods = ones (method_rows rva 1 1 (all_methods m)) ∙ length_methods rva 1 1 (all_methods m) in
    let members = ones (map member_row m.members) ∙ length-map m.members member_row in
    let specs = ones (map spec_row m.specs) ∙ length-map m.specs spec_row in
    let refs = ones (map reference_row m.refs) ∙ length-map m.refs reference_row in
    le_trans each (le_trans own (omega arith))
