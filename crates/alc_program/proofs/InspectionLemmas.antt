-- Lemmas on the texts of inspections.
use Rattle.std.proofs.Common.{◌≡◌, ℕ, zero, suc, ◌+◌, ◌-◌, ◌<◌, List, [], ◌∷◌, ◌++◌, length, Option, Some, None, refl, sym, ◌∙◌, ap, subst, append_assoc, append-nil, arith, eqb, cond, true, false, Bool, ◌/◌, ◌%◌}
use Rattle.std.specs.List.{flat_map, range_with_len}
use Rattle.std.specs.Prelude.{encode_utf8_all, nat_lt}
use Rattle.std.specs.Str.{IsUtf8, chars}
use Rattle.std.specs.Char.Escape.{encode_utf16}
use Rattle.std.specs.Char.Utf16.{is_high_surrogate}
use Rattle.std.proofs.lemmas.Str.{encodes-chars, encode_ascii}
use Rattle.std.proofs.lemmas.Bool.{cond_both, eqb-true}
use Rattle.cli_words.specs.Text.{units_of}
use Rattle.std.specs.declared.ops.Range.{Range}
use Rattle.metadata_tables.specs.Tables as tables
use Rattle.assembly_image.specs.declared.members.Member.{Member}
use Rattle.assembly_image.specs.Members.{after_list, list_of_kind, member_range, members_of, table_of}
use Rattle.assembly_image.specs.Module.{Module, number}
use Rattle.assembly_image.specs.Names.{encloser, full_name_within, has_type, qualified, type_name, type_namespace}
use Rattle.host_report.specs.declared.line.Line.{Line}
use Rattle.host_report.specs.Line.{Puts}
use Rattle.host_report.specs.Quote.{unit_text, units_text, IsApart}
use Rattle.host_report.proofs.LineLemmas.{puts_as, puts_then}
use Rattle.host_report.proofs.QuoteLemmas.{apart_joined, units_joined}

rows_from : (text : ℕ → List ℕ) (first n : ℕ) →
    flat_map text (range_with_len first (suc n)) ≡ flat_map text (range_with_len first n) ++ text (first + n)
rows_from text first zero = append-nil (text first) ∙ ap text (omega arith)
rows_from text first (suc n) =
    let same : first + 1 + n ≡ first + suc n = omega arith in
    ap (λ t. text first ++ t) (rows_from text (first + 1) n ∙ ap (λ m. flat_map text (range_with_len (first + 1) n) ++ text m) same)
    ∙ sym (append_assoc (text first) (flat_map text (range_with_len (first + 1) n)) (text (first + suc n)))

-- the text of the next row was put
pub puts_row : {S : Type 0} {written : S → Option (List ℕ)} {faults : S → ℕ} {old mid new : Line} {from via to : S} (text : ℕ → List ℕ) (first n more row : ℕ) →
    row ≡ first + n → more ≡ suc n →
    Puts written faults old from mid via (flat_map text (range_with_len first n)) →
    Puts written faults mid via new to (text row) →
    Puts written faults old from new to (flat_map text (range_with_len first more))
puts_row {S} {written} {faults} {old} {mid} {new} {from} {via} {to} text first n more row here next p q =
    let whole : flat_map text (range_with_len first n) ++ text row ≡ flat_map text (range_with_len first more) =
    ap (λ m. flat_map text (range_with_len first n) ++ text m) here
    ∙ sym (rows_from text first n)
    ∙ ap (λ m. flat_map text (range_with_len first m)) (sym next) in
    puts_as whole (puts_then p q)

-- a name within that of an encloser, and one that has none
pub named_inside : (m : Module) (most row outer : ℕ) → 0 < most → encloser m row ≡ Some outer →
    full_name_within m most row ≡ full_name_within m (most - 1) outer ++ 47 ∷ type_name m row
named_inside m zero row outer some e = absurd (omega arith)
named_inside m (suc most) row outer some e =
    rw e (ap (λ n. full_name_within m n outer ++ 47 ∷ type_name m row) (omega arith))

pub named_first : (m : Module) (most row : ℕ) → most ≡ 0 →
    full_name_within m most row ≡ qualified (type_namespace m row) (type_name m row)
named_first m most row none = rw none refl

pub named_alone : (m : Module) (most row : ℕ) → encloser m row ≡ None →
    full_name_within m most row ≡ qualified (type_namespace m row) (type_name m row)
named_alone m zero row e = refl
named_alone m (suc most) row e = rw e refl

-- the two characters between names
pub slash_text : unit_text 47 ≡ 47 ∷ []
slash_text = encode_ascii 47 (omega arith)

pub dot_text : unit_text 46 ≡ 46 ∷ []
dot_text = encode_ascii 46 (omega arith)

-- a namespace that is empty, and one that is not
pub without_namespace : (bytes namespace name : List ℕ) → length bytes ≡ 0 → namespace ≡ units_of bytes →
    qualified namespace name ≡ name
unfolding chars
without_namespace [] namespace name none e = rw e refl
without_namespace (b ∷ bytes) namespace name some e = absurd (omega arith)

some_units : (c : ℕ) (rest : List ℕ) → 0 < length (encode_utf16 c ++ rest)
some_units c rest =
    cond_both (nat_lt c 0x1_0000) (c ∷ []) ((0xD800 + (c - 0x1_0000) / 0x400) ∷ (0xDC00 + (c - 0x1_0000) % 0x400) ∷ [])
    (λ units. 0 < length (units ++ rest)) (λ _. omega arith) (λ _. omega arith)

units_some : (bytes seen : List ℕ) → IsUtf8 bytes → 0 < length bytes → seen ≡ chars bytes → 0 < length (flat_map encode_utf16 seen)
units_some bytes [] utf8 some e =
    let none : [] ≡ bytes = ap encode_utf8_all e ∙ encodes-chars bytes utf8 in
    absurd (omega (arith, ap length none))
units_some bytes (c ∷ cs) utf8 some e = some_units c (flat_map encode_utf16 cs)

pub within_namespace : (bytes namespace name : List ℕ) → IsUtf8 bytes → 0 < length bytes → namespace ≡ units_of bytes →
    qualified namespace name ≡ namespace ++ 46 ∷ name
within_namespace bytes namespace name utf8 some e =
    let filled : 0 < length namespace = subst (λ (u : List ℕ). 0 < length u) (sym e) (units_some bytes (chars bytes) utf8 some refl) in
    at namespace filled
  where
    at : (units : List ℕ) → 0 < length units → qualified units name ≡ units ++ 46 ∷ name
    at units some = cond_both (eqb (length units) 0) name (units ++ 46 ∷ name) (λ (whole : List ℕ). whole ≡ units ++ 46 ∷ name)
        (λ none. absurd (omega (arith, eqb-true (length units) 0 none))) (λ _. refl)

pub not_empty : (n : ℕ) (empty : Bool) → empty ≡ eqb n 0 → empty ≡ false → 0 < n
not_empty zero empty e f = cc
not_empty (suc n) empty e f = omega arith

-- the rows from the first of a type's members on, up to the one after the last
pub listed_members : (m : Module) (kind : Member) (row : ℕ) (found : Range ℕ) → found ≡ member_range m kind row →
    members_of m kind row ≡ range_with_len found.start (found.end - found.start)
listed_members m kind row found same = at (has_type m row) ∙ sym (ap (λ (r : Range ℕ). range_with_len r.start (r.end - r.start)) same)
  where
    first : ℕ
    first = number m tables.type_def row (list_of_kind kind)

    after : ℕ
    after = after_list m (table_of kind) row (list_of_kind kind)

    at : (there : Bool) → let found : Range ℕ = cond there (record { start = first; end = after }) (record { start = 0; end = 0 }) in
        cond there (range_with_len first (after - first)) [] ≡ range_with_len found.start (found.end - found.start)
    at true = refl
    at false = refl

-- a name after another and one unit between them
pub puts_joined : {S : Type 0} {written : S → Option (List ℕ)} {faults : S → ℕ} {old mid next new : Line} {from via through to : S} (outer name whole : List ℕ) (unit : ℕ) →
    is_high_surrogate unit ≡ false → unit_text unit ≡ unit ∷ [] → whole ≡ outer ++ unit ∷ name → IsApart outer →
    Puts written faults old from mid via (units_text outer) → Puts written faults mid via next through (unit ∷ []) →
    Puts written faults next through new to (units_text name) → Puts written faults old from new to (units_text whole)
puts_joined outer name whole unit low spelled same apart p q r =
    let joined : units_text whole ≡ (units_text outer ++ (unit ∷ [])) ++ units_text name =
    ap units_text same
    ∙ units_joined outer name unit apart low
    ∙ ap (λ t. (units_text outer ++ t) ++ units_text name) spelled in
    puts_as (sym joined) (puts_then (puts_then p q) r)

pub apart_whole : (outer name whole : List ℕ) (unit : ℕ) → is_high_surrogate unit ≡ false → whole ≡ outer ++ unit ∷ name →
    IsApart outer → IsApart name → IsApart whole
apart_whole outer name whole unit low same p q = subst IsApart (sym same) (apart_joined outer name unit p low q)
