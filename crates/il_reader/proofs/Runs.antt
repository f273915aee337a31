-- The clauses of a section, one after the other.
use Rattle.std.proofs.Common.{◌≡◌, ℕ, ◌+◌, ◌-◌, ◌*◌, ◌/◌, ◌<◌, true, false, List, [], ◌∷◌, ◌++◌}
use Rattle.std.proofs.Common.{map, refl, sym, ap, ◌∙◌, append_assoc, arith}
use Rattle.std.specs.List.{list_all, range_with_len}
use Rattle.std.proofs.lemmas.List.Folds.{list_all-append, list_all_at}
use Rattle.std.proofs.lemmas.List.FromFn.{map-range_with_len_more, get_or-map-range_with_len}
use Rattle.std.proofs.lemmas.List.FromFn.{length-map-range_with_len}
use Rattle.il_reader.specs.declared.section.Clause.{Clause}
use Rattle.il_reader.specs.declared.section.Section.{Section}
use Rattle.il_reader.specs.Sections.{header_len, is_known, clause_at, clause_of, clause_len, clause_count}
use Rattle.il_reader.specs.Reading.{section_of}

-- one clause more
pub pushed : (f : ℕ → Clause) (old : List Clause) (n : ℕ) →
    (old ++ map f (range_with_len 0 n)) ++ f n ∷ [] ≡ old ++ map f (range_with_len 0 (n + 1))
pushed f old n =
    append_assoc old (map f (range_with_len 0 n)) (f n ∷ [])
    ∙ ap (λ cs. old ++ cs) (sym (map-range_with_len_more f 0 n n (omega arith)))

-- one more that is known
pub known_more : (f : ℕ → Clause) (n : ℕ) → list_all is_known (map f (range_with_len 0 n)) ≡ true →
    is_known (f n) ≡ true → list_all is_known (map f (range_with_len 0 (n + 1))) ≡ true
known_more f n before here =
    ap (list_all is_known) (map-range_with_len_more f 0 n n (omega arith))
    ∙ list_all-append is_known (map f (range_with_len 0 n)) (f n ∷ [])
    ∙ rw (before, here) refl

-- one that is not known
pub unknown_at : (f : ℕ → Clause) (n count : ℕ) → n < count → is_known (f n) ≡ false →
    list_all is_known (map f (range_with_len 0 count)) ≡ false
unknown_at f n count below here =
    list_all_at is_known (map f (range_with_len 0 count)) n (f n)
    (rw length-map-range_with_len below)
    (rw (get_or-map-range_with_len f 0 count n n (f n) below (omega arith)) here)

-- how many clauses a section has, by its header
pub count_is : (bytes : List ℕ) (section : Section) (at len : ℕ) → section ≡ section_of bytes at →
    len ≡ clause_len section.is_wide → (section.len - header_len) / len ≡ clause_count bytes at
count_is bytes section at len is len-is =
    ap (λ l. (section.len - header_len) / l) len-is
    ∙ ap (λ (s : Section). (s.len - header_len) / clause_len s.is_wide) is

-- its n-th clause
pub clause_is : (bytes : List ℕ) (section : Section) (at len n : ℕ) (clause : Clause) →
    section ≡ section_of bytes at → len ≡ clause_len section.is_wide →
    clause ≡ clause_at bytes section.is_wide (section.at + header_len + len * n) →
    clause ≡ clause_of bytes at n
unfolding clause_of
clause_is bytes section at len n clause is len-is read =
    read ∙ (ap (λ l. clause_at bytes section.is_wide (section.at + header_len + l * n)) len-is
    ∙ ap (λ (s : Section). clause_at bytes s.is_wide (s.at + header_len + clause_len s.is_wide * n)) is)
