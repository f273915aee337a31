-- Sections one after the other, some of which are behind.
use Rattle.std.proofs.Common.{◌≡◌, ℕ, ◌+◌, Bool, true, false, IsTrue, List, [], ◌∷◌, ◌++◌, refl}
use Rattle.std.proofs.Common.{sym, subst, ap, ◌∙◌, append_assoc}
use Rattle.std.proofs.lemmas.Grind.{flat_map-append}
use Rattle.std.proofs.lemmas.List.{append-nil}
use Rattle.il_reader.specs.declared.section.Clause.{Clause}
use Rattle.il_reader.specs.declared.section.Section.{Section}
use Rattle.il_reader.specs.Reading.{section_of}
use Rattle.il_reader.specs.Sections.{aligned, has_more, section_len, is_section, clauses_of}
use Rattle.il_reader.specs.Sections.{clauses_in, AreSections}

-- from one place and need of sections the reading has come to another, past just these clauses:
-- the sections from there on are what is left of all of them
pub record Behind (bytes : List ℕ) (due : Bool) (end : ℕ) (still : Bool) (from : ℕ)
    (clauses : List Clause) : Type 0 where
  pub places : List ℕ
  pub read : clauses ≡ clauses_in bytes places
  pub whole : (rest : List ℕ) → AreSections bytes still from rest →
      AreSections bytes due end (places ++ rest)
  pub split : (all : List ℕ) → AreSections bytes due end all →
      (rest : List ℕ) × (all ≡ places ++ rest) × AreSections bytes still from rest

pub none_behind : (bytes : List ℕ) (due : Bool) (end : ℕ) → Behind bytes due end due end []
none_behind bytes due end = record {
  places = [];
  read = refl;
  whole = λ rest h. h;
  split = λ all h. (all, refl, h);
}

-- what is left of all sections where one is due
next_is : (bytes : List ℕ) (still : Bool) (from at : ℕ) (rest : List ℕ) → still ≡ true →
    at ≡ aligned from → AreSections bytes still from rest →
    (after : List ℕ) × (rest ≡ at ∷ after) × IsTrue (is_section bytes at)
    × AreSections bytes (has_more bytes at) (at + section_len bytes at) after
next_is bytes still from at [] due here h = cc
next_is bytes still from at (k ∷ after) due here h =
    let same : k ≡ at = h.1 ∙ sym here in (
      after,
      ap (λ j. j ∷ after) same,
      subst (λ (j : ℕ). IsTrue (is_section bytes j)) same h.2,
      subst (λ (j : ℕ). AreSections bytes (has_more bytes j) (j + section_len bytes j) after)
          same h.3,
    )

-- one section more is behind
past : (bytes : List ℕ) (due : Bool) (end : ℕ) (still : Bool) (from : ℕ) (clauses : List Clause)
    (at : ℕ) → Behind bytes due end still from clauses → still ≡ true → at ≡ aligned from →
    IsTrue (is_section bytes at) →
    Behind bytes due end (has_more bytes at) (at + section_len bytes at)
    (clauses ++ clauses_of bytes at)
past bytes due end still from clauses at behind is here stands = record {
  places = behind.places ++ at ∷ [];
  read = ap (λ cs. cs ++ clauses_of bytes at) behind.read
      ∙ sym (flat_map-append (clauses_of bytes) behind.places (at ∷ [])
      ∙ ap (λ cs. clauses_in bytes behind.places ++ cs) (append-nil (clauses_of bytes at)));
  whole = λ rest h.
      subst (AreSections bytes due end) (sym (append_assoc behind.places (at ∷ []) rest))
      (behind.whole (at ∷ rest) (is, here, stands, h));
  split = λ all h.
      let left = behind.split all h in
      let next = next_is bytes still from at left.0 is here left.2 in (
        next.0,
        left.1 ∙ (ap (λ ks. behind.places ++ ks) next.1
            ∙ sym (append_assoc behind.places (at ∷ []) next.0)),
        next.3,
      );
}

-- the same by the section's header, and by the clauses that were read
pub one_more : (bytes : List ℕ) (due : Bool) (end : ℕ) (still : Bool) (from : ℕ)
    (clauses : List Clause) (at : ℕ) (section : Section) (read : List Clause) →
    Behind bytes due end still from clauses → still ≡ true → at ≡ aligned from →
    section ≡ section_of bytes at → IsTrue (is_section bytes at) →
    read ≡ clauses ++ clauses_of bytes section.at →
    Behind bytes due end section.has_more (section.at + section.len) read
one_more bytes due end still from clauses at section read behind is here header stands pushed =
    let more = past bytes due end still from clauses at behind is here stands in
    let same : read ≡ clauses ++ clauses_of bytes at =
    pushed ∙ ap (λ (s : Section). clauses ++ clauses_of bytes s.at) header in
    subst (λ (s : Section). Behind bytes due end s.has_more (s.at + s.len) read) (sym header)
    (subst (Behind bytes due end (has_more bytes at) (at + section_len bytes at)) (sym same) more)

-- no more is due
pub all_read : (bytes : List ℕ) (due : Bool) (end : ℕ) (still : Bool) (from : ℕ)
    (clauses : List Clause) → Behind bytes due end still from clauses → still ≡ false →
    (places : List ℕ) × AreSections bytes due end places × (clauses ≡ clauses_in bytes places)
all_read bytes due end still from clauses behind is = (
  behind.places ++ [],
  behind.whole [] is,
  behind.read ∙ ap (clauses_in bytes) (sym (append-nil behind.places)),
)

-- one is due where none stands
pub none_whole : (bytes : List ℕ) (due : Bool) (end : ℕ) (still : Bool) (from : ℕ)
    (clauses : List Clause) (at : ℕ) → Behind bytes due end still from clauses → still ≡ true →
    at ≡ aligned from → is_section bytes at ≡ false → (places : List ℕ) →
    ¬ AreSections bytes due end places
none_whole bytes due end still from clauses at behind is here fails places h =
    let left = behind.split places h in
    let next = next_is bytes still from at left.0 is here left.2 in
    absurd (cc (next.2, fails))
