-- A body by what was read before its sections, and by its sections.
use Rattle.std.proofs.Common.{◌≡◌, ℕ, ◌+◌, Bool, true, false, cond, ◌⊎◌, inl, inr, List, [], ◌∷◌}
use Rattle.std.proofs.Common.{Some, None, IsTrue, ◌&&◌, nat_eq, nat_le, length, refl, sym, subst}
use Rattle.std.proofs.Common.{ap, ◌∙◌, arith, eqb-true}
use Rattle.il_reader.specs.declared.section.Clause.{Clause}
use Rattle.il_reader.specs.declared.body.Head.{Head}
use Rattle.il_reader.specs.declared.body.Body.{Body}
use Rattle.il_reader.specs.Sections.{AreSections, clauses_in, has_more, section_len}
use Rattle.il_reader.specs.Bodies.{IsBody, is_tiny, is_fat, form_bits, tiny_end, has_fat_head}
use Rattle.il_reader.specs.Bodies.{has_sections, fat_end, fat_body, tiny_len}
use Rattle.il_reader.specs.Reading.{tiny_head, fat_head, head_at}

-- what a choice among two values and nothing says of its tests
which : {X : Type 0} (b d : Bool) (x y z : X) →
    Some z ≡ cond b (Some x) (cond d (Some y) None) →
    ((b ≡ true) × (z ≡ x)) ⊎ ((b ≡ false) × (d ≡ true) × (z ≡ y))
which true d x y z e = inl (refl, cc)
which false true x y z e = inr (refl, refl, cc)
which false false x y z e = cc

-- a head is a tiny body's or a fat one's
which_head : (bytes : List ℕ) (at : ℕ) (head : Head) → Some head ≡ head_at bytes at →
    ((is_tiny bytes at ≡ true) × (head ≡ tiny_head bytes at))
    ⊎ ((is_tiny bytes at ≡ false) × (is_fat bytes at ≡ true) × (head ≡ fat_head bytes at))
which_head bytes at head found =
    which (is_tiny bytes at) (is_fat bytes at) (tiny_head bytes at) (fat_head bytes at) head found

-- sections stand after a head, where it says that they follow
abbrev pub Follow : List ℕ → List ℕ → Head → Type 0
Follow bytes places head =
    AreSections bytes head.has_sections (head.code.at + head.code.len) places

abbrev pub body_of : Head → List Clause → Body
body_of head clauses = record {
  max_stack = head.max_stack;
  init_locals = head.init_locals;
  locals = head.locals;
  code = head.code;
  clauses = clauses;
}

no_sections : (bytes : List ℕ) (end : ℕ) (places : List ℕ) → AreSections bytes false end places →
    places ≡ []
no_sections bytes end [] h = refl
no_sections bytes end (at ∷ places) h = absurd (cc (h.0))

pub stands : (bytes : List ℕ) (at : ℕ) (head : Head) (clauses : List Clause) →
    Some head ≡ head_at bytes at →
    (places : List ℕ) × Follow bytes places head × (clauses ≡ clauses_in bytes places) →
    IsBody bytes at (body_of head clauses)
stands bytes at head clauses found sections =
    let places : List ℕ = sections.0 in
    elim (which_head bytes at head found) [
      | inl h ↦
          let none =
          no_sections bytes (at + 1 + tiny_len bytes at) places
          (subst (Follow bytes places) h.1 sections.1) in
          inl (
            h.0,
            ap (λ k. body_of k clauses) h.1
                ∙ ap (body_of (tiny_head bytes at)) (sections.2 ∙ ap (clauses_in bytes) none),
          )
      | inr h ↦
          inr (
            h.1,
            places,
            subst (Follow bytes places) h.2 sections.1,
            ap (λ k. body_of k clauses) h.2 ∙ ap (body_of (fat_head bytes at)) sections.2,
          )
    ]

pub none_stands : (bytes : List ℕ) (at : ℕ) (head : Head) → Some head ≡ head_at bytes at →
    ((places : List ℕ) → ¬ Follow bytes places head) → (body : Body) → ¬ IsBody bytes at body
none_stands bytes at head found fails body is =
    elim (which_head bytes at head found) [
      | inl h ↦ fails [] (ap (λ (k : Head). k.has_sections) h.1)
      | inr h ↦ elim is [
        | inl tiny ↦ absurd (cc (tiny.0, h.0))
        | inr fat ↦ fails fat.1 (subst (Follow bytes fat.1) (sym h.2) fat.2)
      ]
    ]

both_left : (a b : Bool) → IsTrue (a && b) → a ≡ true
both_left true b h = refl
both_left false b h = h

-- the two lowest bits tell the forms apart
not_both : (bytes : List ℕ) (at : ℕ) → IsTrue (is_tiny bytes at) → IsTrue (is_fat bytes at) → ⊥
not_both bytes at tiny fat =
    let bits : ℕ = form_bits bytes at in
    let short : Bool = nat_le (tiny_end bytes at) (length bytes) in
    let two = eqb-true bits 2 (both_left (nat_eq bits 2) short tiny) in
    let three = eqb-true bits 3 (both_left (nat_eq bits 3) (has_fat_head bytes at) fat) in
    omega (arith, two, three)

-- the sections that are due after a place are one list
one_chain : (bytes : List ℕ) (due : Bool) (end : ℕ) (xs ys : List ℕ) →
    AreSections bytes due end xs → AreSections bytes due end ys → xs ≡ ys
one_chain bytes due end [] [] p q = refl
one_chain bytes due end [] (y ∷ ys) p q = let here = q.0 in absurd (cc (p, here))
one_chain bytes due end (x ∷ xs) [] p q = let here = p.0 in absurd (cc (here, q))
one_chain bytes due end (x ∷ xs) (y ∷ ys) p q =
    let here : x ≡ y = p.1 ∙ sym q.1 in
    let After : ℕ → Type 0 =
    λ k. AreSections bytes (has_more bytes k) (k + section_len bytes k) ys in
    let rest =
    one_chain bytes (has_more bytes x) (x + section_len bytes x) xs ys p.3
    (subst After (sym here) q.3) in
    cc (here, rest)

-- one body stands at a place
pub one_body : (bytes : List ℕ) (at : ℕ) (a b : Body) → IsBody bytes at a → IsBody bytes at b →
    a ≡ b
one_body bytes at a b p q =
    elim p [
      | inl tiny ↦ elim q [
        | inl other ↦ tiny.1 ∙ sym other.1
        | inr fat ↦ absurd (not_both bytes at tiny.0 fat.0)
      ]
      | inr fat ↦ elim q [
        | inl tiny ↦ absurd (not_both bytes at tiny.0 fat.0)
        | inr other ↦
            let same =
            one_chain bytes (has_sections bytes at) (fat_end bytes at) fat.1 other.1
            fat.2 other.2 in
            fat.3 ∙ (ap (fat_body bytes at) same ∙ sym other.3)
      ]
    ]
