-- What `find` finds among numbers in a row.
use Rattle.std.proofs.Common.{◌≡◌, ℕ, zero, suc, ◌+◌, ◌*◌, ◌<◌, Bool, true, false, List, [], ◌∷◌, map, Option, Some, None, inl, inr, refl, sym, ap, subst, ◌∙◌, add-zero, zero-add, arith}
use Rattle.std.proofs.lemmas.Bool.{cases_Bool}
use Rattle.std.specs.List.{find, range_with_len}
use Rattle.std.specs.Option.{option_map}
use Rattle.std.specs.Prelude.{MatchOption, IsTrue}
use Rattle.pe_image.specs.Section.{holds, span_from, span_of, IsFirstSpan}

pub find-passes : (p : ℕ → Bool) (xs : List ℕ) (x : ℕ) → Some x ≡ find p xs → p x ≡ true
find-passes p [] x e = absurd (cc)
find-passes p (y ∷ ys) x e =
    elim (cases_Bool (p y)) [ inl h ↦ (let e' : Some x ≡ Some y = rw h at e in cc) | inr h ↦ find-passes p ys x (rw h at e) ]

pub find-nowhere : (p : ℕ → Bool) (f : ℕ → ℕ) (a n : ℕ) → ((k : ℕ) → p (f k) ≡ false) → find p (map f (range_with_len a n)) ≡ None
find-nowhere p f a zero h = refl
find-nowhere p f a (suc n) h = rw (h a) (find-nowhere p f (a + 1) n h)

-- `p` holds for none of the n numbers from `a` on, and for the first of them that is found
abbrev NoneFrom : (ℕ → Bool) → (ℕ → ℕ) → ℕ → ℕ → Type 0
NoneFrom p f a n = (k : ℕ) → k < n → ¬ IsTrue (p (f (a + k)))

abbrev IsFirst : (ℕ → Bool) → (ℕ → ℕ) → ℕ → ℕ → Option ℕ → Type 0
IsFirst p f a n found =
    MatchOption found (NoneFrom p f a n)
    (λ x. (k : ℕ) × (k < n) × NoneFrom p f a k × IsTrue (p (f (a + k))) × (x ≡ f (a + k)))

-- one more number before the others, for which `p` does not hold
none_before : (p : ℕ → Bool) (f : ℕ → ℕ) (a n : ℕ) → p (f a) ≡ false → NoneFrom p f (a + 1) n → NoneFrom p f a (suc n)
none_before p f a n h rest zero l t = (let here : p (f a) ≡ true = rw add-zero at t in cc)
none_before p f a n h rest (suc k) l t =
    let same : a + suc k ≡ a + 1 + k = omega arith in rest k (omega arith) (subst (λ (m : ℕ). IsTrue (p (f m))) same t)

first_before : (p : ℕ → Bool) (f : ℕ → ℕ) (a n : ℕ) → p (f a) ≡ false → (found : Option ℕ)
    → IsFirst p f (a + 1) n found → IsFirst p f a (suc n) found
first_before p f a n h None rest = none_before p f a n h rest
first_before p f a n h (Some x) rest =
    let same : a + 1 + rest.0 ≡ a + suc rest.0 = omega arith in
    let below = rest.1 in
    (suc rest.0, omega arith, none_before p f a rest.0 h rest.2, subst (λ (m : ℕ). IsTrue (p (f m))) same rest.3, rest.4 ∙ ap f same)

find-first : (p : ℕ → Bool) (f : ℕ → ℕ) (a n : ℕ) → IsFirst p f a n (find p (map f (range_with_len a n)))
find-first p f a zero = λ k l. absurd (omega arith)
find-first p f a (suc n) =
    elim (cases_Bool (p (f a))) as (λ _. IsFirst p f a (suc n) (find p (map f (range_with_len a (suc n))))) [
      | inl h ↦ rw h (0, omega arith, λ j l. absurd (omega arith), rw add-zero h, ap f (sym (add-zero a)))
      | inr h ↦ rw h (first_before p f a n h _ (find-first p f (a + 1) n))
    ]

-- the span by the first section that holds these bytes
first_span : (bytes : List ℕ) (first count rva len : ℕ) (found : Option ℕ)
    → IsFirst (holds bytes rva len) (λ n. first + 40 * n) 0 count found
    → IsFirstSpan bytes first count rva len (option_map (span_from bytes rva len) found)
first_span bytes first count rva len None h = λ k l. subst (λ (m : ℕ). ¬ IsTrue (holds bytes rva len (first + 40 * m))) (zero-add k) (h k l)
first_span bytes first count rva len (Some x) h =
    let Holds : ℕ → Type 0 = λ m. IsTrue (holds bytes rva len (first + 40 * m)) in (
      h.0,
      h.1,
      λ j l. subst (λ (m : ℕ). ¬ Holds m) (zero-add j) (h.2 j l),
      subst Holds (zero-add h.0) h.3,
      ap (span_from bytes rva len) (h.4 ∙ ap (λ (m : ℕ). first + 40 * m) (zero-add h.0)),
    )

pub span_of-first : (bytes : List ℕ) (first count rva len : ℕ) → IsFirstSpan bytes first count rva len (span_of bytes first count rva len)
span_of-first bytes first count rva len = first_span bytes first count rva len _ (find-first (holds bytes rva len) (λ n. first + 40 * n) 0 count)
