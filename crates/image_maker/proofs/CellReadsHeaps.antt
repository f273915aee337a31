-- What is read where a text or a blob was written into a heap.
use Rattle.std.proofs.Common.{◌≡◌, ℕ, ◌+◌, ◌-◌, ◌*◌, ◌/◌, ◌%◌, ◌^◌, ◌<◌, ◌≤◌, true, false, ◌&&◌, ◌==◌, nat_lt, List, [], ◌∷◌, ◌++◌, length, take, drop, Some, None, if◌then◌else◌, inl, inr, refl, sym, ap, subst, ◌∙◌, arith, length-append, length-drop}
use Rattle.std.specs.Option.{option_map, option_and_then}
use Rattle.std.proofs.lemmas.Bool.{cases_lt, cond_below, cond_above, cond_both, cond-true, le-leb}
use Rattle.std.proofs.lemmas.Bool.Decides.{nat_tests}
use Rattle.std.proofs.Math.Seq.{drop-drop, drop-append_seam, take-append_seam}
use Rattle.cli_words.specs.declared.span.Span.{Span}
use Rattle.cli_words.specs.Compressed.{number_at_front}
use Rattle.cli_words.specs.Span.{cut, zero_after}
use Rattle.meta_heaps.specs.Heaps.{string_at, blob_at, counted, entry_at}
use Rattle.image_maker.specs.Sound.{has_no_zero}
use Rattle.image_maker.specs.Written.{compressed}
use Rattle.image_maker.proofs.BytesRead.{cut_within, zero_found}

-- the shortest spelling of a length is read as that length
abbrev IsFront : ℕ → List ℕ → List ℕ → Type 0
IsFront n spelled rest = number_at_front (spelled ++ rest) ≡ Some (n, length spelled)

front_one : (n : ℕ) (rest : List ℕ) → n < 0x80 → IsFront n (n ∷ []) rest
front_one n rest h = sym (cond_below n 0x80 _ _ h)

front_two : (n : ℕ) (rest : List ℕ) → n < 0x4000 → IsFront n ((0x80 + n / 0x100) ∷ n % 0x100 ∷ []) rest
front_two n rest h =
    let first : ℕ = 0x80 + n / 0x100 in
    let value : (0x80 + n / 0x100 - 0x80) * 0x100 + n % 0x100 ≡ n = omega arith in
    let low : 0x80 ≤ 0x80 + n / 0x100 = omega arith in
    let high : 0x80 + n / 0x100 < 0xC0 = omega arith in
    sym (cond_above _ 0x80 _ _ _ low refl) ∙ sym (cond_below _ 0xC0 _ _ high) ∙ ap (λ v. Some (v, 2)) value

front_four : (n : ℕ) (rest : List ℕ) → n < 2 ^ 29
    → IsFront n ((0xC0 + n / 0x1000000) % 0x100 ∷ n / 0x10000 % 0x100 ∷ n / 0x100 % 0x100 ∷ n % 0x100 ∷ []) rest
front_four n rest h =
    let first : (0xC0 + n / 0x1000000) % 0x100 ≡ 0xC0 + n / 0x1000000 = omega arith in
    let second : n / 0x10000 ≡ n / 0x1000000 * 0x100 + n / 0x10000 % 0x100 = omega arith in
    let third : n / 0x100 ≡ n / 0x10000 * 0x100 + n / 0x100 % 0x100 = omega arith in
    let fourth : n ≡ n / 0x100 * 0x100 + n % 0x100 = omega arith in
    let low : 0xC0 ≤ (0xC0 + n / 0x1000000) % 0x100 = omega arith in
    let high : (0xC0 + n / 0x1000000) % 0x100 < 0xE0 = omega arith in
    let value : ((((0xC0 + n / 0x1000000) % 0x100 - 0xC0) * 0x100 + n / 0x10000 % 0x100) * 0x100
    + n / 0x100 % 0x100) * 0x100 + n % 0x100 ≡ n = omega arith in
    let past : 0x80 ≤ (0xC0 + n / 0x1000000) % 0x100 = omega arith in
    sym (cond_above _ 0x80 _ _ _ past refl) ∙ sym (cond_above _ 0xC0 _ _ _ low refl) ∙ sym (cond_below _ 0xE0 _ _ high)
    ∙ ap (λ v. Some (v, 4)) value

front : (n : ℕ) (rest : List ℕ) → n < 2 ^ 29 → IsFront n (compressed n) rest
front n rest h =
    elim (cases_lt n 0x80) as (λ _. IsFront n (compressed n) rest) [
      | inl one ↦
          let e : compressed n ≡ n ∷ [] = sym (cond_below n 0x80 _ _ one) in
          subst (λ xs. IsFront n xs rest) (sym e) (front_one n rest one)
      | inr more ↦ elim (cases_lt n 0x4000) as (λ _. IsFront n (compressed n) rest) [
        | inl two ↦
            let e : compressed n ≡ (0x80 + n / 0x100) ∷ n % 0x100 ∷ [] =
            sym (cond_above n 0x80 _ _ _ more refl) ∙ sym (cond_below n 0x4000 _ _ two) in
            subst (λ xs. IsFront n xs rest) (sym e) (front_two n rest two)
        | inr four ↦
            let e : compressed n
            ≡ (0xC0 + n / 0x1000000) % 0x100 ∷ n / 0x10000 % 0x100 ∷ n / 0x100 % 0x100 ∷ n % 0x100 ∷ [] =
            sym (cond_above n 0x80 _ _ _ more refl) ∙ sym (cond_above n 0x4000 _ _ _ four refl) in
            subst (λ xs. IsFront n xs rest) (sym e) (front_four n rest h)
      ]
    ]

pub some_bytes : (n : ℕ) → 0 < length (compressed n)
some_bytes n =
    cond_both (nat_lt n 0x80) _ _ (λ xs. 0 < length xs) (λ e. omega arith)
    (λ e. cond_both (nat_lt n 0x4000) _ _ (λ xs. 0 < length xs) (λ e. omega arith) (λ e. omega arith))

module _ (bytes : List ℕ) (heap : Span) (whole : List ℕ) (is : cut bytes heap ≡ whole)
    (long : heap.len ≡ length whole) where
  heap_cut : (index n : ℕ) → index + n ≤ heap.len
      → cut bytes (record { at = heap.at + index; len = n }) ≡ take n (drop index whole)
  heap_cut index n h = cut_within bytes heap index n h ∙ ap (λ xs. take n (drop index xs)) is

  -- a text that stands in the heap
  pub text_reads : (index : ℕ) (text rest : List ℕ) → drop index whole ≡ text ++ 0 ∷ rest → has_no_zero text ≡ true
      → (string_at bytes heap index ≡ Some (record { at = heap.at + index; len = length text }))
      × (cut bytes (record { at = heap.at + index; len = length text }) ≡ text)
  text_reads index text rest there e =
      let size = ap length there in
      let cut_size = length-drop index whole in
      let both = length-append text (0 ∷ rest) in (
        ap (λ xs. option_map (λ n. record { at = heap.at + index; len = n }) (zero_after xs))
            (ap (drop index) is ∙ there)
            ∙ ap (option_map (λ n. record { at = heap.at + index; len = n })) (zero_found text rest e),
        heap_cut index (length text) (omega arith)
            ∙ ap (take (length text)) there
            ∙ take-append_seam text (0 ∷ rest),
      )

  -- a blob that stands in the heap
  pub blob_reads : (index : ℕ) (blob rest : List ℕ) → length blob < 2 ^ 29
      → drop index whole ≡ compressed (length blob) ++ (blob ++ rest)
      → (span : Span) × (blob_at bytes heap index ≡ Some span) × (cut bytes span ≡ blob)
  blob_reads index blob rest small there =
      let n : ℕ = length blob in
      let k : ℕ = length (compressed n) in
      let size = ap length there in
      let cut_size = length-drop index whole in
      let both = length-append (compressed n) (blob ++ rest) in
      let two = length-append blob rest in
      let some = some_bytes n in
      let inside : index + k + n ≤ heap.len = omega arith in
      let filled : (heap.len == 0) ≡ false = grind (arith, nat_tests) in
      let none : Span = record { at = heap.at; len = 0 } in
      let span : Span = record { at = heap.at + (index + k); len = n } in
      let found : counted heap index (n, k) ≡ Some span = cond-true _ _ None (le-leb _ _ inside) in (
        span,
        ap (λ b. if b && (index == 0) then Some none else entry_at bytes heap index) filled
            ∙ ap (λ xs. option_and_then (counted heap index) (number_at_front xs)) (ap (drop index) is ∙ there)
            ∙ ap (option_and_then (counted heap index)) (front n (blob ++ rest) small)
            ∙ found,
        heap_cut (index + k) n inside
            ∙ ap (take n) (sym (drop-drop k index whole)
            ∙ ap (drop k) there
            ∙ drop-append_seam (compressed n) (blob ++ rest))
            ∙ take-append_seam blob rest,
      )
