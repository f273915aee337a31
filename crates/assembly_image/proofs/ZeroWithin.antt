-- A zero that is sought among the first bytes alone.
use Rattle.std.proofs.Common.{◌≡◌, ℕ, zero, suc, ◌+◌, ◌<◌, ◌≤◌, Bool, List, [], ◌∷◌, length, take, Option, Some, None, inl, inr, refl, sym, ap, subst, ◌∙◌, arith, true, false, not, ◌==◌, nat_le, drop}
use Rattle.std.proofs.lemmas.Bool.{cases_Bool, cases_lt, cond_below, cond_above}
use Rattle.std.proofs.lemmas.Bool.Decides.{nat_tests}
use Rattle.std.proofs.lemmas.List.{length-take}
use Rattle.std.specs.List.{prefix_len, position, position_or_len}
use Rattle.std.specs.Option.{option_map}
use Rattle.std.specs.Str.{is_utf8}
use Rattle.cli_words.specs.declared.span.Span.{Span}
use Rattle.cli_words.specs.Span.{cut, zero_after}
use Rattle.meta_heaps.specs.Heaps.{string_at}
use Rattle.assembly_image.specs.Checks.{is_string}

-- how many elements from the front on pass, where one of the first k does not
prefix_short : {X : Type 0} (q : X → Bool) (k : ℕ) (xs : List X) → prefix_len q (take k xs) < length (take k xs)
    → prefix_len q xs ≡ prefix_len q (take k xs)
prefix_short q zero xs h = absurd (omega arith)
prefix_short q (suc k) [] h = refl
prefix_short q (suc k) (x ∷ xs) h =
    elim (cases_Bool (q x)) as (λ _. prefix_len q (x ∷ xs) ≡ prefix_len q (take (suc k) (x ∷ xs))) [
      | inl e ↦ rw e (let rest = prefix_short q k xs (let below : 1 + prefix_len q (take k xs) < suc (length (take k xs)) = rw e at h in omega arith) in omega arith)
      | inr e ↦ rw e refl
    ]

-- and where each of them does
prefix_long : {X : Type 0} (q : X → Bool) (k : ℕ) (xs : List X) → ¬ (prefix_len q (take k xs) < length (take k xs))
    → prefix_len q xs < length xs → k ≤ prefix_len q xs
prefix_long q zero xs h l = omega arith
prefix_long q (suc k) [] h l = absurd (omega arith)
prefix_long q (suc k) (x ∷ xs) h l =
    elim (cases_Bool (q x)) as (λ _. suc k ≤ prefix_len q (x ∷ xs)) [
      | inl e ↦
          let below : 1 + prefix_len q xs < suc (length xs) = rw e at l in
          let full : ¬ (1 + prefix_len q (take k xs) < suc (length (take k xs))) = rw e at h in
          rw e (let rest = prefix_long q k xs (λ m. full (omega arith)) (omega arith) in omega arith)
      | inr e ↦
          let full : ¬ (0 < suc (length (take k xs))) = rw e at h in absurd (full (omega arith))
    ]

-- the place of the first that passes, and where there is none
module _ {X : Type 0} (p : X → Bool) (xs : List X) where
  abbrev found_at : Option ℕ
  found_at = Some (position_or_len p xs)

  some_position : (n : ℕ) → position p xs ≡ Some n → (n < length xs) × (n ≡ position_or_len p xs)
  some_position n e =
      elim (cases_lt (position_or_len p xs) (length xs)) [
        | inl h ↦
            let here : found_at ≡ Some n = cond_below _ _ found_at None h ∙ e in
            let same : position_or_len p xs ≡ n = cc in
            (subst (λ (m : ℕ). m < length xs) same h, sym same)
        | inr h ↦ (let here : None ≡ Some n = cond_above _ _ found_at None None h refl ∙ e in absurd (cc))
      ]

  no_position : position p xs ≡ None → ¬ (position_or_len p xs < length xs)
  no_position e h = (let here : found_at ≡ None = cond_below _ _ found_at None h ∙ e in cc)

  at_position : position_or_len p xs < length xs → position p xs ≡ found_at
  at_position h = sym (cond_below _ _ found_at None h)

-- one that passes among the first k is the first of all
near : {X : Type 0} (p : X → Bool) (k : ℕ) (xs : List X) (n : ℕ) → position p (take k xs) ≡ Some n
    → (position p xs ≡ Some n) × (n < k)
near p k xs n e =
    let found = some_position p (take k xs) n e in
    let same = prefix_short (λ x. not (p x)) k xs (subst (λ (m : ℕ). m < length (take k xs)) found.1 found.0) in
    let short = length-take k xs in
    let whole : position_or_len p xs < length xs = omega (arith, same, found.0, found.1, short) in
    let here : position_or_len p xs ≡ n = same ∙ sym found.1 in
    (at_position p xs whole ∙ ap Some here, omega (arith, found.0, short))

-- and where none does, the first of all is not among them
far : {X : Type 0} (p : X → Bool) (k : ℕ) (xs : List X) (n : ℕ) → position p (take k xs) ≡ None
    → position p xs ≡ Some n → k ≤ n
far p k xs n e f =
    let found = some_position p xs n f in
    let long = prefix_long (λ x. not (p x)) k xs (no_position p (take k xs) e) (subst (λ (m : ℕ). m < length xs) found.1 found.0) in
    omega (arith, found.1, long)

-- a string whose zero is near enough, and one whose zero is not
module _ (bytes : List ℕ) (heap : Span) (index : ℕ) (rest : List ℕ) (front : rest ≡ drop index (cut bytes heap)) where
  pub near_string : (n : ℕ) → zero_after (take 1024 rest) ≡ Some n
      → is_utf8 (cut bytes (record { at = heap.at + index; len = n })) ≡ is_string bytes (string_at bytes heap index)
  near_string n e =
      let zero_at = near (λ b. b == 0) 1024 rest n e in
      let here : zero_after (drop index (cut bytes heap)) ≡ Some n = ap zero_after (sym front) ∙ zero_at.0 in
      let short : nat_le n 1023 ≡ true = grind (arith, nat_tests) in
      rw (here, short) refl

  far_by : (o : Option ℕ) → zero_after rest ≡ o → zero_after (take 1024 rest) ≡ None
      → false ≡ is_string bytes (option_map (λ n. record { at = heap.at + index; len = n }) o)
  far_by None e none = refl
  far_by (Some n) e none =
      let long = far (λ b. b == 0) 1024 rest n none e in
      let over : nat_le n 1023 ≡ false = grind (arith, nat_tests) in
      rw over refl

  pub far_string : zero_after (take 1024 rest) ≡ None → false ≡ is_string bytes (string_at bytes heap index)
  far_string none = far_by _ (ap zero_after front) none
