-- `compressed` finds just what is spelled.
use Rattle.std.proofs.Common.{◌≡◌, ℕ, zero, suc, ◌+◌, ◌-◌, ◌*◌, ◌<◌, ◌≤◌, ◌⊎◌, inl, inr, List, [], ◌∷◌, ◌++◌, length, get_or, take, drop, Option, Some, refl, sym, ap, subst, arith, ltb-true, ltb-false, lt-ltb, le-ltb}
use Rattle.std.specs.Prelude.{MatchOption, nat_lt}
use Rattle.std.proofs.lemmas.Bool.{cond_both}
use Rattle.std.proofs.lemmas.List.{get_or-take, get_or-drop, length-take}
use Rattle.cli_words.specs.Compressed.{Spells, number_at_front, two_bytes, four_bytes}

abbrev pub AreBytes : List ℕ → Type 0
AreBytes bytes = (k : ℕ) → get_or bytes k 0 < 0x100

-- no front of the bytes is a spelling
abbrev pub Unspelled : List ℕ → Type 0
Unspelled bytes = (n : ℕ) (taken : ℕ) → ¬ Spells (take taken bytes) n

-- how long a spelling is, by its first byte
abbrev Begins : ℕ → ℕ → Type 0
Begins count first =
    ((count ≡ 1) × (first < 0x80))
    ⊎ (((count ≡ 2) × (0x80 ≤ first) × (first < 0xC0)) ⊎ ((count ≡ 4) × (0xC0 ≤ first) × (first < 0xE0)))

begins : (bytes : List ℕ) (n : ℕ) → Spells bytes n → Begins (length bytes) (get_or bytes 0 0)
begins bytes n (inl s) = let P : List ℕ → Type 0 = λ xs. Begins (length xs) (get_or xs 0 0) in subst P (sym s.1) (inl (refl, s.0))
begins bytes n (inr (inl s)) = let P : List ℕ → Type 0 = λ xs. Begins (length xs) (get_or xs 0 0) in subst P (sym s.4) (inr (inl (refl, omega arith, omega (arith, s.2))))
begins bytes n (inr (inr s)) = let P : List ℕ → Type 0 = λ xs. Begins (length xs) (get_or xs 0 0) in subst P (sym s.8) (inr (inr (refl, omega arith, omega (arith, s.4))))

-- bytes that are cut, or whose first byte begins no spelling
abbrev IsCut : ℕ → ℕ → Type 0
IsCut count first =
    (count ≡ 0) ⊎ ((0xE0 ≤ first) ⊎ (((0x80 ≤ first) × (count < 2)) ⊎ ((0xC0 ≤ first) × (count < 4))))

unspelled : (bytes : List ℕ) → IsCut (length bytes) (get_or bytes 0 0) → Unspelled bytes
unspelled bytes cut n zero s = let b = begins _ n s in grind arith
unspelled bytes cut n (suc taken) s =
    let b = begins _ n s in
    let count = length-take (suc taken) bytes in
    let first = get_or-take (suc taken) bytes 0 0 (omega arith) in
    grind arith

abbrev Told : List ℕ → Option (ℕ × ℕ) → Type 0
Told bytes found = MatchOption found (Unspelled bytes) (λ it. Spells (take it.1 bytes) it.0)

two_told : (a : ℕ) (rest : List ℕ) → 0x80 ≤ a → a < 0xC0 → AreBytes (a ∷ rest) → Told (a ∷ rest) (two_bytes a rest)
two_told a [] low high small = unspelled (a ∷ []) (inr (inr (inl (low, omega arith))))
two_told a (b ∷ rest) low high small =
    inr (inl (a - 0x80, b, omega arith, small 1, ap (λ x. x ∷ b ∷ []) (omega arith), refl))

four_told : (a : ℕ) (rest : List ℕ) → 0xC0 ≤ a → a < 0xE0 → AreBytes (a ∷ rest) → Told (a ∷ rest) (four_bytes a rest)
four_told a [] low high small = unspelled (a ∷ []) (inr (inr (inr (low, omega arith))))
four_told a (b ∷ []) low high small = unspelled (a ∷ b ∷ []) (inr (inr (inr (low, omega arith))))
four_told a (b ∷ c ∷ []) low high small = unspelled (a ∷ b ∷ c ∷ []) (inr (inr (inr (low, omega arith))))
four_told a (b ∷ c ∷ d ∷ rest) low high small =
    inr (inr (a - 0xC0, b, c, d, omega arith, small 1, small 2, small 3, ap (λ x. x ∷ b ∷ c ∷ d ∷ []) (omega arith), refl))

told : (bytes : List ℕ) → AreBytes bytes → Told bytes (number_at_front bytes)
told [] small = unspelled [] (inl refl)
told (a ∷ rest) small =
    cond_both (nat_lt a 0x80) _ _ (Told (a ∷ rest)) (λ e. inl (ltb-true a 0x80 e, refl))
    (λ e. cond_both (nat_lt a 0xC0) _ _ (Told (a ∷ rest))
    (λ f. two_told a rest (ltb-false a 0x80 e) (ltb-true a 0xC0 f) small)
    (λ f. cond_both (nat_lt a 0xE0) _ _ (Told (a ∷ rest))
    (λ g. four_told a rest (ltb-false a 0xC0 f) (ltb-true a 0xE0 g) small)
    (λ g. unspelled (a ∷ rest) (inr (inl (ltb-false a 0xE0 g))))))

-- what is found at a place among bytes
pub told_at : (bytes : List ℕ) (at : ℕ) (found : Option (ℕ × ℕ)) → AreBytes bytes → found ≡ number_at_front (drop at bytes)
    → MatchOption found ((n : ℕ) (taken : ℕ) → ¬ Spells (take taken (drop at bytes)) n) (λ it. Spells (take it.1 (drop at bytes)) it.0)
told_at bytes at found small e =
    subst (Told (drop at bytes)) (sym e) (told (drop at bytes) (λ k. rw get_or-drop (small (at + k))))

-- a spelling is found before any bytes
module _ (rest : List ℕ) where
  abbrev Found : ℕ → List ℕ → Type 0
  Found n xs = number_at_front (xs ++ rest) ≡ Some (n, length xs)

  in_two : (a b : ℕ) → a < 0x40 → Found (a * 0x100 + b) ((0x80 + a) ∷ b ∷ [])
  in_two a b h =
      rw (le-ltb (0x80 + a) 0x80 (omega arith), lt-ltb (0x80 + a) 0xC0 (omega arith))
      (ap (λ m. Some (m * 0x100 + b, 2)) (omega arith))

  in_four : (a b c d : ℕ) → a < 0x20 → Found (((a * 0x100 + b) * 0x100 + c) * 0x100 + d) ((0xC0 + a) ∷ b ∷ c ∷ d ∷ [])
  in_four a b c d h =
      rw (le-ltb (0xC0 + a) 0x80 (omega arith), le-ltb (0xC0 + a) 0xC0 (omega arith), lt-ltb (0xC0 + a) 0xE0 (omega arith))
      (ap (λ m. Some (((m * 0x100 + b) * 0x100 + c) * 0x100 + d, 4)) (omega arith))

  pub compressed_spelled : (bytes : List ℕ) (n : ℕ) → Spells bytes n → number_at_front (bytes ++ rest) ≡ Some (n, length bytes)
  compressed_spelled bytes n (inl s) = subst (Found n) (sym s.1) (rw (lt-ltb n 0x80 s.0) refl)
  compressed_spelled bytes n (inr (inl s)) =
      subst (Found n) (sym s.4) (subst (λ m. Found m ((0x80 + s.0) ∷ s.1 ∷ [])) (sym s.5) (in_two s.0 s.1 s.2))
  compressed_spelled bytes n (inr (inr s)) =
      subst (Found n) (sym s.8)
      (subst (λ m. Found m ((0xC0 + s.0) ∷ s.1 ∷ s.2 ∷ s.3 ∷ [])) (sym s.9) (in_four s.0 s.1 s.2 s.3 s.4))
