-- Where the first byte of a kind stands.
use Rattle.std.proofs.Common.{◌≡◌, ℕ, ◌+◌, ◌≤◌, Bool, true, false, not, cond, List, [], ◌∷◌, length, Some, None, refl, arith}
use Rattle.std.proofs.lemmas.Bool.{ltb-false, cond_both}
use Rattle.std.specs.Prelude.{nat_lt}
use Rattle.std.specs.List.{prefix_len, position, position_or_len}

pub prefix_within : (p : ℕ → Bool) (xs : List ℕ) → prefix_len p xs ≤ length xs
prefix_within p [] = omega arith
prefix_within p (x ∷ xs) =
    let ih = prefix_within p xs in
    cond_both (p x) (1 + prefix_len p xs) 0 (λ n. n ≤ length (x ∷ xs)) (λ _. omega arith) (λ _. omega arith)

choice_some : (t : Bool) (n i : ℕ) → Some i ≡ cond t (Some n) None → (i ≡ n) × (t ≡ true)
choice_some true n i e = (cc, refl)
choice_some false n i e = cc

choice_none : (t : Bool) (n : ℕ) → None ≡ cond t (Some n) None → t ≡ false
choice_none true n e = cc
choice_none false n e = refl

module _ (p : ℕ → Bool) (xs : List ℕ) where
  pub found_at : (i : ℕ) → Some i ≡ position p xs → i ≡ position_or_len p xs
  found_at i e = (choice_some (nat_lt (position_or_len p xs) (length xs)) (position_or_len p xs) i e).0

  pub none_found : None ≡ position p xs → length xs ≡ position_or_len p xs
  none_found e =
      let out = choice_none (nat_lt (position_or_len p xs) (length xs)) (position_or_len p xs) e in
      let above = ltb-false (position_or_len p xs) (length xs) out in
      let within = prefix_within (λ x. not (p x)) xs in
      omega arith

  pub place_within : position_or_len p xs ≤ length xs
  place_within = prefix_within (λ x. not (p x)) xs
