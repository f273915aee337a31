-- Marks at the places where instructions begin.
use Rattle.std.proofs.Common.{◌≡◌, ℕ, zero, suc, ◌+◌, ◌<◌, ◌||◌, Bool, true, false, List, [], ◌∷◌, length, take, set, get_or, eqb, refl, sym, ap, ◌∙◌, inl, inr, get_or-set_other, get_or-set_same}
use Rattle.std.proofs.lemmas.Bool.{cases_eq, eq-eqb, ne_eqb, or_right}
use Rattle.std.proofs.lemmas.List.{take_more}
use Rattle.std.proofs.lemmas.List.Folds.{list_any-append}
use Rattle.std.specs.Prelude.{replicate}
use Rattle.il_verifier.specs.Lines.{is_begun}

one-place : (place at : ℕ) → is_begun (place ∷ []) at ≡ eqb place at
one-place place at = at-bool (eqb place at)
  where
    at-bool : (b : Bool) → (b || false) ≡ b
    at-bool true = refl
    at-bool false = refl

-- one more place is one more mark
pub mark-more : (marks : List Bool) (places : List ℕ) (i place : ℕ) → i < length places →
    place ≡ get_or places i 0 → place < length marks →
    ((at : ℕ) → get_or marks at false ≡ is_begun (take i places) at) →
    (at : ℕ) → get_or (set marks place true) at false ≡ is_begun (take (i + 1) places) at
mark-more marks places i place less is within marked at =
    let more : is_begun (take (i + 1) places) at ≡ (is_begun (take i places) at || eqb place at) =
    ap (λ (ps : List ℕ). is_begun ps at) (take_more places i 0 less)
    ∙ (list_any-append (λ begin. eqb begin at) (take i places) (get_or places i 0 ∷ [])
    ∙ ap (λ b. is_begun (take i places) at || b)
    (one-place (get_or places i 0) at ∙ ap (λ p. eqb p at) (sym is))) in
    elim (cases_eq at place) [
      | inl same ↦
          ap (λ (k : ℕ). get_or (set marks place true) k false) same
          ∙ (get_or-set_same marks place true false within
          ∙ sym (more ∙ or_right (is_begun (take i places) at) (eqb place at) (eq-eqb place at (sym same))))
      | inr other ↦
          get_or-set_other marks place at true false other
          ∙ (marked at ∙ sym (more ∙ (ap (λ b. is_begun (take i places) at || b)
          (ne_eqb place at (λ e. other (sym e))) ∙ or-false (is_begun (take i places) at))))
    ]
  where
    or-false : (b : Bool) → (b || false) ≡ b
    or-false true = refl
    or-false false = refl

pub no-marks : (n at : ℕ) → get_or (replicate n false) at false ≡ false
no-marks n at = same n at
  where
    same : (n at : ℕ) → get_or (replicate n false) at false ≡ false
    same zero at = refl
    same (suc n) zero = refl
    same (suc n) (suc at) = same n at
