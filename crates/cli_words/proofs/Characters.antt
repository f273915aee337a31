-- What the first units of a text spell.
use Rattle.std.proofs.Common.{◌≡◌, ℕ, ◌<◌, true, false, ◌&&◌, List, [], ◌∷◌, length, get_or, Some, refl, sym, ap, ◌∙◌, arith}
use Rattle.std.specs.Prelude.{cond}
use Rattle.std.specs.Char.Utf16.{utf16_chars, lone_unit_char, surrogate_pair_char, is_high_surrogate, is_low_surrogate}
use Rattle.std.proofs.lemmas.Bool.{le-leb}
use Rattle.cli_words.specs.Character.{IsFirst, begins_with_pair}

two_units : (u v : ℕ) (us : List ℕ) → begins_with_pair (u ∷ v ∷ us) ≡ (is_high_surrogate u && is_low_surrogate v)
two_units u v us = ap (λ b. b && (is_high_surrogate u && is_low_surrogate v))
    (le-leb 2 (length (u ∷ v ∷ us)) (omega arith))

-- what the first units spell
pub first_pair : (units : List ℕ) → begins_with_pair units ≡ true
    → IsFirst units (Some (surrogate_pair_char (get_or units 0 0) (get_or units 1 0)), 2)
unfolding utf16_chars
first_pair [] pair = absurd (cc)
first_pair (u ∷ []) pair = absurd (cc)
first_pair (u ∷ v ∷ us) pair = record {
  spelled = ap (λ b. cond b (Some (surrogate_pair_char u v) ∷ utf16_chars us)
      (lone_unit_char u ∷ utf16_chars (v ∷ us)))
      (sym (two_units u v us) ∙ pair);
  some = omega arith;
  within = omega arith;
  few = omega arith;
}

pub first_lone : (units : List ℕ) → 0 < length units → begins_with_pair units ≡ false
    → IsFirst units (lone_unit_char (get_or units 0 0), 1)
unfolding utf16_chars
first_lone [] long apart = absurd (omega arith)
first_lone (u ∷ []) long apart = record { spelled = refl; some = omega arith; within = omega arith; few = omega arith }
first_lone (u ∷ v ∷ us) long apart = record {
  spelled = ap (λ b. cond b (Some (surrogate_pair_char u v) ∷ utf16_chars us)
      (lone_unit_char u ∷ utf16_chars (v ∷ us)))
      (sym (two_units u v us) ∙ apart);
  some = omega arith;
  within = omega arith;
  few = omega arith;
}
