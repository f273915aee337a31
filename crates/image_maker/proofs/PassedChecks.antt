-- Checks of which none fails.
use Rattle.std.proofs.Common.{◌≡◌, ℕ, zero, suc, ◌+◌, ◌<◌, Bool, true, false, ◌∷◌, None, refl, arith}
use Rattle.std.specs.List.{flat_map, range_with_len}
use Rattle.cli_words.specs.Check.{check, first_fault}
use Rattle.cli_words.specs.declared.check.CheckCode.{CheckCode}
use Rattle.cli_words.proofs.FirstFault.{Checks, none_next}

-- a check that passes, before others that pass
pub pass : (test : Bool) (code : CheckCode) (at : ℕ) (rest : Checks) → test ≡ true → first_fault rest ≡ None
    → first_fault (check test code at ∷ rest) ≡ None
pass true code at rest e others = others
pass false code at rest e others = absurd (cc)

-- no check of the numbers of a range fails
pub range_none : (checks : ℕ → Checks) (a n : ℕ) → ((i : ℕ) → i < n → first_fault (checks (a + i)) ≡ None)
    → first_fault (flat_map checks (range_with_len a n)) ≡ None
range_none checks a zero none = refl
range_none checks a (suc n) none =
    none_next checks a n (range_none checks a n (λ i h. none i (omega arith))) (none n (omega arith))
