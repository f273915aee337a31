-- Where the search for depths begins.
use Rattle.std.proofs.Common.{◌≡◌, ℕ, zero, suc, ◌<◌, Option, Some, None, set, get_or, refl, sym, ap, ◌∙◌, arith, cond}
use Rattle.std.specs.Prelude.{replicate}
use Rattle.std.proofs.lemmas.Bool.{ne_eqb}
use Rattle.il_verifier.specs.Depths.{start}
use Rattle.il_verifier.specs.Search.{depth_at}

pub nothing-at : {A : Type 0} (n at : ℕ) → get_or (replicate {A = Option A} n None) at None ≡ None
nothing-at zero at = refl
nothing-at (suc n) zero = refl
nothing-at (suc n) (suc at) = nothing-at n at

pub starts : (n : ℕ) → 0 < n → (at : ℕ) → depth_at (set (replicate {A = Option ℕ} n None) 0 (Some 0)) at ≡ start at
starts zero less at = absurd (omega (arith, less))
starts (suc n) less zero = refl
starts (suc n) less (suc at) =
    nothing-at n at ∙ sym (ap (λ b. cond {A = Option ℕ} b (Some 0) None) (ne_eqb (suc at) 0 (λ e. omega (arith, e))))
