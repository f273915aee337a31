-- What a shift leaves is the wrapped product.
use Rattle.std.proofs.Common.{◌≡◌, ℕ, ◌*◌, ◌%◌, ◌^◌, ◌<◌, sym, ap, ◌∙◌}
use Rattle.std.proofs.Math.Pow.{pow-lt}
use Rattle.std.proofs.Math.Nat.{mod-eq_of_lt, mul_comm}
use Rattle.std.proofs.Math.IntN.{*ℤ_comm}
use Rattle.std.specs.Prelude.{ℤ, pos, ◌*ℤ◌, FitsSigned}
use Rattle.std.specs.Int.{Width, cast_signed, cast_unsigned, int_wrap}
use Rattle.std.proofs.lemmas.Int.{wrapping_mul_onto, int_wrap-mul_left}
use mir.Val.{bits}

pub wrapped_bits : (w : Width) (n : ℕ) → n < 2 ^ bits w → cast_signed w n ≡ int_wrap w (pos n)
unfolding int_wrap
wrapped_bits w n h = ap (cast_signed w) (sym (mod-eq_of_lt h))

pub shifted : (w : Width) (z : ℤ) (k : ℕ) → FitsSigned w z → k < bits w
    → cast_signed w ((cast_unsigned w z * 2 ^ k) % 2 ^ bits w) ≡ int_wrap w (z *ℤ pos (2 ^ k))
shifted w z k f h =
    let below : 2 ^ k < 2 ^ bits w = pow-lt h in
    ap (λ n. cast_signed w (n % 2 ^ bits w)) (mul_comm (cast_unsigned w z) (2 ^ k))
    ∙ wrapping_mul_onto w (2 ^ k) z below f
    ∙ ap (λ y. int_wrap w (y *ℤ z)) (wrapped_bits w (2 ^ k) below)
    ∙ int_wrap-mul_left w (pos (2 ^ k)) z
    ∙ ap (int_wrap w) (*ℤ_comm (pos (2 ^ k)) z)
