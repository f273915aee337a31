-- The lowest bits are the same whether 64 bits are read as signed or as unsigned.
use Rattle.std.proofs.Common.{◌≡◌, ℕ, suc, ◌-◌, ◌*◌, ◌^◌, ◌<◌, Bool, true, false, ◌⊎◌, inl, inr, refl, sym, ap, ◌∙◌, arith}
use Rattle.std.proofs.lemmas.Int.{ints, int_rem_euclid_is, int_wrap_fits, SFits-int_wrap, to_z-of_z}
use Rattle.std.proofs.lemmas.Nat.{pow_pos}
use Rattle.std.proofs.Math.Nat.{mod-eq_of_lt, mod-lt}
use Rattle.std.proofs.Math.Facts.{sfits_widen}
use Rattle.std.specs.Prelude.{ℤ, pos, negsuc, FitsSigned, unsigned_abs}
use lib.Dec.{T, leb}
use Rattle.std.specs.Int.{Width, w8, w16, w32, w64, cast_signed, cast_unsigned, int_wrap, int_rem_euclid}
use mir.Val.{bits, hbits}
use Rattle.cli_words.specs.Convert.{widened, low_bits}
use Rattle.cli_words.specs.declared.conversion.NumKind.{NumKind}
use Rattle.cli_words.specs.declared.conversion.NumKind.TheVariants.{I1, I2, I4, I8, U1, U2, U4, U8, I, U}

module _ (w : Width) (k : ℕ) (whole : k * 2 ^ bits w ≡ 2 ^ 64) where
  remainder_of_source : (v : ℤ) (u : Bool) → FitsSigned w64 v → int_rem_euclid (widened w64 u v) (pos (2 ^ bits w)) ≡ int_rem_euclid v (pos (2 ^ bits w))
  remainder_of_source v false f = refl
  remainder_of_source (pos n) true f = refl
  remainder_of_source (negsuc n) true f =
      sym (int_rem_euclid_is (negsuc n) (pos (2 ^ bits w)) (2 ^ bits w) k (2 ^ 64 - suc n) (pow_pos (bits w)) refl
      (let below : n < 2 ^ 63 = f.sfits in omega (arith, ints, whole)))

  wrapped_source : (v : ℤ) (u : Bool) → FitsSigned w64 v → int_wrap w (widened w64 u v) ≡ int_wrap w v
  unfolding int_wrap
  wrapped_source v u f = ap (λ r. cast_signed w (unsigned_abs r)) (remainder_of_source v u f)

-- a kind keeps the same bits of both readings
kept_of_source : (kind : NumKind) (v : ℤ) (u : Bool) → FitsSigned w64 v → low_bits kind (widened w64 u v) ≡ low_bits kind v
kept_of_source I1 v u f = wrapped_source w8 (2 ^ 56) refl v u f
kept_of_source I2 v u f = wrapped_source w16 (2 ^ 48) refl v u f
kept_of_source I4 v u f = wrapped_source w32 (2 ^ 32) refl v u f
kept_of_source I8 v u f = wrapped_source w64 1 refl v u f
kept_of_source U1 v u f = remainder_of_source w8 (2 ^ 56) refl v u f
kept_of_source U2 v u f = remainder_of_source w16 (2 ^ 48) refl v u f
kept_of_source U4 v u f = remainder_of_source w32 (2 ^ 32) refl v u f
kept_of_source U8 v u f = remainder_of_source w64 1 refl v u f
kept_of_source I v u f = wrapped_source w64 1 refl v u f
kept_of_source U v u f = remainder_of_source w64 1 refl v u f

pub bits_of_source : (kind : NumKind) (v : ℤ) (u : Bool) → FitsSigned w64 v → int_wrap w64 (low_bits kind v) ≡ int_wrap w64 (low_bits kind (widened w64 u v))
bits_of_source kind v u f = ap (int_wrap w64) (sym (kept_of_source kind v u f))

-- the same 64 bits
pub source_bits : (v : ℤ) (u : Bool) → FitsSigned w64 v → v ≡ int_wrap w64 (widened w64 u v)
source_bits v u f = sym (wrapped_source w64 1 refl v u f ∙ int_wrap_fits w64 v f)

-- the lowest bits, read as signed and widened
pub signed_kept : (w : Width) (v : ℤ) (n : ℕ) → T (leb (hbits w) 63) → FitsSigned w64 v → pos n ≡ int_rem_euclid (cast_signed w64 (cast_unsigned w64 v)) (pos (2 ^ bits w))
    → cast_signed w n ≡ int_wrap w64 (int_wrap w v)
unfolding int_wrap
signed_kept w v n narrow f e =
    ap (λ r. cast_signed w (unsigned_abs r)) (e ∙ ap (λ z. int_rem_euclid z (pos (2 ^ bits w))) (to_z-of_z w64 v f))
    ∙ sym (int_wrap_fits w64 (int_wrap w v) (sfits_widen narrow (SFits-int_wrap w v)))

rewrapped : (w : Width) (z : ℤ) → int_wrap w (int_rem_euclid z (pos (2 ^ bits w))) ≡ int_wrap w z
unfolding int_wrap
rewrapped w (pos n) = ap (cast_signed w) (mod-eq_of_lt (mod-lt n (pow_pos (bits w))))
rewrapped w (negsuc n) = ap (cast_signed w) (mod-eq_of_lt (let some = pow_pos (bits w) in omega arith))

-- a kind of 64 bits keeps them all
signed_whole : (v : ℤ) → FitsSigned w64 v → v ≡ int_wrap w64 (int_wrap w64 v)
signed_whole v f = sym (int_wrap_fits w64 _ (SFits-int_wrap w64 v) ∙ int_wrap_fits w64 v f)

unsigned_whole : (v : ℤ) → FitsSigned w64 v → v ≡ int_wrap w64 (int_rem_euclid v (pos (2 ^ 64)))
unsigned_whole v f = sym (rewrapped w64 v ∙ int_wrap_fits w64 v f)

-- what the kinds of 64 bits keep
pub native_kept : (k : NumKind) (v : ℤ) → FitsSigned w64 v → (k ≡ I8) ⊎ ((k ≡ U8) ⊎ ((k ≡ I) ⊎ (k ≡ U)))
    → v ≡ int_wrap w64 (low_bits k v)
native_kept k v f (inl e) = signed_whole v f ∙ ap (λ j. int_wrap w64 (low_bits j v)) (sym e)
native_kept k v f (inr (inl e)) = unsigned_whole v f ∙ ap (λ j. int_wrap w64 (low_bits j v)) (sym e)
native_kept k v f (inr (inr (inl e))) = signed_whole v f ∙ ap (λ j. int_wrap w64 (low_bits j v)) (sym e)
native_kept k v f (inr (inr (inr e))) = unsigned_whole v f ∙ ap (λ j. int_wrap w64 (low_bits j v)) (sym e)
