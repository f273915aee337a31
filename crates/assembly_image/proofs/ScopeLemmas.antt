-- The references in which a reference to a type stands.
use Rattle.std.proofs.Common.{◌≡◌, ℕ, zero, suc, Option, Some, None, is_some, false, ap, refl}
use Rattle.std.specs.Option.{option_map_or}
use Rattle.assembly_image.specs.Module.{Module}
use Rattle.assembly_image.specs.Names.{type_ref_outer, outermost_within}

pub none_of : (o : Option ℕ) → is_some o ≡ false → o ≡ None
none_of None e = refl
none_of (Some x) e = absurd (cc)

module _ (m : Module) (n : ℕ) where
  pub outermost_none : (most : ℕ) → type_ref_outer m n ≡ None → outermost_within m most n ≡ Some n
  outermost_none zero e = ap (λ (o : Option ℕ). option_map_or (λ outer. None) o (Some n)) e
  outermost_none (suc most) e = ap (λ (o : Option ℕ). option_map_or (outermost_within m most) o (Some n)) e

  pub outermost_some : (most outer : ℕ) → type_ref_outer m n ≡ Some outer
      → outermost_within m (suc most) n ≡ outermost_within m most outer
  outermost_some most outer e = ap (λ (o : Option ℕ). option_map_or (outermost_within m most) o (Some n)) e

  pub outermost_far : (outer : ℕ) → type_ref_outer m n ≡ Some outer → outermost_within m zero n ≡ None
  outermost_far outer e = ap (λ (o : Option ℕ). option_map_or (λ outer. None) o (Some n)) e
