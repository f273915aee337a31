-- The limit that a module passes.
use Rattle.std.proofs.Common.{◌≡◌, ℕ, ◌-◌, ◌^◌, ◌<◌, ◌≤◌, Bool, true, false, not, Option, Some, None, refl, sym, ap, ◌∙◌, arith}
use Rattle.std.specs.Prelude.{min, nat_lt, is_some, if◌then◌else◌}
use Rattle.std.specs.List.{list_all}
use Rattle.std.proofs.lemmas.Bool.{lt-ltb, le-ltb, not-false}
use Rattle.image_maker.specs.declared.module.Module.{Module}
use Rattle.image_maker.specs.Sound.{all_texts}
use Rattle.image_maker.specs.Size.{size_of, size_limit, long_table, limit_of, limit_by}
use Rattle.image_maker.specs.Tally.{is_short}

none_is : {X : Type 0} (o : Option X) → is_some o ≡ false → None ≡ o
none_is None e = refl
none_is (Some x) e = absurd (cc)

module _ (m : Module) (long : Option ℕ) (is_long : long ≡ long_table m) (none : is_some long ≡ false) (short : Bool)
    (shorts : short ≡ list_all is_short (all_texts m)) (good : not short ≡ false)
    (size : ℕ) (sized : size ≡ min (size_of m) (2 ^ 64 - 1)) where
  so_far : limit_of m ≡ (if nat_lt size_limit (size_of m) then Some 0xFF else None)
  so_far =
      ap (limit_by m) (sym (none_is long none ∙ is_long))
      ∙ ap (λ b. if not b then Some 0xFE else (if nat_lt size_limit (size_of m) then Some 0xFF else None))
      (sym shorts ∙ not-false short good)

  pub too_large : 4194304 < size → Some 0xFF ≡ limit_of m
  too_large large =
      let e : nat_lt size_limit (size_of m) ≡ true = lt-ltb size_limit (size_of m) (omega arith) in
      sym (so_far ∙ ap (λ b. if b then Some 0xFF else None) e)

  pub within : size ≤ 4194304 → None ≡ limit_of m
  within small =
      let e : nat_lt size_limit (size_of m) ≡ false = le-ltb size_limit (size_of m) (omega arith) in
      sym (so_far ∙ ap (λ b. if b then Some 0xFF else None) e)
