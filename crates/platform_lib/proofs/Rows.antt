-- What stands at a place of a table that counts from 1.
use Rattle.std.proofs.Common.{◌≡◌, ◌≢◌, ◌⊎◌, inl, inr, ℕ, ◌-◌, ◌<◌, ◌≤◌, cond, List, length, map, get_or, slice_get, Some, None, option_map, sym, ap, ◌∙◌, arith}
use Rattle.std.proofs.lemmas.Bool.Decides.{eqb_tells}
use Rattle.std.proofs.lemmas.Option.{slice_get-get_or, slice_get_past, slice_get-map}
use Rattle.platform_lib.specs.Types.{nth}

pub nth-at : {X : Type 0} (rows : List X) (n : ℕ) (d : X) → n ≢ 0 → n ≤ length rows →
    nth rows n ≡ Some (get_or rows (n - 1) d)
nth-at rows n d some within = elim (eqb_tells n 0) [
  | inl e ↦ absurd (some e.1)
  | inr e ↦ ap (λ b. cond b None (slice_get rows (n - 1))) e.0 ∙ slice_get-get_or rows (n - 1) d (omega (arith, some, within))
]

pub nth-past : {X : Type 0} (rows : List X) (n : ℕ) → (n ≡ 0) ⊎ (length rows < n) → nth rows n ≡ None
nth-past rows n out = elim (eqb_tells n 0) [
  | inl e ↦ ap (λ b. cond b None (slice_get rows (n - 1))) e.0
  | inr e ↦ ap (λ b. cond b None (slice_get rows (n - 1))) e.0 ∙ past e.1 out
]
  where
    past : n ≢ 0 → (n ≡ 0) ⊎ (length rows < n) → slice_get rows (n - 1) ≡ None
    past some (inl none) = absurd (some none)
    past some (inr more) = slice_get_past rows (n - 1) (omega (arith, more))

pub nth-map : {X Y : Type 0} (f : X → Y) (rows : List X) (n : ℕ) → nth (map f rows) n ≡ option_map f (nth rows n)
nth-map f rows n = elim (eqb_tells n 0) [
  | inl e ↦ ap (λ b. cond b None (slice_get (map f rows) (n - 1))) e.0
      ∙ sym (ap (λ b. option_map f (cond b None (slice_get rows (n - 1)))) e.0)
  | inr e ↦ ap (λ b. cond b None (slice_get (map f rows) (n - 1))) e.0 ∙ (slice_get-map f rows (n - 1)
      ∙ sym (ap (λ b. option_map f (cond b None (slice_get rows (n - 1)))) e.0))
]
