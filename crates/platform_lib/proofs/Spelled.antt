-- Two lists of numbers are the same where they are as long, and the same at each index.
use Rattle.std.proofs.Common.{◌≡◌, ◌≢◌, ℕ, ◌<◌, true, false, List, length, get_or, inl, inr, sym, ap}
use Rattle.std.proofs.lemmas.Bool.{cases_Bool}
use Rattle.std.proofs.lemmas.Grind.{same_number_lists}
use Rattle.std.specs.Str.{bytes_eq}
use Rattle.std.specs.Cmp.Lexicographic.{bytes_decides}

apart : (xs ys : List ℕ) → xs ≢ ys → false ≡ bytes_eq xs ys
apart xs ys h = elim (cases_Bool (bytes_eq xs ys)) [ inl e ↦ absurd (h ((bytes_decides xs ys).0 e)) | inr e ↦ sym e ]

pub not_as_long : (xs ys : List ℕ) → length xs ≢ length ys → false ≡ bytes_eq xs ys
not_as_long xs ys h = apart xs ys (λ e. h (ap (λ (zs : List ℕ). length zs) e))

pub unlike : (xs ys : List ℕ) (i : ℕ) → get_or xs i 0 ≢ get_or ys i 0 → false ≡ bytes_eq xs ys
unlike xs ys i h = apart xs ys (λ e. h (ap (λ (zs : List ℕ). get_or zs i 0) e))

pub alike : (xs ys : List ℕ) → length xs ≡ length ys →
    ((i : ℕ) → i < length xs → get_or xs i 0 ≡ get_or ys i 0) → true ≡ bytes_eq xs ys
alike xs ys n h = sym ((bytes_decides xs ys).1 (same_number_lists xs ys n h))
