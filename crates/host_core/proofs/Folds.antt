-- Two lists are the same under f where they are as long, and the same under f at each index.
use Rattle.std.proofs.Common.{◌≡◌, ◌≢◌, ℕ, ◌<◌, true, false, List, length, map, get_or, inl, inr, sym, ap, subst, ◌∙◌}
use Rattle.std.proofs.lemmas.Bool.{cases_Bool}
use Rattle.std.proofs.lemmas.List.{get_or-map, length-map}
use Rattle.std.proofs.lemmas.Grind.{same_number_lists}
use Rattle.std.specs.Str.{bytes_eq}
use Rattle.std.specs.Cmp.Lexicographic.{bytes_decides}

module _ (f : ℕ → ℕ) (xs ys : List ℕ) where
  apart : map f xs ≢ map f ys → false ≡ bytes_eq (map f xs) (map f ys)
  apart h = elim (cases_Bool (bytes_eq (map f xs) (map f ys))) [ inl e ↦ absurd (h ((bytes_decides (map f xs) (map f ys)).0 e)) | inr e ↦ sym e ]

  pub not_as_long : length xs ≢ length ys → false ≡ bytes_eq (map f xs) (map f ys)
  not_as_long h = apart (λ e. h (sym (length-map xs f) ∙ ap length e ∙ length-map ys f))

  pub unlike : (i : ℕ) → i < length xs → i < length ys → f (get_or xs i 0) ≢ f (get_or ys i 0) → false ≡ bytes_eq (map f xs) (map f ys)
  unlike i p q h = apart (λ e. h (sym (get_or-map f xs i 0 0 p) ∙ ap (λ zs. get_or zs i 0) e ∙ get_or-map f ys i 0 0 q))

  pub alike : length xs ≡ length ys → ((i : ℕ) → i < length xs → f (get_or xs i 0) ≡ f (get_or ys i 0)) → true ≡ bytes_eq (map f xs) (map f ys)
  alike n h =
      sym ((bytes_decides (map f xs) (map f ys)).1
      (same_number_lists (map f xs) (map f ys) (length-map xs f ∙ n ∙ sym (length-map ys f))
      (λ k l.
      let p : k < length xs = subst (λ m. k < m) (length-map xs f) l in
      let q : k < length ys = subst (λ m. k < m) n p in
      get_or-map f xs k 0 0 p ∙ h k p ∙ sym (get_or-map f ys k 0 0 q))))
