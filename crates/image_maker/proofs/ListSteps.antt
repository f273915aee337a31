-- One element more of a list, where it was read at the next index.
use Rattle.std.proofs.Common.{◌≡◌, ℕ, ◌+◌, ◌<◌, List, [], ◌∷◌, ◌++◌, length, get_or, take, drop, sym, ap, ◌∙◌}
use Rattle.std.proofs.lemmas.List.{drop_more, get_or_default, take_more}

module _ {X : Type 0} (xs : List X) (i : ℕ) (item : X) (within : i < length xs) (is : item ≡ get_or xs i item) where
  -- it is read there with another default
  pub same_read : (other : X) → item ≡ get_or xs i other
  same_read other = is ∙ get_or_default xs i item other within

  -- what is left begins with it
  pub drop_next : drop i xs ≡ item ∷ drop (i + 1) xs
  drop_next = drop_more xs i item within ∙ ap (λ x. x ∷ drop (i + 1) xs) (sym is)

  -- what was taken ends with it
  pub take_next : take (i + 1) xs ≡ take i xs ++ item ∷ []
  take_next = take_more xs i item within ∙ ap (λ x. take i xs ++ x ∷ []) (sym is)
