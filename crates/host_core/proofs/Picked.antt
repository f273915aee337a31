-- What is picked of a list that is itself picked.
use Rattle.std.proofs.Common.{◌≡◌, Bool, true, false, cond, List, [], ◌∷◌, ◌++◌, map, Option, Some, None, refl, ap, ◌∙◌}
use Rattle.std.specs.List.{cons_option, filter, filter_map, find, slice_get}
use Rattle.std.specs.Option.{option_map}

pub none_either : {X : Type 0} (b : Bool) → None ≡ cond {A = Option X} b None None
none_either true = refl
none_either false = refl

-- what is given of what passes, if there is something
abbrev pub kept : {Y Z : Type 0} → (Y → Bool) → (Y → Z) → Option Y → Option Z
kept p g None = None
kept p g (Some y) = cond (p y) (Some (g y)) None

pub filter_map-kept : {X Y Z : Type 0} (f : X → Option Y) (p : Y → Bool) (g : Y → Z) (h : X → Option Z) (xs : List X) →
    ((before : List X) (x : X) (after : List X) → xs ≡ before ++ x ∷ after → kept p g (f x) ≡ h x) →
    map g (filter p (filter_map f xs)) ≡ filter_map h xs
filter_map-kept f p g h [] same = refl
filter_map-kept {X} {Y} {Z} f p g h (x ∷ xs) same =
    at (f x)
    ∙ ap (λ rest. cons_option (kept p g (f x)) rest) (filter_map-kept f p g h xs (λ before y after is. same (x ∷ before) y after (ap (λ l. x ∷ l) is)))
    ∙ ap (λ o. cons_option o (filter_map h xs)) (same [] x xs refl)
  where
    passes : (y : Y) (b : Bool) (ys : List Y) → map g (cond b (y ∷ ys) ys) ≡ cons_option (cond b (Some (g y)) None) (map g ys)
    passes y true ys = refl
    passes y false ys = refl

    at : (o : Option Y) → map g (filter p (cons_option o (filter_map f xs))) ≡ cons_option (kept p g o) (map g (filter p (filter_map f xs)))
    at None = refl
    at (Some y) = passes y (p y) (filter p (filter_map f xs))

-- what is found is the first of those that pass
find-first : {Y Z : Type 0} (p : Y → Bool) (g : Y → Z) (ys : List Y) → option_map g (find p ys) ≡ slice_get (map g (filter p ys)) 0
find-first p g [] = refl
find-first {Y} {Z} p g (y ∷ ys) = at (p y) (find-first p g ys)
  where
    at : (b : Bool) → option_map g (find p ys) ≡ slice_get (map g (filter p ys)) 0 →
        option_map g (cond b (Some y) (find p ys)) ≡ slice_get (map g (cond b (y ∷ filter p ys) (filter p ys))) 0
    at true rest = refl
    at false rest = rest

pub find-kept : {X Y Z : Type 0} (f : X → Option Y) (p : Y → Bool) (g : Y → Z) (h : X → Option Z) (xs : List X) →
    ((before : List X) (x : X) (after : List X) → xs ≡ before ++ x ∷ after → kept p g (f x) ≡ h x) →
    option_map g (find p (filter_map f xs)) ≡ slice_get (filter_map h xs) 0
find-kept f p g h xs same = find-first p g (filter_map f xs) ∙ ap (λ l. slice_get l 0) (filter_map-kept f p g h xs same)
