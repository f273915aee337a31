-- Steps of going through the contexts.
use Rattle.std.proofs.Common.{◌≡◌, ℕ, ◌+◌, ◌<◌, List, [], ◌∷◌, ◌++◌, length, get_or, take, Option, Some, None, refl, sym, ap, ◌∙◌}
use Rattle.std.specs.List.{filter_map, last_or}
use Rattle.std.specs.Option.{option_to_list}
use Rattle.std.proofs.lemmas.List.{take_more}
use Rattle.std.proofs.lemmas.List.Elements.{filter_map-append}

last_or-append : {X : Type 0} (o : Option X) (xs ys : List X) → last_or o (xs ++ ys) ≡ last_or (last_or o xs) ys
last_or-append o [] ys = refl
last_or-append o (x ∷ xs) ys = last_or-append (Some x) xs ys

filter_map_one : {E X : Type 0} (h : E → Option X) (e : E) (o : Option X) → o ≡ h e → filter_map h (e ∷ []) ≡ option_to_list o
filter_map_one h e None is = cc
filter_map_one h e (Some x) is = cc

-- the last one that is given, of one element more
pub last_more : {E X : Type 0} (h : E → Option X) (es : List E) (i : ℕ) (e : E) (before after : Option X) →
    i < length es → e ≡ get_or es i e → before ≡ last_or None (filter_map h (take i es)) →
    after ≡ last_or before (option_to_list (h e)) → after ≡ last_or None (filter_map h (take (i + 1) es))
last_more h es i e before after lt is so_far now =
    let at_end : take (i + 1) es ≡ take i es ++ e ∷ [] = take_more es i e lt ∙ ap (λ x. take i es ++ x ∷ []) (sym is) in
    let mapped = filter_map-append h (take i es) (e ∷ []) in
    let last = last_or-append None (filter_map h (take i es)) (filter_map h (e ∷ [])) in
    let new : filter_map h (e ∷ []) ≡ option_to_list (h e) = filter_map_one h e (h e) refl in
    cc (at_end, mapped, last, new, so_far, now)
