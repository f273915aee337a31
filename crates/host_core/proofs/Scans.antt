-- A step of going through the entries.
use Rattle.std.proofs.Common.{◌≡◌, ℕ, ◌+◌, ◌<◌, ◌≤◌, Bool, true, false, cond, zero, suc, List, [], ◌∷◌, ◌++◌, length, get_or, take, Option, Some, None, refl, sym, ap, ◌∙◌, arith}
use Rattle.std.specs.List.{cons_option, filter, filter_map, last_or, slice_get}
use Rattle.std.specs.Option.{option_to_list}
use Rattle.std.specs.Option.{is_some}
use Rattle.host_events.specs.declared.journal.Entry.{Entry}
use Rattle.host_events.specs.Contexts.{made_context, made_count}
use Rattle.host_events.proofs.Push.{made_count-push}
use Rattle.std.proofs.lemmas.List.{take_more}
use Rattle.std.proofs.lemmas.List.Elements.{filter-append, filter_map-append}

last_or-append : {X : Type 0} (o : Option X) (xs ys : List X) → last_or o (xs ++ ys) ≡ last_or (last_or o xs) ys
last_or-append o [] ys = refl
last_or-append o (x ∷ xs) ys = last_or-append (Some x) xs ys

filter_map_one : {E X : Type 0} (h : E → Option X) (e : E) (o : Option X) → o ≡ h e → filter_map h (e ∷ []) ≡ option_to_list o
filter_map_one h e None is = cc
filter_map_one h e (Some x) is = cc

-- the last one that passes, of one entry more
pub last_more : {E X : Type 0} (p : X → Bool) (h : E → Option X) (es : List E) (i : ℕ) (e : E) (before after one : Option X) →
    i < length es → e ≡ get_or es i e → before ≡ last_or None (filter p (filter_map h (take i es))) →
    one ≡ h e → after ≡ last_or before (filter p (option_to_list one)) →
    after ≡ last_or None (filter p (filter_map h (take (i + 1) es)))
last_more p h es i e before after one lt is so_far made now =
    let grown : take (i + 1) es ≡ take i es ++ get_or es i e ∷ [] = take_more es i e lt in
    let at_end : take (i + 1) es ≡ take i es ++ e ∷ [] = grown ∙ ap (λ x. take i es ++ x ∷ []) (sym is) in
    let mapped = filter_map-append h (take i es) (e ∷ []) in
    let passed = filter-append p (filter_map h (take i es)) (filter_map h (e ∷ [])) in
    let last = last_or-append None (filter p (filter_map h (take i es))) (filter p (filter_map h (e ∷ []))) in
    let new : filter_map h (e ∷ []) ≡ option_to_list one = filter_map_one h e one made in
    cc (at_end, mapped, passed, last, new, so_far, now)

-- a front in which nothing is given
none_more : {E X : Type 0} (h : E → Option X) (e : E) (es : List E) → filter_map h (e ∷ es) ≡ [] → (h e ≡ None) × (filter_map h es ≡ [])
none_more {E} {X} h e es none = at (h e) none
  where
    at : (o : Option X) → cons_option o (filter_map h es) ≡ [] → (o ≡ None) × (filter_map h es ≡ [])
    at None none = (refl, none)
    at (Some x) none = cc

-- the first one that is given
pub first_given : {E X : Type 0} (h : E → Option X) (es : List E) (i : ℕ) (e : E) (x : X) →
    i < length es → e ≡ get_or es i e → filter_map h (take i es) ≡ [] → h e ≡ Some x → slice_get (filter_map h es) 0 ≡ Some x
first_given h [] i e x lt is none gives = absurd (omega arith)
first_given h (y ∷ ys) zero e x lt is none gives =
    let here : h y ≡ Some x = ap h (sym is) ∙ gives in
    ap (λ o. slice_get (cons_option o (filter_map h ys)) 0) here
first_given h (y ∷ ys) (suc i) e x lt is none gives =
    let parts = none_more h y (take i ys) none in
    ap (λ o. slice_get (cons_option o (filter_map h ys)) 0) parts.0 ∙ first_given h ys i e x (omega arith) is parts.1 gives

-- the same, told by an answer
pub first_some : {E X : Type 0} (h : E → Option X) (es : List E) (i : ℕ) (e : E) (o : Option X) →
    i < length es → e ≡ get_or es i e → filter_map h (take i es) ≡ [] → o ≡ h e → is_some o ≡ true → o ≡ slice_get (filter_map h es) 0
first_some h es i e None lt is none gives some = cc
first_some h es i e (Some x) lt is none gives some = sym (first_given h es i e x lt is none (sym gives))

pub none_some : {E X : Type 0} (h : E → Option X) (es : List E) (i : ℕ) (e : E) (o : Option X) →
    i < length es → e ≡ get_or es i e → filter_map h (take i es) ≡ [] → o ≡ h e → is_some o ≡ false → filter_map h (take (i + 1) es) ≡ []
none_some h es i e (Some x) lt is none gives some = cc
none_some h es i e None lt is none gives some =
    let at_end : take (i + 1) es ≡ take i es ++ e ∷ [] = take_more es i e lt ∙ ap (λ x. take i es ++ x ∷ []) (sym is) in
    let last : filter_map h (e ∷ []) ≡ [] = filter_map_one h e None gives in
    ap (filter_map h) at_end ∙ filter_map-append h (take i es) (e ∷ []) ∙ ap (λ l. l ++ filter_map h (e ∷ [])) none ∙ last

-- how many contexts were made, of one entry more
pub made_count_more : (es : List Entry) (i : ℕ) (e : Entry) (count one : ℕ) →
    i < length es → e ≡ get_or es i e → count ≡ made_count (take i es) → one ≡ cond (is_some (made_context e.reply)) 1 0 →
    count + one ≡ made_count (take (i + 1) es)
made_count_more es i e count one lt is so_far now =
    let at_end : take (i + 1) es ≡ take i es ++ e ∷ [] = take_more es i e lt ∙ ap (λ x. take i es ++ x ∷ []) (sym is) in
    omega (arith, so_far, now, ap made_count at_end, made_count-push (take i es) e)

pub one-le : (b : Bool) (one : ℕ) → one ≡ cond b 1 0 → one ≤ 1
one-le true one is = omega (arith, is)
one-le false one is = omega (arith, is)
