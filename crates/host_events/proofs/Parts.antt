-- Lists that are parted at an element.
use Rattle.std.proofs.Common.{◌≡◌, inl, inr, Bool, true, false, ◌&&◌, cond, zero, suc, List, [], ◌∷◌, ◌++◌, Option, Some, None, refl, sym, ap, subst, ◌∙◌, append_assoc, append-nil, arith}
use Rattle.std.specs.List.{cons_option, filter, filter_map, flat_map, list_any, slice_get, Contains, AllByRecursion}
use Rattle.std.proofs.lemmas.Bool.{or_cases, or_left, or_right}
use Rattle.std.proofs.lemmas.List.Elements.{Contains-append_right, filter_map-append}
use Rattle.std.proofs.lemmas.List.Folds.{list_any-append}

-- what holds of no elements, and of one element more, holds of all lists
pub each_push : {X : Type 0} (P : List X → Type 0) → P [] → ((xs : List X) (x : X) → P xs → P (xs ++ x ∷ [])) → (xs : List X) → P xs
each_push {X} P none more xs = from [] xs none
  where
    from : (before rest : List X) → P before → P (before ++ rest)
    from before [] h = subst P (sym (append-nil before)) h
    from before (x ∷ rest) h = subst P (append_assoc before (x ∷ []) rest) (from (before ++ x ∷ []) rest (more before x h))

-- the list is parted at an element of which P holds
pub record PartsAt {X : Type 0} (P : X → Type 0) (xs : List X) : Type 0 where
  pub before : List X
  pub here : X
  pub after : List X
  pub parted : xs ≡ before ++ here ∷ after
  pub holds : P here

pub parts_first : {X : Type 0} (P : X → Type 0) (x : X) (xs : List X) → P x → PartsAt P (x ∷ xs)
parts_first P x xs h = record { before = []; here = x; after = xs; parted = refl; holds = h }

pub parts_later : {X : Type 0} (P : X → Type 0) (x : X) (xs : List X) → PartsAt P xs → PartsAt P (x ∷ xs)
parts_later P x xs h = record { before = x ∷ h.before; here = h.here; after = h.after; parted = ap (λ ys. x ∷ ys) h.parted; holds = h.holds }

pub parts-append : {X : Type 0} (P : X → Type 0) (xs ys : List X) → PartsAt P xs → PartsAt P (xs ++ ys)
parts-append P xs ys h = record {
  before = h.before;
  here = h.here;
  after = h.after ++ ys;
  parted = ap (λ v. v ++ ys) h.parted ∙ append_assoc h.before (h.here ∷ h.after) ys;
  holds = h.holds;
}

pub parts_push : {X : Type 0} (P : X → Type 0) (xs : List X) (x : X) → P x → PartsAt P (xs ++ x ∷ [])
parts_push P xs x h = record { before = xs; here = x; after = []; parted = refl; holds = h }

-- a member of the values that a function gives is given of an element
pub parts_given : {X Y : Type 0} (f : X → Option Y) (xs : List X) (y : Y) → Contains (filter_map f xs) y → PartsAt (λ x. f x ≡ Some y) xs
parts_given f [] y h = absurd (omega (arith, h.1))
parts_given {X} {Y} f (x ∷ xs) y h = at (f x) refl (parts_given f xs y) h
  where
    at : (o : Option Y) → f x ≡ o → (Contains (filter_map f xs) y → PartsAt (λ x. f x ≡ Some y) xs) →
        Contains (cons_option o (filter_map f xs)) y → PartsAt (λ x. f x ≡ Some y) (x ∷ xs)
    at None is rest has = parts_later (λ x. f x ≡ Some y) x xs (rest has)
    at (Some z) is rest (zero, within, same) = parts_first (λ x. f x ≡ Some y) x xs (is ∙ ap Some same)
    at (Some z) is rest (suc k, within, same) = parts_later (λ x. f x ≡ Some y) x xs (rest (k, omega arith, same))

-- the first of the values that a function gives is given of an element
pub parts_first_given : {X Y : Type 0} (f : X → Option Y) (xs : List X) (y : Y) → slice_get (filter_map f xs) 0 ≡ Some y →
    PartsAt (λ x. f x ≡ Some y) xs
parts_first_given f [] y h = cc
parts_first_given {X} {Y} f (x ∷ xs) y h = at (f x) refl (parts_first_given f xs y) h
  where
    at : (o : Option Y) → f x ≡ o → (slice_get (filter_map f xs) 0 ≡ Some y → PartsAt (λ x. f x ≡ Some y) xs) →
        slice_get (cons_option o (filter_map f xs)) 0 ≡ Some y → PartsAt (λ x. f x ≡ Some y) (x ∷ xs)
    at None is rest has = parts_later (λ x. f x ≡ Some y) x xs (rest has)
    at (Some z) is rest has = parts_first (λ x. f x ≡ Some y) x xs (is ∙ has)

-- where some element passes, the list is parted at one that does
pub parts_any : {X : Type 0} (p : X → Bool) (xs : List X) → list_any p xs ≡ true → PartsAt (λ x. p x ≡ true) xs
parts_any p [] h = cc
parts_any p (x ∷ xs) h =
    elim (or_cases (p x) (list_any p xs) h) [
      | inl passes ↦ parts_first (λ x. p x ≡ true) x xs passes
      | inr later ↦ parts_later (λ x. p x ≡ true) x xs (parts_any p xs later)
    ]

pub any_parts : {X : Type 0} (p : X → Bool) (xs : List X) → PartsAt (λ x. p x ≡ true) xs → list_any p xs ≡ true
any_parts p xs h =
    ap (list_any p) h.parted
    ∙ list_any-append p h.before (h.here ∷ h.after)
    ∙ or_right (list_any p h.before) (list_any p (h.here ∷ h.after)) (or_left (p h.here) (list_any p h.after) h.holds)

-- what a function gives of an element is a member of the values that it gives
pub given_parts : {X Y : Type 0} (f : X → Option Y) (xs : List X) (y : Y) → PartsAt (λ x. f x ≡ Some y) xs → Contains (filter_map f xs) y
given_parts {X} {Y} f xs y h =
    let here : Contains (cons_option (f h.here) (filter_map f h.after)) y =
    subst (λ (o : Option Y). Contains (cons_option o (filter_map f h.after)) y) (sym h.holds) (0, omega arith, refl) in
    let given : filter_map f xs ≡ filter_map f h.before ++ filter_map f (h.here ∷ h.after) =
    ap (filter_map f) h.parted ∙ filter_map-append f h.before (h.here ∷ h.after) in
    subst (λ (ys : List Y). Contains ys y) (sym given) (Contains-append_right (filter_map f h.before) (filter_map f (h.here ∷ h.after)) y here)

-- what passes is let through
pub kept_in : {X : Type 0} (p : X → Bool) (xs : List X) (x : X) → Contains xs x → p x ≡ true → Contains (filter p xs) x
kept_in p [] x has passes = has
kept_in {X} p (z ∷ xs) x has passes = at (p z) refl (λ in_rest. kept_in p xs x in_rest passes) has
  where
    at : (b : Bool) → p z ≡ b → (Contains xs x → Contains (filter p xs) x) → Contains (z ∷ xs) x → Contains (cond b (z ∷ filter p xs) (filter p xs)) x
    at true is later (zero, within, same) = (0, omega arith, same)
    at true is later (suc i, within, same) = let there = later (i, omega arith, same) in (suc there.0, omega (arith, there.1), there.2)
    at false is later (zero, within, same) = let passed : p z ≡ true = ap p same ∙ passes in cc (passed, is)
    at false is later (suc i, within, same) = later (i, omega arith, same)

-- a list that is parted at two elements: they are one, or one comes before the other
pub data IsBeside {X : Type 0} (before after other rest : List X) (x y : X) : Type 0 where
  is_one : before ≡ other → x ≡ y → after ≡ rest → IsBeside before after other rest x y
  is_first : (between : List X) → other ≡ before ++ x ∷ between → after ≡ between ++ y ∷ rest → IsBeside before after other rest x y
  is_second : (between : List X) → before ≡ other ++ y ∷ between → rest ≡ between ++ x ∷ after → IsBeside before after other rest x y

pub beside : {X : Type 0} (before after other rest : List X) (x y : X) → before ++ x ∷ after ≡ other ++ y ∷ rest →
    IsBeside before after other rest x y
beside [] after [] rest x y e = IsBeside.is_one refl (cc e) (cc e)
beside [] after (o ∷ other) rest x y e =
    let heads : x ≡ o = cc e in
    let tails : after ≡ other ++ y ∷ rest = cc e in
    IsBeside.is_first other (ap (λ v. v ∷ other) (sym heads)) tails
beside (b ∷ before) after [] rest x y e =
    let heads : b ≡ y = cc e in
    let tails : before ++ x ∷ after ≡ rest = cc e in
    IsBeside.is_second before (ap (λ v. v ∷ before) heads) (sym tails)
beside {X} (b ∷ before) after (o ∷ other) rest x y e = at (beside before after other rest x y tails)
  where
    heads : b ≡ o
    heads = cc e

    tails : before ++ x ∷ after ≡ other ++ y ∷ rest
    tails = cc e

    at : IsBeside before after other rest x y → IsBeside (b ∷ before) after (o ∷ other) rest x y
    at (IsBeside.is_one s t u) = IsBeside.is_one (ap (λ v. v ∷ before) heads ∙ ap (λ v. o ∷ v) s) t u
    at (IsBeside.is_first between s t) = IsBeside.is_first between (ap (λ v. v ∷ other) (sym heads) ∙ ap (λ v. b ∷ v) s) t
    at (IsBeside.is_second between s t) = IsBeside.is_second between (ap (λ v. v ∷ before) heads ∙ ap (λ v. o ∷ v) s) t

-- the same of all that a list begins with, where something is
pub first-append : {X : Type 0} (xs ys : List X) (x : X) → slice_get xs 0 ≡ Some x → slice_get (xs ++ ys) 0 ≡ Some x
first-append [] ys x h = cc
first-append (z ∷ xs) ys x h = h

pub first-none : {X : Type 0} (xs ys : List X) → slice_get xs 0 ≡ None → slice_get (xs ++ ys) 0 ≡ slice_get ys 0
first-none [] ys h = refl
first-none (z ∷ xs) ys h = cc

pub first_of_option : {X : Type 0} (o : Option X) → slice_get (cons_option o []) 0 ≡ o
first_of_option None = refl
first_of_option (Some x) = refl

-- one element more
pub filter_map-push : {X Y : Type 0} (f : X → Option Y) (xs : List X) (x : X) →
    filter_map f (xs ++ x ∷ []) ≡ filter_map f xs ++ cons_option (f x) []
filter_map-push f xs x = filter_map-append f xs (x ∷ [])

-- tests that agree on the elements let the same through
pub filter-same : {X : Type 0} (p q : X → Bool) (xs : List X) → ((x : X) → Contains xs x → p x ≡ q x) → filter p xs ≡ filter q xs
filter-same p q [] same = refl
filter-same {X} p q (x ∷ xs) same =
    ap (λ b. cond b (x ∷ filter p xs) (filter p xs)) (same x (0, omega arith, refl))
    ∙ ap (λ ys. cond (q x) (x ∷ ys) ys) (filter-same p q xs (λ z has. same z (suc has.0, omega (arith, has.1), has.2)))

pub filter-filter : {X : Type 0} (p q : X → Bool) (xs : List X) → filter p (filter q xs) ≡ filter (λ x. q x && p x) xs
filter-filter p q [] = refl
filter-filter {X} p q (x ∷ xs) = at (q x) (filter-filter p q xs)
  where
    rest : List X
    rest = filter (λ z. q z && p z) xs

    at : (b : Bool) → filter p (filter q xs) ≡ rest →
        filter p (cond b (x ∷ filter q xs) (filter q xs)) ≡ cond (b && p x) (x ∷ rest) rest
    at true later = ap (λ ys. cond (p x) (x ∷ ys) ys) later
    at false later = later

-- functions that agree on the elements give the same of them
pub filter_map-same : {X Y : Type 0} (f g : X → Option Y) (xs : List X) → AllByRecursion (λ x. f x ≡ g x) xs → filter_map f xs ≡ filter_map g xs
filter_map-same f g [] same = refl
filter_map-same f g (x ∷ xs) same =
    ap (λ o. cons_option o (filter_map f xs)) same.0 ∙ ap (λ ys. cons_option (g x) ys) (filter_map-same f g xs same.1)

pub flat_map-same : {X Y : Type 0} (f g : X → List Y) (xs : List X) → AllByRecursion (λ x. f x ≡ g x) xs → flat_map f xs ≡ flat_map g xs
flat_map-same f g [] same = refl
flat_map-same f g (x ∷ xs) same = ap (λ ys. ys ++ flat_map f xs) same.0 ∙ ap (λ ys. g x ++ ys) (flat_map-same f g xs same.1)
