-- Where the first of several types ends.
use Rattle.std.proofs.Common.{◌≡◌, ℕ, zero, suc, ◌+◌, ◌≤◌, ◌<◌, inl, inr, true, Some, List, [], ◌∷◌, ◌++◌, map, take, drop, length, get_or, refl, sym, ap, ◌∙◌, subst, append_assoc, drop-cons, arith}
use Rattle.std.proofs.lemmas.List.{map_more}
use Rattle.std.specs.List.{AllByRecursion, flat_map, list_all}
use Rattle.std.proofs.lemmas.Option.{same_Some}
use Rattle.std.proofs.lemmas.Bool.{and_parts, cases_lt}
use Rattle.std.proofs.Math.ListN.{drop_of_length-le}
use Rattle.signatures.specs.declared.key.KeyPart.{KeyPart}
use Rattle.signatures.specs.declared.key.KeyPart.TheVariants.{Prim, Class, Vector}
use Rattle.signatures.specs.Types.{are_types, IsType, AreMadeOf}
use Rattle.signatures.specs.Keys.{is_proper, element_of, IsProper, IsTypeKey}

-- where a type is due, a part is left
pub due_part : {P : Type 0} (arity : P → ℕ) (parts : List P) (at n : ℕ) → 0 < n → are_types n (map arity (drop at parts)) ≡ true → at < length parts
due_part arity parts at zero lt h = absurd (omega arith)
due_part {P} arity parts at (suc n) lt h = elim (cases_lt at (length parts)) [ inl within ↦ within | inr past ↦ absurd (none (drop_of_length-le parts past)) ] where
  none : ¬ (drop at parts ≡ [])
  none e = let x : are_types (suc n) [] ≡ true = ap (λ (ps : List P). are_types (suc n) (map arity ps)) (sym e) ∙ h in absurd cc

pub first_next : {P : Type 0} (arity : P → ℕ) (parts : List P) (at due : ℕ) (d : P) → at < length parts
    → ((more : List ℕ) → are_types (suc due) more ≡ true → are_types 1 (map arity (take at parts) ++ more) ≡ true)
    → (more : List ℕ) → are_types (due + arity (get_or parts at d)) more ≡ true → are_types 1 (map arity (take (at + 1) parts) ++ more) ≡ true
first_next arity parts at due d lt so_far more h =
    let own = arity (get_or parts at d) in
    let e : map arity (take (at + 1) parts) ++ more ≡ map arity (take at parts) ++ own ∷ more =
    ap (λ (ns : List ℕ). ns ++ more) (map_more arity parts at d lt) ∙ append_assoc (map arity (take at parts)) (own ∷ []) more in
    rw e (so_far (own ∷ more) h)

pub rest_next : {P : Type 0} (arity : P → ℕ) (parts : List P) (at n : ℕ) (d : P) → at < length parts → are_types (suc n) (map arity (drop at parts)) ≡ true
    → are_types (n + arity (get_or parts at d)) (map arity (drop (at + 1) parts)) ≡ true
rest_next {P} arity parts at n d lt h =
    let k : suc at ≡ at + 1 = omega arith in
    let e : drop at parts ≡ get_or parts at d ∷ drop (at + 1) parts = drop-cons parts at d lt ∙ ap (λ (i : ℕ). get_or parts at d ∷ drop i parts) k in
    ap (λ (ps : List P). are_types (suc n) (map arity ps)) (sym e) ∙ h

-- what comes after the first part of a type is what that part is made of
pub tail-whole : {P : Type 0} (arity : P → ℕ) (parts : List P) (d : P) → 1 ≤ length parts → IsType arity parts → are_types (arity (get_or parts 0 d)) (map arity (drop 1 parts)) ≡ true
tail-whole arity [] d lt h = absurd (omega arith)
tail-whole arity (part ∷ parts) d lt h =
    let e : 0 + arity part ≡ arity part = omega arith in
    ap (λ (n : ℕ). are_types n (map arity parts)) (sym e) ∙ h

-- and it is proper
pub tail-proper : (parts : List KeyPart) → IsProper parts → IsProper (drop 1 parts)
tail-proper [] h = h
tail-proper (part ∷ parts) h = (and_parts (is_proper part) (list_all is_proper parts) h).1

-- the element of an array is a key
pub element-whole : (parts element : List KeyPart) → element_of parts ≡ Some element → IsTypeKey parts → IsTypeKey element
element-whole [] element e h = absurd cc
element-whole (Prim prim ∷ parts) element e h = absurd cc
element-whole (Class assembly row args ∷ parts) element e h = absurd cc
element-whole (Vector ∷ parts) element e h = subst IsTypeKey (same_Some parts element e) (h.0, tail-proper (Vector ∷ parts) h.1)

-- of two readings of one list the first types are the same
same_first : {P : Type 0} (arity : P → ℕ) (n : ℕ) (xs ys r s : List P) → are_types n (map arity xs) ≡ true → are_types n (map arity ys) ≡ true → xs ++ r ≡ ys ++ s → (xs ≡ ys) × (r ≡ s)
same_first arity n [] [] r s h k e = (refl, e)
same_first arity zero [] (y ∷ ys) r s h k e = absurd cc
same_first arity (suc n) [] (y ∷ ys) r s h k e = absurd cc
same_first arity zero (x ∷ xs) [] r s h k e = absurd cc
same_first arity (suc n) (x ∷ xs) [] r s h k e = absurd cc
same_first arity zero (x ∷ xs) (y ∷ ys) r s h k e = absurd cc
same_first {P} arity (suc n) (x ∷ xs) (y ∷ ys) r s h k e =
    let first : x ≡ y = cc in
    let others : xs ++ r ≡ ys ++ s = cc in
    let whole : are_types (n + arity x) (map arity ys) ≡ true = ap (λ (p : P). are_types (n + arity p) (map arity ys)) first ∙ k in
    let i = same_first arity (n + arity x) xs ys r s h whole others in
    (ap (λ (p : P). p ∷ xs) first ∙ ap (λ (ps : List P). y ∷ ps) i.0, i.1)

no_type : {P : Type 0} (arity : P → ℕ) → ¬ IsType arity []
no_type arity h = absurd cc

one_list : {P : Type 0} (arity : P → ℕ) (a b : List (List P)) → AllByRecursion (IsType arity) a → AllByRecursion (IsType arity) b → flat_map (λ type. type) a ≡ flat_map (λ type. type) b → a ≡ b
one_list arity [] [] h k e = refl
one_list arity [] ([] ∷ b) h k e = absurd (no_type arity k.0)
one_list arity [] ((y ∷ ys) ∷ b) h k e = absurd cc
one_list arity ([] ∷ a) [] h k e = absurd (no_type arity h.0)
one_list arity ((x ∷ xs) ∷ a) [] h k e = absurd cc
one_list arity (x ∷ a) (y ∷ b) h k e =
    let first = same_first arity 1 x y (flat_map (λ type. type) a) (flat_map (λ type. type) b) h.0 k.0 e in
    ap (λ type. type ∷ a) first.0 ∙ ap (λ types. y ∷ types) (one_list arity a b h.1 k.1 first.1)

-- the types that a type is made of are no others
pub made-of-one-list : {P : Type 0} (arity : P → ℕ) (parts : List P) (a b : List (List P)) → AreMadeOf arity parts a → AreMadeOf arity parts b → a ≡ b
made-of-one-list arity parts a b h k = one_list arity a b h.1 k.1 (h.0 ∙ sym k.0)
