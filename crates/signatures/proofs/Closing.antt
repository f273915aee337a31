-- Types whose classes and variables are replaced stay whole.
use Rattle.std.proofs.Common.{◌≡◌, ℕ, zero, suc, ◌+◌, ◌<◌, Bool, true, false, List, [], ◌∷◌, ◌++◌, map, take, length, get_or, Option, Some, None, is_some, refl, sym, ap, ◌∙◌, append_assoc, length-append, arith}
use Rattle.std.specs.List.{find, flat_map, list_any, list_all}
use Rattle.std.specs.Prelude.{◌==◌}
use Rattle.std.specs.Option.{option_map_or}
use Rattle.std.proofs.lemmas.Bool.{and_parts, or_parts}
use Rattle.std.proofs.lemmas.List.{map-append, flat_map_more, take_more}
use Rattle.std.proofs.lemmas.List.Folds.{list_all-append, length-flat_map-take}
use Rattle.signatures.specs.declared.key.KeyPart.{KeyPart}
use Rattle.signatures.specs.declared.key.KeyPart.TheVariants.{Prim, Class, Vector}
use Rattle.signatures.specs.declared.fault.KeyFault.{KeyFault}
use Rattle.signatures.specs.declared.fault.KeyFault.TheVariants.{Index, Deep, OutOfMemory}
use Rattle.signatures.specs.Types.{are_types}
use Rattle.signatures.specs.Keys.{key_arity, is_proper, IsKey, IsProper}
use Rattle.signatures.specs.Substitution.{class_key, with_args, is_definition, StandsFor, Passes}

-- whole types and others after them
pub are_types-append : (xs ys : List ℕ) (m n : ℕ) → are_types m xs ≡ true → are_types (m + n) (xs ++ ys) ≡ are_types n ys
are_types-append [] ys zero n h = let e : 0 + n ≡ n = omega arith in rw e refl
are_types-append [] ys (suc m) n h = absurd cc
are_types-append (a ∷ xs) ys zero n h = absurd cc
are_types-append (a ∷ xs) ys (suc m) n h =
    let e : suc m + n ≡ suc (m + n) = omega arith in
    let r : (m + n) + a ≡ (m + a) + n = omega arith in
    ap (λ (k : ℕ). are_types k (a ∷ (xs ++ ys))) e ∙ (ap (λ (k : ℕ). are_types k (xs ++ ys)) r ∙ are_types-append xs ys (m + a) n h)

-- a key lacks nothing
pub stands-key : (parts : List KeyPart) → IsKey parts → StandsFor 0 parts
stands-key parts whole n more =
    let e : n + 1 ≡ 1 + n = omega arith in
    let f : n + 0 ≡ n = omega arith in
    rw (e, f) (are_types-append (map key_arity parts) more 1 n whole)

-- one part lacks what it is made of
pub stands-part : (part : KeyPart) → StandsFor (key_arity part) (part ∷ [])
stands-part part n more = let e : n + 1 ≡ suc n = omega arith in rw e refl

-- what completes the others may stand in their place
replaced : (xs ys zs : List ℕ) (n : ℕ) → ((m : ℕ) → are_types m ys ≡ true → are_types m zs ≡ true) → are_types n (xs ++ ys) ≡ true → are_types n (xs ++ zs) ≡ true
replaced [] ys zs n f h = f n h
replaced (a ∷ xs) ys zs zero f h = absurd cc
replaced (a ∷ xs) ys zs (suc n) f h = replaced xs ys zs (n + a) f h

stood : (args : ℕ) (parts : List KeyPart) (more : List ℕ) → StandsFor args parts → (m : ℕ) → are_types m (args ∷ more) ≡ true → are_types m (map key_arity parts ++ more) ≡ true
stood args parts more stands zero h = absurd cc
stood args parts more stands (suc m) h =
    let e : suc m ≡ m + 1 = omega arith in
    rw e (stands m more ∙ h)

-- one more part is replaced
pub whole_next : (front : List ℕ) (key parts : List KeyPart) (args : ℕ)
    → ((n : ℕ) (more : List ℕ) → are_types n (front ++ more) ≡ true → are_types n (map key_arity key ++ more) ≡ true)
    → StandsFor args parts
    → (n : ℕ) (more : List ℕ) → are_types n ((front ++ args ∷ []) ++ more) ≡ true → are_types n (map key_arity (key ++ parts) ++ more) ≡ true
whole_next front key parts args so_far stands n more h =
    let e : (front ++ args ∷ []) ++ more ≡ front ++ args ∷ more = append_assoc front (args ∷ []) more in
    let f : map key_arity (key ++ parts) ++ more ≡ map key_arity key ++ (map key_arity parts ++ more) =
    ap (λ (xs : List ℕ). xs ++ more) (map-append key_arity key parts) ∙ append_assoc (map key_arity key) (map key_arity parts) more in
    rw f (so_far n (map key_arity parts ++ more) (replaced front (args ∷ more) (map key_arity parts ++ more) n (stood args parts more stands) (ap (λ (xs : List ℕ). are_types n xs) (sym e) ∙ h)))

pub proper_next : (key parts : List KeyPart) → IsProper key → IsProper parts → IsProper (key ++ parts)
proper_next key parts h k = list_all-append is_proper key parts ∙ rw (h, k) refl

-- the class of a definition is as proper with arguments as without
pub proper-with_args : (args : ℕ) (key : List KeyPart) → IsProper key → IsProper (with_args args key)
proper-with_args args [] h = h
proper-with_args args (Prim prim ∷ rest) h = h
proper-with_args args (Class assembly row none ∷ rest) h = h
proper-with_args args (Vector ∷ rest) h = h

-- a definition with arguments lacks them
pub stands-with_args : (args : ℕ) (key : List KeyPart) → is_definition key ≡ true → StandsFor args (with_args args key)
stands-with_args args [] h = absurd cc
stands-with_args args (Prim prim ∷ rest) h = absurd cc
stands-with_args args (Vector ∷ rest) h = absurd cc
stands-with_args args (Class assembly row none ∷ []) h = stands-part (Class assembly row args)
stands-with_args args (Class assembly row none ∷ next ∷ rest) h = absurd cc

-- a definition was given for its class
pub defined : (classes : List (ℕ × List KeyPart)) (class : ℕ) → is_definition (class_key classes class) ≡ true → is_some (find (λ row. row.0 == class) classes) ≡ true
defined classes class h = given (find (λ row. row.0 == class) classes) h where
  given : (found : Option (ℕ × List KeyPart)) → is_definition (option_map_or (λ row. row.1) found []) ≡ true → is_some found ≡ true
  given None h = absurd cc
  given (Some row) h = refl

-- a test that all pass, one passes
pub all-at : {A : Type 0} (p : A → Bool) (xs : List A) (i : ℕ) (d : A) → list_all p xs ≡ true → i < length xs → p (get_or xs i d) ≡ true
all-at p [] i d h lt = absurd (omega arith)
all-at p (x ∷ xs) zero d h lt = (and_parts (p x) (list_all p xs) h).0
all-at p (x ∷ xs) (suc i) d h lt = all-at p xs i d (and_parts (p x) (list_all p xs) h).1 (omega arith)

-- a test that none pass, one does not pass
pub none-at : {A : Type 0} (p : A → Bool) (xs : List A) (i : ℕ) (d : A) → list_any p xs ≡ false → i < length xs → p (get_or xs i d) ≡ false
none-at p [] i d h lt = absurd (omega arith)
none-at p (x ∷ xs) zero d h lt = (or_parts (p x) (list_any p xs) h).0
none-at p (x ∷ xs) (suc i) d h lt = none-at p xs i d (or_parts (p x) (list_any p xs) h).1 (omega arith)

-- what is too much of a front is too much of the whole
pub passes : {A : Type 0} (fault : KeyFault) (f : A → List KeyPart) (xs : List A) (i : ℕ) (d : A) → i < length xs → Passes fault (flat_map f (take i xs) ++ f (get_or xs i d)) → Passes fault (flat_map f xs)
passes Index f xs i d lt h = h
passes OutOfMemory f xs i d lt h = tt
passes Deep f xs i d lt h = omega (arith, length-flat_map-take f xs i d lt, length-append (flat_map f (take i xs)) (f (get_or xs i d)))

pub closed_next : {A : Type 0} (f : A → List KeyPart) (xs : List A) (i : ℕ) (d : A) → i < length xs → flat_map f (take i xs) ++ f (get_or xs i d) ≡ flat_map f (take (i + 1) xs)
closed_next {A} f xs i d lt = flat_map_more f [] (take i xs) (get_or xs i d) ∙ ap (λ (front : List A). flat_map f front) (sym (take_more xs i d lt))
