-- Readings one after another, as a loop makes them.
use Rattle.std.proofs.Common.{◌≡◌, ℕ, zero, suc, ◌-◌, ◌+◌, ◌≤◌, ◌<◌, true, List, [], ◌∷◌, ◌++◌, map, length, Some, None, Result, Ok, Err, refl, sym, ap, ◌∙◌, append_assoc, arith}
use Rattle.std.proofs.lemmas.List.{append-nil}
use Rattle.std.proofs.lemmas.Option.{cond_some}
use Rattle.signatures.specs.declared.fault.Stop.{Stop}
use Rattle.signatures.specs.declared.fault.Stop.TheVariants.{Bad}
use Rattle.signatures.specs.declared.fault.ReadFault.{ReadFault}
use Rattle.signatures.specs.declared.fault.ReadFault.TheVariants.{Stopped, OutOfMemory}
use Rattle.signatures.specs.declared.sig.SigPart.{SigPart}
use Rattle.signatures.specs.Types.{arity, are_types}
use Rattle.signatures.specs.Grammar.{Reading, ◌>>=◌, class_at, past_modifier, after_modifiers, bare_part_at, part_at, types_at, type_at, sigs_at}
use Rattle.signatures.specs.Signatures.{GaveUp}

-- a reading after another gave a value
pub bind_ok : {A B : Type 0} (r : Result A Stop) (f : A → Result B Stop) (y : B) → (r >>= f) ≡ Ok y → (x : A) × (r ≡ Ok x) × (f x ≡ Ok y)
bind_ok (Ok x) f y h = (x, refl, h)
bind_ok (Err stop) f y h = absurd cc

pub ok_pair : {A B : Type 0} (a x : A) (b y : B) (r : Result (A × B) Stop) → r ≡ Ok (a, b) → r ≡ Ok (x, y) → (a ≡ x) × (b ≡ y)
ok_pair {A} {B} a x b y r h k =
    let e : ◌≡◌ {A = Result (A × B) Stop} (Ok (a, b)) (Ok (x, y)) = sym h ∙ k in
    let first : Result (A × B) Stop → A = λ r. elim r [ Ok p ↦ p.0 | Err stop ↦ a ] in
    let second : Result (A × B) Stop → B = λ r. elim r [ Ok p ↦ p.1 | Err stop ↦ b ] in
    (ap first e, ap second e)

same_stop : {A : Type 0} (a b : Stop) (r : Result A Stop) → r ≡ Err a → r ≡ Err b → a ≡ b
same_stop {A} a b r h k =
    let stop : Result A Stop → Stop = λ r. elim r [ Ok x ↦ a | Err stop ↦ stop ] in
    ap stop (sym h ∙ k)

-- what was read before, and what is still read
abbrev pub with_front : {A : Type 0} → List A → Reading (List A) → Reading (List A)
with_front front reading = reading >>= λ x. Ok (front ++ x.0, x.1)

-- the first of what is still read goes to what was read before
regroup : {A : Type 0} (front : List A) (first : A) (reading : Reading (List A)) → with_front front (reading >>= λ x. Ok (first ∷ x.0, x.1)) ≡ with_front (front ++ first ∷ []) reading
regroup front first (Ok x) = ap (λ items. Ok (items, x.1)) (simp append_assoc)
regroup front first (Err stop) = refl

nothing_more : {A : Type 0} (front : List A) (rest : List ℕ) → with_front front (Ok ([], rest)) ≡ Ok (front, rest)
nothing_more front rest = ap (λ items. Ok (items, rest)) (append-nil front)

-- what stands after a modifier's first byte is shorter
pub past_modifier-shorter : (bytes rest : List ℕ) → past_modifier bytes ≡ Some rest → length rest < length bytes
past_modifier-shorter [] rest h = absurd cc
past_modifier-shorter (byte ∷ bytes) rest h = let e = (cond_some _ bytes rest h).1 in rw (sym e) (omega arith)

-- one modifier is passed over, with a step less
pub modifiers_next : (steps : ℕ) (bytes rest after : List ℕ) (class : ℕ) (total : Result (List ℕ) Stop)
    → length bytes ≤ steps → past_modifier bytes ≡ Some rest → class_at rest ≡ Ok (class, after) → length after ≤ length rest
    → after_modifiers steps bytes ≡ total
    → (more : ℕ) × (length after ≤ more) × (after_modifiers more after ≡ total)
unfolding after_modifiers
modifiers_next zero bytes rest after class total enough begins h shorter so_far =
    let lt = past_modifier-shorter bytes rest begins in absurd (omega arith)
modifiers_next (suc steps) bytes rest after class total enough begins h shorter so_far =
    let lt = past_modifier-shorter bytes rest begins in
    let one : after_modifiers (suc steps) bytes ≡ after_modifiers steps after = rw (begins, h) refl in
    (steps, omega arith, sym one ∙ so_far)

pub modifiers_end : (steps : ℕ) (bytes rest : List ℕ) (stop : Stop) (total : Result (List ℕ) Stop)
    → length bytes ≤ steps → past_modifier bytes ≡ Some rest → class_at rest ≡ Err stop → after_modifiers steps bytes ≡ total → total ≡ Err stop
unfolding after_modifiers
modifiers_end zero bytes rest stop total enough begins h so_far =
    let lt = past_modifier-shorter bytes rest begins in absurd (omega arith)
modifiers_end (suc steps) bytes rest stop total enough begins h so_far =
    let one : after_modifiers (suc steps) bytes ≡ Err stop = rw (begins, h) refl in
    sym so_far ∙ one

pub modifiers_done : (steps : ℕ) (bytes : List ℕ) (total : Result (List ℕ) Stop)
    → past_modifier bytes ≡ None → after_modifiers steps bytes ≡ total → total ≡ Ok bytes
unfolding after_modifiers
modifiers_done zero bytes total begins so_far = sym so_far
modifiers_done (suc steps) bytes total begins so_far =
    let one : after_modifiers (suc steps) bytes ≡ Ok bytes = rw begins refl in
    sym so_far ∙ one

front-nil : {A : Type 0} (reading : Reading (List A)) → with_front [] reading ≡ reading
front-nil (Ok x) = refl
front-nil (Err stop) = refl

-- before any part is read
pub types_begin : (front : List SigPart) (bytes : List ℕ) → front ≡ [] → with_front front (types_at (length bytes - length front) 1 bytes) ≡ type_at bytes
unfolding type_at
types_begin front bytes e =
    let k : length bytes - 0 ≡ length bytes = omega arith in
    rw (e, k) (front-nil (types_at (length bytes) 1 bytes))

-- a part is read, and the types that it is made of are due besides
pub types_next : (front : List SigPart) (steps fewer due others : ℕ) (rest after : List ℕ) (first : SigPart) (total : Reading (List SigPart))
    → steps ≡ suc fewer → due ≡ suc others → part_at rest ≡ Ok (first, after) → with_front front (types_at steps due rest) ≡ total
    → with_front (front ++ first ∷ []) (types_at fewer (others + arity first) after) ≡ total
unfolding types_at
types_next front steps fewer due others rest after first total e d h so_far =
    let one : with_front front (types_at steps due rest) ≡ with_front (front ++ first ∷ []) (types_at fewer (others + arity first) after) = rw (e, d, h) (regroup front first (types_at fewer (others + arity first) after)) in
    sym one ∙ so_far

-- no part begins where no byte is
part_at-nil : part_at [] ≡ Err (Bad 0)
unfolding part_at bare_part_at after_modifiers
part_at-nil = refl

types_stop : (steps due : ℕ) (rest : List ℕ) (stop : Stop) → 0 < due → length rest ≤ steps → part_at rest ≡ Err stop → types_at steps due rest ≡ Err stop
unfolding types_at
types_stop steps zero rest stop lt enough h = absurd (omega arith)
types_stop zero (suc others) [] stop lt enough h = ap (λ stop. Err stop) (same_stop (Bad 0) stop (part_at []) part_at-nil h)
types_stop zero (suc others) (byte ∷ rest) stop lt enough h = absurd (omega arith)
types_stop (suc steps) (suc others) rest stop lt enough h = rw h refl

pub types_end : (front : List SigPart) (steps due : ℕ) (rest : List ℕ) (stop : Stop) (total : Reading (List SigPart))
    → 0 < due → length rest ≤ steps → part_at rest ≡ Err stop → with_front front (types_at steps due rest) ≡ total → total ≡ Err stop
types_end front steps due rest stop total lt enough h so_far =
    let one : with_front front (types_at steps due rest) ≡ Err stop = rw (types_stop steps due rest stop lt enough h) refl in
    sym so_far ∙ one

pub types_done : (front : List SigPart) (steps due : ℕ) (rest : List ℕ) (total : Reading (List SigPart))
    → due ≤ 0 → with_front front (types_at steps due rest) ≡ total → total ≡ Ok (front, rest)
unfolding types_at
types_done front steps due rest total le so_far =
    let none : due ≡ 0 = omega arith in
    let one : with_front front (types_at steps due rest) ≡ Ok (front, rest) = rw none (nothing_more front rest) in
    sym so_far ∙ one

-- what is read as n types is n types
pub types-whole : (steps n : ℕ) (bytes rest : List ℕ) (parts : List SigPart) → types_at steps n bytes ≡ Ok (parts, rest) → are_types n (map arity parts) ≡ true
unfolding types_at
types-whole steps zero bytes rest parts h = let e = (ok_pair _ parts bytes rest _ refl h).0 in rw (sym e) refl
types-whole zero (suc n) bytes rest parts h = absurd cc
types-whole (suc steps) (suc n) bytes rest parts h =
    let a = bind_ok (part_at bytes) _ _ h in
    let b = bind_ok (types_at steps (n + arity a.0.0) a.0.1) _ _ a.2 in
    let e = (ok_pair (a.0.0 ∷ b.0.0) parts b.0.1 rest _ refl b.2).0 in
    rw (sym e) (types-whole steps (n + arity a.0.0) a.0.1 b.0.1 b.0.0 b.1)

pub type-whole : (bytes rest : List ℕ) (parts : List SigPart) → type_at bytes ≡ Ok (parts, rest) → are_types 1 (map arity parts) ≡ true
unfolding type_at
type-whole bytes rest parts h = types-whole (length bytes) 1 bytes rest parts h

-- a type is read, of those that are due
pub sigs_next : (front : List (List SigPart)) (count i : ℕ) (rest after : List ℕ) (first : List SigPart) (total : Reading (List (List SigPart)))
    → i < count → type_at rest ≡ Ok (first, after) → with_front front (sigs_at (count - i) rest) ≡ total
    → with_front (front ++ first ∷ []) (sigs_at (count - (i + 1)) after) ≡ total
unfolding sigs_at
sigs_next front count i rest after first total lt h so_far =
    let k : count - i ≡ suc (count - (i + 1)) = omega arith in
    let one : with_front front (sigs_at (count - i) rest) ≡ with_front (front ++ first ∷ []) (sigs_at (count - (i + 1)) after) = rw (k, h) (regroup front first (sigs_at (count - (i + 1)) after)) in
    sym one ∙ so_far

pub sigs_end : (fault : ReadFault) (front : List (List SigPart)) (count i : ℕ) (rest : List ℕ) (total : Reading (List (List SigPart)))
    → i < count → GaveUp fault (type_at rest) → with_front front (sigs_at (count - i) rest) ≡ total → GaveUp fault total
unfolding sigs_at
sigs_end OutOfMemory front count i rest total lt h so_far = tt
sigs_end (Stopped stop) front count i rest total lt h so_far =
    let k : count - i ≡ suc (count - (i + 1)) = omega arith in
    let one : with_front front (sigs_at (count - i) rest) ≡ Err stop = rw (k, h) refl in
    sym so_far ∙ one

pub sigs_done : (front : List (List SigPart)) (count i : ℕ) (rest : List ℕ) (total : Reading (List (List SigPart)))
    → count ≤ i → with_front front (sigs_at (count - i) rest) ≡ total → total ≡ Ok (front, rest)
unfolding sigs_at
sigs_done front count i rest total le so_far =
    let k : count - i ≡ 0 = omega arith in
    let one : with_front front (sigs_at (count - i) rest) ≡ Ok (front, rest) = rw k (nothing_more front rest) in
    sym so_far ∙ one
