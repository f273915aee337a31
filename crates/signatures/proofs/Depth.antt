-- Levels that are kept with the first last.
use Rattle.std.proofs.Common.{◌≡◌, ℕ, suc, ◌+◌, ◌-◌, ◌≤◌, ◌<◌, max, List, [], ◌∷◌, ◌++◌, reverse, take, drop, length, get_or, refl, sym, ap, ◌∙◌, arith, drop-cons, length-drop, inl, inr}
use Rattle.std.proofs.lemmas.List.{reverse-append, length-reverse, take-append-drop, take_all}
use Rattle.std.proofs.Math.Seq.{take-append_seam, drop-append_seam}
use Rattle.std.proofs.Math.ListN.{drop_of_length-le}
use Rattle.std.proofs.lemmas.Bool.{cases_lt}
use Rattle.signatures.specs.declared.key.KeyPart.{KeyPart}
use Rattle.signatures.specs.Keys.{key_arity, greatest, levels_of}

pub greatest-append : (xs ys : List ℕ) → greatest (xs ++ ys) ≡ max (greatest xs) (greatest ys)
greatest-append [] ys = omega arith
greatest-append (x ∷ xs) ys = omega (arith, greatest-append xs ys)

greatest-reverse : (xs : List ℕ) → greatest (reverse xs) ≡ greatest xs
greatest-reverse [] = refl
greatest-reverse (x ∷ xs) =
    let e : reverse (x ∷ xs) ≡ reverse xs ++ x ∷ [] = reverse-append (x ∷ []) xs in
    rw e (omega (arith, greatest-append (reverse xs) (x ∷ []), greatest-reverse xs))

-- one more number is looked at
pub greatest_next : (xs : List ℕ) (i most x : ℕ) → i < length xs → get_or xs i x ≡ x → max (max most x) (greatest (drop (i + 1) xs)) ≡ max most (greatest (drop i xs))
greatest_next xs i most x lt is =
    let k : suc i ≡ i + 1 = omega arith in
    let e : drop i xs ≡ x ∷ drop (i + 1) xs = rw (drop-cons xs i x lt, is, k) refl in
    rw e (omega arith)

seam_at : {A : Type 0} (k : ℕ) (xs ys : List A) → length xs ≡ k → (take k (xs ++ ys) ≡ xs) × (drop k (xs ++ ys) ≡ ys)
seam_at k xs ys e = rw (sym e) (take-append_seam xs ys, drop-append_seam xs ys)

-- what a list ends with, its reverse begins with
seam : (k : ℕ) (xs : List ℕ) → k ≤ length xs → (take k (reverse xs) ≡ reverse (drop (length xs - k) xs)) × (drop k (reverse xs) ≡ reverse (take (length xs - k) xs))
seam k xs le =
    let front = take (length xs - k) xs in
    let back = drop (length xs - k) xs in
    let parts : reverse xs ≡ reverse back ++ reverse front = ap (λ (zs : List ℕ). reverse zs) (sym (take-append-drop (length xs - k) xs)) ∙ reverse-append front back in
    let size : length (reverse back) ≡ k = length-reverse back ∙ (length-drop (length xs - k) xs ∙ omega arith) in
    rw parts (seam_at k (reverse back) (reverse front) size)

past : (k : ℕ) (xs : List ℕ) → length xs < k → (take k (reverse xs) ≡ reverse (drop (length xs - k) xs)) × (drop k (reverse xs) ≡ reverse (take (length xs - k) xs))
past k xs lt =
    let none : length xs - k ≡ 0 = omega arith in
    let size = length-reverse xs in
    (rw none (take_all k (reverse xs) (omega arith)), rw none (drop_of_length-le (reverse xs) (omega arith)))

pub ends : (k : ℕ) (xs : List ℕ) → (take k (reverse xs) ≡ reverse (drop (length xs - k) xs)) × (drop k (reverse xs) ≡ reverse (take (length xs - k) xs))
ends k xs = elim (cases_lt (length xs) k) [ inl lt ↦ past k xs lt | inr le ↦ seam k xs le ]

pub greatest-drop : (k : ℕ) (xs : List ℕ) → greatest (drop k xs) ≤ greatest xs
greatest-drop k xs =
    let e : greatest xs ≡ max (greatest (take k xs)) (greatest (drop k xs)) = ap (λ (zs : List ℕ). greatest zs) (sym (take-append-drop k xs)) ∙ greatest-append (take k xs) (drop k xs) in
    omega (arith, e)

pub greatest-take : (k : ℕ) (xs : List ℕ) → greatest (take k xs) ≤ greatest xs
greatest-take k xs =
    let e : greatest xs ≡ max (greatest (take k xs)) (greatest (drop k xs)) = ap (λ (zs : List ℕ). greatest zs) (sym (take-append-drop k xs)) ∙ greatest-append (take k xs) (drop k xs) in
    omega (arith, e)

-- one more part is looked at
pub levels_next : (parts : List KeyPart) (at : ℕ) (d : KeyPart) (levels : List ℕ) → at < length parts → reverse levels ≡ levels_of (drop (at + 1) parts)
    → reverse (take (length levels - key_arity (get_or parts at d)) levels ++ (greatest (drop (length levels - key_arity (get_or parts at d)) levels) + 1) ∷ []) ≡ levels_of (drop at parts)
levels_next parts at d levels lt so_far =
    let part = get_or parts at d in
    let k : suc at ≡ at + 1 = omega arith in
    let e : drop at parts ≡ part ∷ drop (at + 1) parts = drop-cons parts at d lt ∙ ap (λ (i : ℕ). part ∷ drop i parts) k in
    let others = length levels - key_arity part in
    let cut = ends (key_arity part) levels in
    let back : greatest (take (key_arity part) (reverse levels)) ≡ greatest (drop others levels) = ap (λ (ns : List ℕ). greatest ns) cut.0 ∙ greatest-reverse (drop others levels) in
    rw (e, sym so_far, back, cut.1) (reverse-append (take others levels) ((greatest (drop others levels) + 1) ∷ []))

-- the levels grow by one at the most
pub levels_bound : (others : ℕ) (levels : List ℕ) → greatest (take others levels ++ (greatest (drop others levels) + 1) ∷ []) ≤ greatest levels + 1
levels_bound others levels =
    omega (arith, greatest-append (take others levels) ((greatest (drop others levels) + 1) ∷ []), greatest-drop others levels, greatest-take others levels)

-- each part was looked at
pub levels_done : (parts : List KeyPart) (at : ℕ) (levels : List ℕ) → at ≤ 0 → reverse levels ≡ levels_of (drop at parts) → greatest levels ≡ greatest (levels_of parts)
levels_done parts at levels le so_far =
    let none : at ≡ 0 = omega arith in
    sym (greatest-reverse levels) ∙ ap (λ (ns : List ℕ). greatest ns) (so_far ∙ ap (λ (i : ℕ). levels_of (drop i parts)) none)
