use Rattle.std.proofs.Common.{◌≡◌, ◌==◌, ℕ, ◌+◌, ◌-◌, Bool, true, false, refl, List, [], ◌∷◌, length, take, drop, arith, sym, ◌∙◌}
use Rattle.std.specs.List.{slice_split, position_or_len}
use Rattle.std.proofs.lemmas.List.{take_rest}
use Rattle.std.proofs.lemmas.List.Splits.{slice_split_first}
use Rattle.host_script.proofs.ByteLemmas.{place_within}
use Rattle.host_script.proofs.number.at_dot.Goals as goal

abbrev dot_at : List ℕ → ℕ
dot_at bs = position_or_len (λ b. b == 46) bs

none_after : (x : ℕ) (xs : List ℕ) (t : Bool) → (x == 46) ≡ t → dot_at (x ∷ xs) ≡ length (x ∷ xs) →
    (dot_at xs ≡ length xs → slice_split (λ b. b == 46) xs ≡ xs ∷ []) →
    slice_split (λ b. b == 46) (x ∷ xs) ≡ (x ∷ xs) ∷ []
none_after x xs true e all next = let zero_is : 0 ≡ length (x ∷ xs) = rw e at all in absurd (omega arith)
none_after x xs false e all next =
    let more : 1 + dot_at xs ≡ length (x ∷ xs) = rw e at all in
    let rest = next (omega arith) in
    rw (e, rest) refl

none_at : (xs : List ℕ) → dot_at xs ≡ length xs → slice_split (λ b. b == 46) xs ≡ xs ∷ []
none_at [] e = refl
none_at (x ∷ xs) e = none_after x xs (x == 46) refl e (λ more. none_at xs more)

no_dot : (bs : List ℕ) (at : ℕ) → at ≡ dot_at bs → at ≡ length bs → slice_split (λ b. b == 46) bs ≡ bs ∷ []
no_dot bs at is all = none_at bs (sym is ∙ all)

dot : (bs : List ℕ) (at : ℕ) → at ≡ dot_at bs → (at ≡ length bs → ⊥) →
    slice_split (λ b. b == 46) bs
    ≡ take at bs ∷ slice_split (λ b. b == 46) (take (length bs - (at + 1)) (drop (at + 1) bs))
dot bs at is short =
    let within = place_within (λ b. b == 46) bs in
    rw (is, take_rest bs (dot_at bs + 1)) (slice_split_first (λ b. b == 46) bs 0 (omega arith))

pub returns-then-at-bytes : goal.returns-then-at-bytes
returns-then-at-bytes c = no_dot c.args.bytes.now c.first_at-at.result c.first_at-at.ensures.place c.if-at-bytes.true

pub returns : goal.returns
returns c = dot c.args.bytes.now c.first_at-at.result c.first_at-at.ensures.place c.if-at-bytes.false
