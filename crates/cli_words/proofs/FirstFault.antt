-- The first fault of checks that are put together.
use Rattle.std.proofs.Common.{◌≡◌, ℕ, ◌+◌, ◌<◌, zero, suc, List, [], ◌∷◌, ◌++◌, Option, Some, None, Result, Ok, Err, refl, sym, ap, subst, ◌∙◌, add-zero, arith}
use Rattle.std.specs.List.{flat_map, range_with_len}
use Rattle.cli_words.specs.Check.{first_fault, answer}
use Rattle.cli_words.specs.declared.check.FailedCheck.{FailedCheck}

abbrev pub Checks : Type 0
Checks = List (Option FailedCheck)

-- those of the second list count where the first has none
pub first_fault-none : (xs ys : Checks) → first_fault xs ≡ None → first_fault (xs ++ ys) ≡ first_fault ys
first_fault-none [] ys e = refl
first_fault-none (Some fault ∷ xs) ys e = absurd (cc)
first_fault-none (None ∷ xs) ys e = first_fault-none xs ys e

pub first_fault-some : (xs ys : Checks) (fault : FailedCheck) → first_fault xs ≡ Some fault → first_fault (xs ++ ys) ≡ Some fault
first_fault-some [] ys fault e = absurd (cc)
first_fault-some (Some other ∷ xs) ys fault e = e
first_fault-some (None ∷ xs) ys fault e = first_fault-some xs ys fault e

-- where the whole has none, neither part has
pub both_none : (xs ys : Checks) → first_fault (xs ++ ys) ≡ None → (first_fault xs ≡ None) × (first_fault ys ≡ None)
both_none [] ys e = (refl, e)
both_none (Some fault ∷ xs) ys e = absurd (cc)
both_none (None ∷ xs) ys e = both_none xs ys e

-- what an answer says of its fault
pub answer-ok : {A : Type 0} (o : Option FailedCheck) (v a : A) → Ok v ≡ answer o a → (o ≡ None) × (v ≡ a)
answer-ok None v a e = (refl, cc)
answer-ok (Some fault) v a e = absurd (cc)

pub answer-err : {A : Type 0} (o : Option FailedCheck) (fault : FailedCheck) (a : A) → Err fault ≡ answer o a → o ≡ Some fault
answer-err None fault a e = absurd (cc)
answer-err (Some found) fault a e = (let same : fault ≡ found = cc in ap Some (sym same))

-- a stage with a fault, before others
pub answer-refuses : {A B : Type 0} (xs ys : Checks) (fault : FailedCheck) (a : A) (b : B)
    → Err fault ≡ answer (first_fault xs) a → Err fault ≡ answer (first_fault (xs ++ ys)) b
answer-refuses xs ys fault a b e =
    sym (ap (λ o. answer o b) (first_fault-some xs ys fault (answer-err (first_fault xs) fault a e)))

-- a stage with none
pub answer-goes_on : {A B : Type 0} (xs ys : Checks) (v a : A) (b : B) (r : Result B FailedCheck)
    → Ok v ≡ answer (first_fault xs) a → r ≡ answer (first_fault ys) b → r ≡ answer (first_fault (xs ++ ys)) b
answer-goes_on xs ys v a b r e f =
    f ∙ ap (λ o. answer o b) (sym (first_fault-none xs ys (answer-ok (first_fault xs) v a e).0))

-- what the last stage gives, in the whole
pub answer-carries : {A B : Type 0} (f : A → B) (o : Option FailedCheck) (v a : A) → Ok v ≡ answer o a → Ok (f v) ≡ answer o (f a)
answer-carries f None v a e = (let same : v ≡ a = cc in ap (λ x. Ok (f x)) same)
answer-carries f (Some fault) v a e = absurd (cc)

-- the checks of numbers in order, each with its own
module _ (checks : ℕ → Checks) where
  -- where the numbers after the first have none
  abbrev NoneFrom : ℕ → ℕ → Type 0
  NoneFrom first n = first_fault (flat_map checks (range_with_len first n)) ≡ None

  moved : (first n : ℕ) → first + suc n ≡ first + 1 + n
  moved first n = omega arith

  -- none so far, and none of the next number
  pub none_next : (first n : ℕ) → NoneFrom first n → first_fault (checks (first + n)) ≡ None → NoneFrom first (suc n)
  none_next first zero e f =
      let here : first_fault (checks first) ≡ None = rw add-zero at f in first_fault-none (checks first) [] here
  none_next first (suc n) e f =
      let parts = both_none (checks first) (flat_map checks (range_with_len (first + 1) n)) e in
      let next = subst (λ (m : ℕ). first_fault (checks m) ≡ None) (moved first n) f in
      first_fault-none (checks first) _ parts.0 ∙ none_next (first + 1) n parts.1 next

  -- none so far, and one of the next number
  pub some_next : (first n more : ℕ) (fault : FailedCheck) → NoneFrom first n → first_fault (checks (first + n)) ≡ Some fault → n < more
      → first_fault (flat_map checks (range_with_len first more)) ≡ Some fault
  some_next first n zero fault e f within = absurd (omega arith)
  some_next first zero (suc more) fault e f within =
      let here : first_fault (checks first) ≡ Some fault = rw add-zero at f in first_fault-some (checks first) _ fault here
  some_next first (suc n) (suc more) fault e f within =
      let parts = both_none (checks first) (flat_map checks (range_with_len (first + 1) n)) e in
      let next = subst (λ (m : ℕ). first_fault (checks m) ≡ Some fault) (moved first n) f in
      first_fault-none (checks first) _ parts.0 ∙ some_next (first + 1) n more fault parts.1 next (omega arith)

  -- none at all, so none of each
  pub none_of_each : (first n i : ℕ) → NoneFrom first n → i < n → first_fault (checks (first + i)) ≡ None
  none_of_each first zero i e within = absurd (omega arith)
  none_of_each first (suc n) zero e within =
      rw add-zero (both_none (checks first) (flat_map checks (range_with_len (first + 1) n)) e).0
  none_of_each first (suc n) (suc i) e within =
      let parts = both_none (checks first) (flat_map checks (range_with_len (first + 1) n)) e in
      subst (λ (m : ℕ). first_fault (checks m) ≡ None) (sym (moved first i)) (none_of_each (first + 1) n i parts.1 (omega arith))
