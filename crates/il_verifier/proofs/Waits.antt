-- Places that wait.
use Rattle.std.proofs.Common.{◌≡◌, ◌⊎◌, inl, inr, ℕ, zero, suc, ◌<◌, ◌≤◌, Bool, true, false, IsTrue, List, [], ◌∷◌, length, get_or, set, refl, sym, ap, subst, ◌∙◌, arith, Contains}
use Rattle.std.proofs.Common.{get_or-set_other, get_or-set_same}
use Rattle.std.specs.List.Sorted.{IsPermutation}
use Rattle.std.proofs.lemmas.Bool.{cases_eq}
use Rattle.std.proofs.lemmas.List.{get_or_past}
use Rattle.std.proofs.lemmas.List.Sorted.{Contains-permutation, length_permutation, IsPermutation-sym}
use Rattle.il_verifier.specs.Worklist.{IsListed, IsWithout}

head-there : (xs : List ℕ) (x : ℕ) → Contains (x ∷ xs) x
head-there xs x = (0, omega arith, refl)

tail-there : (xs : List ℕ) (x y : ℕ) → Contains xs y → Contains (x ∷ xs) y
tail-there xs x y h = (suc h.0, omega (arith, h.1), h.2)

which-there : (xs : List ℕ) (x y : ℕ) → Contains (x ∷ xs) y → Contains xs y ⊎ (y ≡ x)
which-there xs x y h = at h.0 h.1 h.2
  where
    at : (i : ℕ) → i < length (x ∷ xs) → get_or (x ∷ xs) i y ≡ y → Contains xs y ⊎ (y ≡ x)
    at zero less is = inr (sym is)
    at (suc i) less is = inl (i, omega (arith, less), is)

-- a place more
pub listed-more : (old new : List ℕ) (place : ℕ) → IsPermutation (place ∷ old) new → IsListed place old new
listed-more old new place perm = record {
  stays = λ p h. Contains-permutation (place ∷ old) new p perm (tail-there old place p h);
  there = Contains-permutation (place ∷ old) new place perm (head-there old place);
  only = λ p h. which-there old place p (Contains-permutation new (place ∷ old) p (IsPermutation-sym (place ∷ old) new perm) h);
  few = let size = length_permutation (place ∷ old) new perm in omega (arith, size);
}

-- a place that is there already
pub listed-same : (list : List ℕ) (place : ℕ) → Contains list place → IsListed place list list
listed-same list place there = record {
  stays = λ p h. h;
  there = there;
  only = λ p h. inl h;
  few = omega arith;
}

-- a place is taken
pub without-one : (old new : List ℕ) (at : ℕ) → IsPermutation old (at ∷ new) → IsWithout at old new
without-one old new at perm = record {
  was = Contains-permutation (at ∷ new) old at (IsPermutation-sym old (at ∷ new) perm) (head-there new at);
  left = λ p h. which-there new at p (Contains-permutation old (at ∷ new) p perm h);
  only = λ p h. Contains-permutation (at ∷ new) old p (IsPermutation-sym old (at ∷ new) perm) (tail-there new at p h);
  fewer = let size = length_permutation old (at ∷ new) perm in omega (arith, size);
}

-- the marks are those of places that are there
abbrev pub AreFlags : List Bool → List ℕ → Type 0
AreFlags flags list = (p : ℕ) → IsTrue (get_or flags p false) → Contains list p

pub flags-stay : (flags : List Bool) (old new : List ℕ) (place : ℕ) → AreFlags flags old → IsListed place old new → AreFlags flags new
flags-stay flags old new place all listed p h = listed.stays p (all p h)

pub flags-set : (flags : List Bool) (old new : List ℕ) (place : ℕ) → AreFlags flags old → IsListed place old new →
    AreFlags (set flags place true) new
flags-set flags old new place all listed p h = elim (cases_eq p place) [
  | inl same ↦ subst (λ (k : ℕ). Contains new k) (sym same) listed.there
  | inr apart ↦ listed.stays p (all p (sym (get_or-set_other flags place p true false apart) ∙ h))
]

pub flags-clear : (flags : List Bool) (old new : List ℕ) (at : ℕ) → at < length flags → AreFlags flags old → IsWithout at old new →
    AreFlags (set flags at false) new
flags-clear flags old new at less all without p h = elim (cases_eq p at) [
  | inl same ↦
      let now : get_or (set flags at false) at false ≡ true =
      subst (λ (k : ℕ). get_or (set flags at false) k false ≡ true) same h in
      absurd (cc (now, get_or-set_same flags at false false less))
  | inr apart ↦ elim (without.left p (all p (sym (get_or-set_other flags at p false false apart) ∙ h))) [
    | inl there ↦ there
    | inr same ↦ absurd (apart same)
  ]
]

pub flags-keep : (flags : List Bool) (old new : List ℕ) (at : ℕ) → length flags ≤ at → AreFlags flags old → IsWithout at old new →
    AreFlags flags new
flags-keep flags old new at past all without p h = elim (without.left p (all p h)) [
  | inl there ↦ there
  | inr same ↦
      let now : get_or flags at false ≡ true = subst (λ (k : ℕ). get_or flags k false ≡ true) same h in
      absurd (cc (now, get_or_past flags at false past))
]

pub single : (ys : List ℕ) (x : ℕ) → IsPermutation (x ∷ []) ys → ys ≡ x ∷ []
single [] x perm = absurd (omega (arith, length_permutation (x ∷ []) [] perm))
single (y ∷ []) x perm =
    by (which-there [] x y (Contains-permutation (y ∷ []) (x ∷ []) y (IsPermutation-sym (x ∷ []) (y ∷ []) perm) (head-there [] y)))
  where
    by : Contains [] y ⊎ (y ≡ x) → y ∷ [] ≡ x ∷ []
    by (inl h) = absurd (omega (arith, h.1))
    by (inr same) = ap (λ (k : ℕ). k ∷ []) same
single (y ∷ z ∷ ys) x perm = absurd (omega (arith, length_permutation (x ∷ []) (y ∷ z ∷ ys) perm))
