-- The keys that are among others.
use Rattle.std.proofs.Common.{◌≡◌, ◌⊎◌, ◌↔◌, inl, inr, ℕ, zero, suc, ◌<◌, true, false, Bool, ◌||◌, List, [], ◌∷◌, length, refl, sym, ap, ◌∙◌, arith, slice_index_or, Contains}
use Rattle.std.specs.List.{list_any}
use Rattle.signatures.specs.SameKeys.{same_key}
use Rattle.il_flow.proofs.Order.{Key, KeysCompare}

pub cons-cases : (x : Key) (xs : List Key) (k : Key) → Contains (x ∷ xs) k → (x ≡ k) ⊎ Contains xs k
cons-cases x xs k h = by h.0 h.1 h.2
  where
    by : (i : ℕ) → i < length (x ∷ xs) → slice_index_or (x ∷ xs) i k ≡ k → (x ≡ k) ⊎ Contains xs k
    by zero less e = inl e
    by (suc i) less e = inr (i, omega (arith, less), e)

pub cons-first : (x : Key) (xs : List Key) (k : Key) → x ≡ k → Contains (x ∷ xs) k
cons-first x xs k e = (0, omega arith, e)

pub cons-later : (x : Key) (xs : List Key) (k : Key) → Contains xs k → Contains (x ∷ xs) k
cons-later x xs k h = (suc h.0, omega (arith, h.1), h.2)

pub none-in : (k : Key) → Contains {X = Key} [] k → ⊥
none-in k h = omega (arith, h.1)

any-in : KeysCompare → (key : Key) (keys : List Key) → list_any (same_key key) keys ≡ true →
    Contains keys key
any-in compare key [] e = absurd (cc e)
any-in compare key (x ∷ xs) e = by (same_key key x) refl e (any-in compare key xs)
  where
    by : (b : Bool) → same_key key x ≡ b → b || list_any (same_key key) xs ≡ true →
        (list_any (same_key key) xs ≡ true → Contains xs key) → Contains (x ∷ xs) key
    by true is e rest = cons-first x xs key (sym ((compare key x).0 is))
    by false is e rest = cons-later x xs key (rest e)

in-any : KeysCompare → (key : Key) (keys : List Key) → Contains keys key →
    list_any (same_key key) keys ≡ true
in-any compare key [] h = absurd (none-in key h)
in-any compare key (x ∷ xs) h = by (cons-cases x xs key h) (in-any compare key xs)
  where
    always : (t : Bool) → t || true ≡ true
    always true = refl
    always false = refl

    by : (x ≡ key) ⊎ Contains xs key → (Contains xs key → list_any (same_key key) xs ≡ true) →
        same_key key x || list_any (same_key key) xs ≡ true
    by (inl e) rest = ap (λ t. t || list_any (same_key key) xs) ((compare key x).1 (sym e))
    by (inr h) rest = ap (λ t. same_key key x || t) (rest h) ∙ always (same_key key x)

pub among : KeysCompare → (key : Key) (keys : List Key) →
    (list_any (same_key key) keys ≡ true) ↔ Contains keys key
among compare key keys = (any-in compare key keys, in-any compare key keys)
