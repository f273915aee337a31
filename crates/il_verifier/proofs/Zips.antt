-- Lists that go together place by place.
use Rattle.std.proofs.Common.{◌≡◌, ℕ, zero, suc, ◌+◌, ◌<◌, List, [], ◌∷◌, length, take, get_or, refl, ap, subst, arith}
use Rattle.std.specs.List.{AllZip}

suc-more : {A B : Type 0} (R : A → B → Type 0) (xs : List A) (ys : List B) (i : ℕ) (d : A) (e : B) → i < length xs →
    i < length ys → AllZip R (take i xs) (take i ys) → R (get_or xs i d) (get_or ys i e) →
    AllZip R (take (suc i) xs) (take (suc i) ys)
suc-more R (a ∷ xs) (b ∷ ys) zero d e less more all here = (here, tt)
suc-more R (a ∷ xs) (b ∷ ys) (suc i) d e less more all here =
    (all.0, suc-more R xs ys i d e (omega (arith, less)) (omega (arith, more)) all.1 here)
suc-more R [] ys i d e less more all here = absurd (omega (arith, less))
suc-more R (a ∷ xs) [] i d e less more all here = absurd (omega (arith, more))

-- one place more
pub zip-more : {A B : Type 0} (R : A → B → Type 0) (xs : List A) (ys : List B) (i : ℕ) (d : A) (e : B) → i < length xs →
    i < length ys → AllZip R (take i xs) (take i ys) → R (get_or xs i d) (get_or ys i e) →
    AllZip R (take (i + 1) xs) (take (i + 1) ys)
zip-more R xs ys i d e less more all here =
    let next : suc i ≡ i + 1 = omega arith in
    subst (λ n. AllZip R (take n xs) (take n ys)) next (suc-more R xs ys i d e less more all here)

-- one place of all
pub zip-at : {A B : Type 0} (R : A → B → Type 0) (xs : List A) (ys : List B) (i : ℕ) (d : A) (e : B) → i < length xs →
    AllZip R xs ys → R (get_or xs i d) (get_or ys i e)
zip-at R (a ∷ xs) (b ∷ ys) zero d e less all = all.0
zip-at R (a ∷ xs) (b ∷ ys) (suc i) d e less all = zip-at R xs ys i d e (omega (arith, less)) all.1
zip-at R [] ys i d e less all = absurd (omega (arith, less))
zip-at R (a ∷ xs) [] i d e less all = absurd all

pub zip-lengths : {A B : Type 0} (R : A → B → Type 0) (xs : List A) (ys : List B) → AllZip R xs ys → length xs ≡ length ys
zip-lengths R [] [] all = refl
zip-lengths R (a ∷ xs) (b ∷ ys) all = ap (λ n. suc n) (zip-lengths R xs ys all.1)
zip-lengths R [] (b ∷ ys) all = absurd all
zip-lengths R (a ∷ xs) [] all = absurd all
