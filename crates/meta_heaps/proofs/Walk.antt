-- A step along the stream headers, with so many of them behind.
use Rattle.std.proofs.Common.{◌≡◌, ℕ, suc, ◌+◌, ◌-◌, ◌<◌, Bool, true, false, cond, List, ◌∷◌, Some, None, refl, arith}
use Rattle.std.specs.List.{find}
use Rattle.meta_heaps.specs.Streams.{headers_from, header_end}

next_header : (m : List ℕ) (at count n : ℕ) → n < count →
    headers_from m at (count - n) ≡ at ∷ headers_from m (header_end m at) (count - (n + 1))
next_header m at count n h =
    let left : count - n ≡ suc (count - (n + 1)) = omega arith in rw left refl

-- a test that fails at a header finds what it finds past it
pub find_past : (p : ℕ → Bool) (m : List ℕ) (at count n : ℕ) → n < count → p at ≡ false →
    find p (headers_from m at (count - n))
    ≡ find p (headers_from m (header_end m at) (count - (n + 1)))
find_past p m at count n h fails = let next = next_header m at count n h in rw (next, fails) refl

-- a test that passes at a header finds it
pub find_here : (p : ℕ → Bool) (m : List ℕ) (at count n : ℕ) → n < count → p at ≡ true →
    find p (headers_from m at (count - n)) ≡ Some at
find_here p m at count n h passes = let next = next_header m at count n h in rw (next, passes) refl

-- a test that finds nothing fails at the first header
pub none_here : (p : ℕ → Bool) (m : List ℕ) (at count n : ℕ) → n < count →
    find p (headers_from m at (count - n)) ≡ None → p at ≡ false
none_here p m at count n h none = fails_first (p at) refl
  where
    fails_first : (b : Bool) → p at ≡ b → p at ≡ false
    fails_first true e = let here = find_here p m at count n h e in cc
    fails_first false e = e

-- what a choice of a value or nothing says of its test
pub absent : {X : Type 0} (b : Bool) (x : X) → None ≡ cond b (Some x) None → b ≡ false
absent true x e = cc
absent false x e = refl

pub present : {X : Type 0} (b : Bool) (x y : X) → Some y ≡ cond b (Some x) None → (b ≡ true) × (y ≡ x)
present true x y e = (refl, cc)
present false x y e = cc
