-- What a choice of a value or nothing says of its test.
use Rattle.std.proofs.Common.{◌≡◌, Bool, true, false, cond, Some, None, refl}

pub absent : {X : Type 0} (b : Bool) (x : X) → None ≡ cond b (Some x) None → b ≡ false
absent true x e = cc
absent false x e = refl

pub present : {X : Type 0} (b : Bool) (x y : X) → Some y ≡ cond b (Some x) None →
    (b ≡ true) × (y ≡ x)
present true x y e = (refl, cc)
present false x y e = cc

-- a value that is there is one
pub same : {X : Type 0} (x y : X) → Some x ≡ Some y → x ≡ y
same x y e = cc
