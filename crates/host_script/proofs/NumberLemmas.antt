-- Numbers in digits, with one digit more.
use Rattle.std.proofs.Common.{◌≡◌, ℕ, ◌+◌, ◌-◌, ◌*◌, ◌<◌, List, [], ◌∷◌, length, take, get_or, arith}
use Rattle.std.specs.Prelude.{min}
use Rattle.std.proofs.lemmas.List.{take_more}
use Rattle.std.proofs.lemmas.List.Sums.{fold-append}
use Rattle.host_script.specs.Number.{digits_value}

pub value_more : (digits : List ℕ) (i : ℕ) → i < length digits →
    digits_value (take (i + 1) digits) ≡ digits_value (take i digits) * 10 + (get_or digits i 0 - 48)
value_more digits i lt =
    rw (take_more digits i 0 lt) (fold-append (λ value b. value * 10 + (b - 48)) 0 (take i digits) (get_or digits i 0 ∷ []))

-- a sum that stops at a greatest number
pub stopped : (greatest value digit : ℕ) →
    min (min (min value greatest * 10) greatest + digit) greatest ≡ min (value * 10 + digit) greatest
stopped greatest value digit = omega arith
