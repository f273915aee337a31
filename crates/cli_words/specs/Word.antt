-- Words of 32 and 64 bits in two's complement (ECMA-335 I.12.1, III.1.5). A word is the number that
-- it stands for when read as signed, `w` is its width, and `cast_unsigned w` reads the same bits as
-- unsigned.
use Rattle.std.specs.Prelude.{ℕ, ◌%◌, ◌^◌, ℤ, pos, neg_ℤ}
use Rattle.std.specs.Int.{Width}
use mir.Val.{bits, hbits}

-- the least number of a width
abbrev pub least_number : Width → ℤ
least_number w = neg_ℤ (pos (2 ^ hbits w))

-- the factor of a shift; that its count is taken modulo the width is own
abbrev pub shift_factor : Width → ℕ → ℕ
shift_factor w count = 2 ^ (count % bits w)
