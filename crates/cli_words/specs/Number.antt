-- Numbers in a list of bytes, the lowest byte first (ECMA-335 II.24.2, II.25.2). A byte past the list's
-- end counts as 0.
use Rattle.std.specs.Prelude.{ℕ, List, drop}
use Rattle.std.specs.Int.{Width, from_le_bytes}

-- the number in as many bytes as the width has, from a place on
abbrev pub number_at : Width → List ℕ → ℕ → ℕ
number_at w bytes at = from_le_bytes w (drop at bytes)
