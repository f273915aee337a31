-- The rows of Param that methods have, one method after the other (ECMA-335 II.22.26).
use Rattle.std.specs.Prelude.{ℕ, ◌+◌, ◌-◌, ◌&&◌, Bool, true, nat_le, List, [], ◌∷◌, Option, Some, None, if◌then◌else◌}
use Rattle.image_maker.specs.declared.module.MethodRow.{MethodRow}

-- each method's rows begin in a table of this many rows, or right after it, where so many rows come before
abbrev pub are_within : ℕ → ℕ → List MethodRow → Bool
are_within rows before [] = true
are_within rows before (m ∷ methods) = nat_le before rows && are_within rows (before + m.params) methods

-- how many rows are left, unless more come before than there are
abbrev pub left_of : ℕ → ℕ → Option ℕ
left_of rows before = if nat_le before rows then Some (rows - before) else None
