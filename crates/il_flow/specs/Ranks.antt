-- How many steps up the order of merging there can be from what a place of the stack holds (own).
use Rattle.std.specs.Prelude.{ℕ, Some, None, length}
use Rattle.il_flow.specs.declared.stack.StackType.TheVariants.{Int32, Int64, Native, Null, Ref}
use Rattle.il_flow.specs.Families.{Family}
use Rattle.il_flow.specs.Merging.{Held, chain_of}

-- 67 at most: a chain has 66 types at most
abbrev pub rank : Family → Held → ℕ
rank family None = 0
rank family (Some Int32) = 1
rank family (Some Int64) = 1
rank family (Some Native) = 1
rank family (Some Null) = 67
rank family (Some (Ref key)) = length (chain_of family key)
