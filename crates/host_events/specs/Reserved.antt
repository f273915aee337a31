-- Lists with room that was taken before (own).
use Rattle.std.specs.Prelude.{ℕ, List}

-- a list, and how many elements can still be added to it without taking memory
pub record Reserved (T : Type 0) : Type 0 where
  pub list : List T
  pub spare : ℕ

-- a list that nothing is added to any more
abbrev pub sealed : {T : Type 0} → List T → Reserved T
sealed list = record { list = list; spare = 0 }
