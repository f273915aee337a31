-- Keys that are the same (own).
use Rattle.std.specs.Prelude.{Bool, List}
use Rattle.std.specs.Cmp.Lexicographic.{pointwise}
use Rattle.signatures.specs.declared.key.KeyPart.{KeyPart}
use Rattle.signatures.specs.contracts.key.KeyPartPartialEq.TheImpl as part_eq

-- a test of whether two keys have the same parts
abbrev pub same_key : List KeyPart → List KeyPart → Bool
same_key = pointwise (part_eq.ghosts).eq
