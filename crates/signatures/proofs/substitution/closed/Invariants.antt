use Rattle.std.proofs.Common.{◌≡◌, ℕ, ◌≤◌, true, List, ◌++◌, map, take, vec_len}
use Rattle.signatures.specs.Types.{arity, are_types}
use Rattle.signatures.specs.Keys.{IsProper, key_arity}
use Rattle.signatures.specs.Substitution.{closed}
use Rattle.signatures.proofs.substitution.closed.Given as goal

-- what the parts so far stand for, which are whole with what makes them whole
abbrev pub invariant-loop-part : goal.invariant-loop-part
invariant-loop-part l =
    (l.key.items ≡ closed l.classes l.args (take l.part-index l.parts))
    × (vec_len l.key ≤ 256)
    × ((n : ℕ) (more : List ℕ) → are_types n (map arity (take l.part-index l.parts) ++ more) ≡ true → are_types n (map key_arity l.key.items ++ more) ≡ true)
    × IsProper l.key.items
