use Rattle.std.proofs.Common.{◌≡◌, ◌-◌, ◌++◌, map, true}
use Rattle.std.specs.List.{AllByRecursion, flat_map}
use Rattle.signatures.specs.Types.{are_types}
use Rattle.signatures.specs.Keys.{key_arity, IsKey, IsProper}
use Rattle.signatures.proofs.made_of.keys.Given as goal

abbrev pub invariant-loop-i : goal.invariant-loop-i
invariant-loop-i l =
    (flat_map (λ key. key) l.keys.items ++ l.rest ≡ l.parts)
    × (are_types (l.count - l.i) (map key_arity l.rest) ≡ true)
    × IsProper l.rest
    × AllByRecursion IsKey l.keys.items
