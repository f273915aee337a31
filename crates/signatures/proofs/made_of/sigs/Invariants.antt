use Rattle.std.proofs.Common.{◌≡◌, ◌-◌, ◌++◌, map, true}
use Rattle.std.specs.List.{AllByRecursion, flat_map}
use Rattle.signatures.specs.Types.{arity, are_types, IsSig}
use Rattle.signatures.proofs.made_of.sigs.Given as goal

abbrev pub invariant-loop-i : goal.invariant-loop-i
invariant-loop-i l =
    (flat_map (λ sig. sig) l.sigs.items ++ l.rest ≡ l.parts)
    × (are_types (l.count - l.i) (map arity l.rest) ≡ true)
    × AllByRecursion IsSig l.sigs.items
