use Rattle.std.proofs.Common.{◌≡◌, drop}
use Rattle.std.specs.List.{find, list_any}
use Rattle.signatures.specs.SameKeys.{same_key}
use Rattle.il_flow.proofs.merging.first_among.Given as goal

-- none of the keys so far is among the others
abbrev pub invariant-loop-key : goal.invariant-loop-key
invariant-loop-key l =
    find (λ key. list_any (same_key key) l.others) (drop l.key-index l.keys)
    ≡ find (λ key. list_any (same_key key) l.others) l.keys
