use Rattle.std.proofs.Common.{◌≡◌, ◌+◌, ◌*◌, ◌-◌, ◌^◌, ◌≤◌, length}
use Rattle.signatures.specs.Grammar.{types_at, type_at}
use Rattle.signatures.proofs.Loops.{with_front}
use Rattle.signatures.proofs.reader.read_type.Given as goal

-- each part so far took a byte at the least, and the parts to come complete them
abbrev pub invariant-loop-due : goal.invariant-loop-due
invariant-loop-due l =
    (length l.rest + length l.parts.items ≤ length l.bytes)
    × (l.due + 2 ^ 32 * length l.rest ≤ 1 + 2 ^ 32 * length l.bytes)
    × (with_front l.parts.items (types_at (length l.bytes - length l.parts.items) l.due l.rest) ≡ type_at l.bytes)

abbrev pub decreases-loop-due : goal.decreases-loop-due
decreases-loop-due l = length l.rest
