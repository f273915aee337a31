use Rattle.std.proofs.Common.{◌≡◌, ◌-◌}
use Rattle.signatures.specs.Grammar.{sigs_at}
use Rattle.signatures.proofs.Loops.{with_front}
use Rattle.signatures.proofs.reader.read_types.Given as goal

abbrev pub invariant-loop : goal.invariant-loop
invariant-loop l = with_front l.sigs.items (sigs_at (l.count - l.counter) l.rest) ≡ sigs_at l.count l.bytes
