use Rattle.std.proofs.Common.{◌≡◌, length}
use Rattle.host_report.specs.KeyReading.{closed, drafted}
use Rattle.host_report.proofs.key_reading.close.Given as goal

abbrev pub invariant-loop-draft : goal.invariant-loop-draft
invariant-loop-draft l =
    let now = drafted l.draft in
    let before = drafted l.initial.draft in
    closed now.outers now.parts ≡ closed before.outers before.parts

abbrev pub decreases-loop-draft : goal.decreases-loop-draft
decreases-loop-draft l = length l.draft.outers.items
