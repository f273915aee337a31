use Rattle.std.proofs.Common.{◌≡◌, length}
use Rattle.host_report.specs.TextReading.{prefixed, within_read}
use Rattle.host_report.proofs.text_reading.within.Given as goal

-- the units so far, and those that are left
abbrev pub invariant-loop-rest : goal.invariant-loop-rest
invariant-loop-rest l = within_read 0 l.fn.text ≡ prefixed l.units.items (within_read 0 l.rest)

abbrev pub decreases-loop-rest : goal.decreases-loop-rest
decreases-loop-rest l = length l.rest
