use Rattle.std.proofs.Common.{◌≡◌, drop}
use Rattle.host_script.specs.Lines.{is_passed_over}
use Rattle.host_script.proofs.line.is_passed_over.Given as goal

abbrev pub invariant-loop-byte : goal.invariant-loop-byte
invariant-loop-byte l = is_passed_over l.line ≡ is_passed_over (drop l.byte-index l.line)
