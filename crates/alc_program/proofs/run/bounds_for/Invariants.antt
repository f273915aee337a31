use Rattle.std.proofs.Common.{◌≡◌, map, take}
use Rattle.alc_program.specs.Shares.{share_for}
use Rattle.alc_program.proofs.run.bounds_for.Given as goal

abbrev pub invariant-loop-commands : goal.invariant-loop-commands
invariant-loop-commands l = l.shares.items ≡ map share_for (take l.commands-index l.threads)
