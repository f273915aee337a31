use Rattle.std.proofs.Common.{◌≡◌, drop}
use Rattle.host_script.specs.Row.{argument_list}
use Rattle.host_script.specs.Words.{texts}
use Rattle.host_script.proofs.RowLemmas.{with_front}
use Rattle.host_script.proofs.row.arguments.Given as goal

abbrev pub invariant-loop-at : goal.invariant-loop-at
invariant-loop-at l =
    argument_list (drop l.from (texts l.words))
    ≡ with_front l.arguments.items (argument_list (drop l.at (texts l.words)))
