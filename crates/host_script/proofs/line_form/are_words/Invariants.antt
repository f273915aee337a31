use Rattle.std.proofs.Common.{◌≡◌, drop}
use Rattle.std.specs.List.{list_all}
use Rattle.host_script.specs.LineForm.{is_word}
use Rattle.host_script.specs.Words.{texts}
use Rattle.host_script.proofs.line_form.are_words.Given as goal

abbrev pub invariant-loop-at : goal.invariant-loop-at
invariant-loop-at l = list_all is_word (texts l.words) ≡ list_all is_word (drop l.at (texts l.words))
