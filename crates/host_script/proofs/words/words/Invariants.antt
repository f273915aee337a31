use Rattle.std.proofs.Common.{◌≡◌, ◌≤◌, ◌++◌, take, drop}
use Rattle.host_script.specs.Words.{words, texts}
use Rattle.host_script.proofs.WordLemmas.{words_left}
use Rattle.host_script.proofs.words.words.Given as goal

abbrev pub invariant-loop-at : goal.invariant-loop-at
invariant-loop-at l = record {
  behind : l.start ≤ l.at;
  left : words l.line ≡ texts l.found.items ++ words_left (drop l.start (take l.at l.line)) l.standing (drop l.at l.line);
}
